-- The least by a key, of what a chain of iterators gives; and that it is the first best of the blocks in their order.
use Rattle.std.proofs.Common.{◌≡◌, ℕ, zero, suc, ◌≤◌, Bool, true, false, cond, not, eqb, ltb, List, [], ◌∷◌, length, get_or, Some, None, Option, Ordering, Less, Equal, Greater, map, filter, MatchOption, sym, refl, ap, ◌∙◌, subst, inl, inr, ◌⊎◌, ⊎_elim, arith}
use Rattle.std.specs.Prelude.{IfSome, slice_get}
use Rattle.std.specs.List.{filter_map, cons_option}
use Rattle.std.specs.Option.{IsSomeAnd, unwrap_or}
use Rattle.std.specs.Ordering.{is_lt, nat_cmp, ordering_then}
use Rattle.std.specs.Fn.{CalledAt}
use Rattle.std.specs.Iterator.Runs.{WholeRun, Run, AnyItem, NoKeyBeyond}
use Rattle.std.proofs.iter.runs.Made.{took, at-is}
use Rattle.std.proofs.lemmas.Bool.{both_ways, cond-true, ltb-false, le-ltb, eq-eqb, and_from}
use Rattle.std.proofs.lemmas.Iterator.{YieldsList, items_from_drains}
use denote.Param.Members.{Mut}
use denote.Ref.{Bor}
use Rattle.std.specs.declared.cmp.Reverse.{Reverse}
use Rattle.chains.specs.Chains.{has}
use Rattle.chains.specs.Lists.{In}
use Rattle.chains.proofs.Lists.{in_has}
use Rattle.partition.specs.Blocks.{block_list}
use Rattle.partition.proofs.Counting.{of_among, in_among}
use Rattle.partition.proofs.Places.{in_kept, of_kept}
use Rattle.partition.specs.Times.{AtEach}
use Rattle.partition.specs.declared.partition.Partition.{Partition}
use Rattle.joining.proofs.Outcome.{in_order}
use Rattle.joining.specs.Outcomes.{both_blocks}
use Rattle.dividing.specs.Choosing.{cheapest}
use Rattle.dividing.specs.Dividing.{others}
use Rattle.dividing.specs.Firsts.{first_least_of, first_greatest}
use Rattle.dividing.specs.declared.choice.Choice.{Choice}
use Rattle.dividing.proofs.Firsts.{Chosen, Rising, first_chosen, chosen_in, chosen_first, greatest_ranks, least_ranks}
use Rattle.dividing.proofs.Meeting.{rising_among, rising_kept, least_of_chosen}

-- m is in the list, and no element has a lesser key
pub record Least {A K : Type 0} (cmp : K → K → Ordering) (key : A → K) (all : List A) (m : A) : Type 0 where
  pub inside : In m all
  pub least : (y : A) → In y all → is_lt (cmp (key y) (key m)) ≡ false

same_map : {A : Type 0} (xs : List A) → map (λ x. x) xs ≡ xs
same_map [] = refl
same_map (x ∷ xs) = ap (λ l. x ∷ l) (same_map xs)

none_left : {A : Type 0} (xs : List A) → length xs ≡ 0 → xs ≡ []
none_left [] e = refl
none_left (x ∷ xs) e = absurd (omega (arith, e))

in_at : {A : Type 0} (m : A) (xs : List A) (k : ℕ) → IsSomeAnd (slice_get xs k) (λ x. x ≡ m) → In m xs
in_at m [] k h = absurd h
in_at m (x ∷ xs) zero h = inl (sym h)
in_at m (x ∷ xs) (suc k) h = inr (in_at m xs k h)

at_of : {A : Type 0} (y : A) (xs : List A) → In y xs → (k : ℕ) × (slice_get xs k ≡ Some y)
at_of y [] i = absurd i
at_of y (x ∷ xs) i = ⊎_elim (λ (e : y ≡ x). (0, ap (λ v. Some v) (sym e))) (λ j. let r = at_of y xs j in (suc r.0, r.1)) i

module _ {S A F K : Type 0} {steps : S → Option A → S → Type 0} (g : Mut F (Bor A × Unit {0}) K) (cmp : K → K → Ordering) (key : A → K) (f : F)
    (calls : (x : A) (k : K) (q : F) → CalledAt g f x k q → (q ≡ f) × (k ≡ key x)) where
  items_are : (p : Run steps) (s : S) (all : List A) → p.from ≡ s → p.whole ≡ true → YieldsList steps (λ x. x) s all → p.items ≡ all
  items_are p s all e w road =
      let d = took p in
      sym (same_map p.items) ∙ items_from_drains p.items (d.0, d.1, λ _. d.2 w) (subst (λ k. YieldsList steps (λ x. x) k all) (sym e) road)

  -- what `min_by_key` answers
  pub least_by_key : {s : S} {all : List A} (r : Option A) → WholeRun steps s (λ p. MatchOption r (p.len ≡ 0) (λ m. AnyItem p (λ x. x ≡ m) × NoKeyBeyond p g f is_lt cmp m))
      → YieldsList steps (λ x. x) s all → MatchOption r (all ≡ []) (Least cmp key all)
  least_by_key {s} {all} None h road = sym (items_are h.0 s all h.1 h.2 road) ∙ none_left h.0.items (sym h.0.long ∙ h.3)
  least_by_key {s} {all} (Some m) h road =
      let p = h.0 in
      let items = items_are p s all h.1 h.2 road in
      let any = h.3.0 in
      let none = h.3.1 (λ a k q c. (calls a.0.now k q (record { shown = a.0; shows = refl; called = c })).0) in
      record {
        inside = subst (λ l. In m l) items (in_at m p.items any.0 (subst (λ o. IsSomeAnd o (λ x. x ≡ m)) (at-is p any.0) any.2));
        least = λ y i.
            let k = at_of y p.items (subst (λ l. In y l) (sym items) i) in
            let beyond : (j : K) × CalledAt g f y j f × (is_lt (cmp j none.0) ≡ false) =
            subst (λ o. IfSome o (λ x. (j : K) × CalledAt g f x j f × (is_lt (cmp j none.0) ≡ false))) (at-is p k.0 ∙ k.1) (none.2 k.0) in
            subst (λ v. is_lt (cmp v (key m)) ≡ false) (calls y beyond.0 f beyond.1).1 (subst (λ v. is_lt (cmp beyond.0 v) ≡ false) (calls m none.0 f none.1).1 beyond.2);
      }

-- of two pairs that are compared by their first parts and then by their second
pub lesser : (a b x y : ℕ) → is_lt (ordering_then (nat_cmp a b) (nat_cmp x y)) ≡ false → (b ≤ a) × (a ≡ b → y ≤ x)
lesser a b x y = go (ltb a b) (eqb a b) (ltb x y) (eqb x y) refl refl refl
  where
    go : (s t u v : Bool) → ltb a b ≡ s → eqb a b ≡ t → ltb x y ≡ u → is_lt (ordering_then (cond s Less (cond t Equal Greater)) (cond u Less (cond v Equal Greater))) ≡ false → (b ≤ a) × (a ≡ b → y ≤ x)
    go true t u v p q r h = absurd (both_ways true h refl)
    go false true true v p q r h = absurd (both_ways true h refl)
    go false true false v p q r h = (ltb-false a b p, λ e. ltb-false x y r)
    go false false u v p q r h = (ltb-false a b p, λ e. absurd (both_ways (eqb a b) q (eq-eqb a b e)))

-- in a rising list the first best is the one than which none is better, and which none as good precedes
chosen_is : (better : ℕ → ℕ → Bool) (xs : List ℕ) (r c : ℕ) → Chosen better xs r → In r xs → Rising xs → In c xs → ((y : ℕ) → In y xs → (better y c ≡ false) × (better c y ≡ false → c ≤ y)) → r ≡ c
chosen_is better xs r c chosen ir rising ic best =
    omega (arith, chosen_first better xs r c chosen rising ic (best r ir).0, (best r ir).1 (chosen.none c ic))

still_in : {B : Type 0} (o : Option B) (ys : List B) (y : B) → In y ys → In y (cons_option o ys)
still_in None ys y i = i
still_in (Some v) ys y i = inr i

of_cons : {B : Type 0} (o : Option B) (ys : List B) (y : B) → In y (cons_option o ys) → (o ≡ Some y) ⊎ In y ys
of_cons None ys y i = inr i
of_cons (Some v) ys y i = ⊎_elim (λ (e : y ≡ v). inl (ap (λ w. Some w) (sym e))) (λ j. inr j) i

in_mapped : {A B : Type 0} (h : A → Option B) (xs : List A) (x : A) (y : B) → In x xs → h x ≡ Some y → In y (filter_map h xs)
in_mapped h [] x y i e = absurd i
in_mapped h (z ∷ xs) x y i e =
    ⊎_elim
    (λ (q : x ≡ z). subst (λ o. In y (cons_option o (filter_map h xs))) (sym (ap h (sym q) ∙ e)) (inl refl))
    (λ j. still_in (h z) (filter_map h xs) y (in_mapped h xs x y j e))
    i

of_mapped : {A B : Type 0} (h : A → Option B) (xs : List A) (y : B) → In y (filter_map h xs) → (x : A) × In x xs × (h x ≡ Some y)
of_mapped h [] y i = absurd i
of_mapped h (z ∷ xs) y i =
    ⊎_elim (λ (e : h z ≡ Some y). (z, inl refl, e)) (λ j. let r = of_mapped h xs y j in (r.0, inr r.1, r.2)) (of_cons (h z) (filter_map h xs) y i)

none_of : (xs : List ℕ) → ((b : ℕ) → In b xs → ⊥) → xs ≡ []
none_of [] never = refl
none_of (x ∷ xs) never = absurd (never x (inl refl))

module _ (blocks order : List ℕ) (same : (b : ℕ) → (In b order → In b (block_list blocks)) × (In b (block_list blocks) → In b order)) where
  module _ (h : ℕ) (known : has h (block_list blocks) ≡ true) (price : ℕ → ℕ) where
    abbrev chosen : ℕ → Choice
    chosen b = record { partner = b; cost = price b }

    -- what each block of the order is offered as
    abbrev pub offered : ℕ → Option Choice
    offered b = cond (both_blocks blocks h b) (Some (chosen b)) None

    abbrev other : ℕ → Bool
    other b = not (eqb b h)

    abbrev pub offers : List Choice
    offers = filter_map offered (filter other order)

    in_offers : (b : ℕ) → In b (others h blocks) → In (chosen b) offers
    in_offers b i =
        let k = of_kept other (block_list blocks) b i in
        in_mapped offered (filter other order) b (chosen b) (in_kept other order b ((same b).1 k.0) k.1)
        (cond-true (both_blocks blocks h b) (Some (chosen b)) None (and_from (has h (block_list blocks)) (has b (block_list blocks)) known (in_has b (block_list blocks) k.0)))

    of_offers : (c : Choice) → In c offers → In c.partner (others h blocks) × (c ≡ chosen c.partner)
    of_offers c i =
        let r = of_mapped offered (filter other order) c i in
        let k = of_kept other order r.0 r.1 in
        let both = and_from (has h (block_list blocks)) (has r.0 (block_list blocks)) known (in_has r.0 (block_list blocks) ((same r.0).0 k.0)) in
        let e : ◌≡◌ {A = Option Choice} (Some (chosen r.0)) (Some c) = sym (cond-true (both_blocks blocks h r.0) (Some (chosen r.0)) None both) ∙ r.2 in
        let is : chosen r.0 ≡ c = cc in
        (subst (λ (x : Choice). In x.partner (others h blocks)) is (in_kept other (block_list blocks) r.0 ((same r.0).0 k.0) k.1), subst (λ (x : Choice). x ≡ chosen x.partner) is refl)

    first_of : (xs : List ℕ) → In (first_least_of price 0 xs) xs → cheapest price xs ≡ Some (chosen (first_least_of price 0 xs))
    first_of [] i = absurd i
    first_of (x ∷ xs) i = refl

    -- the least by cost, and then by number, is the best partner
    pub partner_picked : (r : Option Choice) → MatchOption r (offers ≡ []) (Least {K = ℕ × ℕ} (λ x y. ordering_then (nat_cmp x.0 y.0) (nat_cmp x.1 y.1)) (λ (c : Choice). (c.cost, c.partner)) offers) → r ≡ cheapest price (others h blocks)
    partner_picked None e = ap (cheapest price) (sym (none_of (others h blocks) (λ b i. subst (λ l. In (chosen b) l) e (in_offers b i))))
    partner_picked (Some m) l =
        let xs = others h blocks in
        let b = m.partner in
        let k = of_offers m l.inside in
        let paid : m.cost ≡ price b = ap (λ (c : Choice). c.cost) k.1 in
        let some : xs ≡ [] → ⊥ = λ e. subst (λ l. In b l) e k.0 in
        let first : Chosen (λ y a. ltb (price y) (price a)) xs (first_least_of price 0 xs) = least_of_chosen price xs some in
        let inside : In (first_least_of price 0 xs) xs = chosen_in (λ y a. ltb (price y) (price a)) (least_ranks price) xs (first_least_of price 0 xs) first in
        let is : first_least_of price 0 xs ≡ b = chosen_is (λ y a. ltb (price y) (price a)) xs (first_least_of price 0 xs) b first inside (rising_kept other (block_list blocks) (rising_among blocks (length blocks))) k.0
        (λ y i.
        let t = lesser (price y) m.cost y b (l.least (chosen y) (in_offers y i)) in
        (le-ltb (price y) (price b) (omega (arith, t.0, paid)), λ f. t.1 (omega (arith, t.0, paid, ltb-false (price b) (price y) f)))) in
        ap (λ c. Some c) k.1 ∙ ap (λ v. Some (chosen v)) (sym is) ∙ sym (first_of xs inside)

module _ (p : Partition) where
  abbrev bs : List ℕ
  bs = p.blocks.now

  abbrev order : List ℕ
  order = p.order.now

  -- the order has the blocks and nothing else
  pub same_blocks : (b : ℕ) → (In b order → In b (block_list bs)) × (In b (block_list bs) → In b order)
  same_blocks b = (
    λ i. let r = p.numbered b i in in_among bs (length bs) b r.0 (omega (arith, r.1, p.all)) r.2,
    λ i. in_order p b (in_has b (block_list bs) i),
  )

  -- where there is a block, the first is numbered 1
  one_there : (m : ℕ) → In m (block_list bs) → In 1 (block_list bs)
  one_there m i =
      let r = of_among bs (length bs) m i in
      let l = p.least 1 (omega arith) (omega (arith, r.0, r.1, p.all)) in
      in_among bs (length bs) 1 (omega arith) (omega (arith, r.0, r.1)) (omega (arith, l.0, l.1))

  -- the least by entry, the greatest entry first, and then by number, is the heaviest
  pub heaviest_picked : (table : List ℕ) (r : Option ℕ) → MatchOption r (order ≡ []) (Least {K = Reverse ℕ × ℕ} (λ x y. ordering_then (nat_cmp y.0.0 x.0.0) (nat_cmp x.1 y.1)) (λ b. (record { 0 = get_or table b 0 }, b)) order)
      → (f : ℕ → ℕ) → AtEach f table → unwrap_or r 1 ≡ first_greatest f 1 (block_list bs)
  heaviest_picked table None e f at = ap (first_greatest f 1) (sym (none_of (block_list bs) (λ b i. subst (λ l. In b l) e ((same_blocks b).1 i))))
  heaviest_picked table (Some m) l f at =
      let bl = block_list bs in
      let better : ℕ → ℕ → Bool = λ b a. ltb (f a) (f b) in
      let r = first_greatest f 1 bl in
      let first : Chosen better (1 ∷ bl) r = first_chosen better (greatest_ranks f) 1 bl in
      let im : In m bl = (same_blocks m).0 l.inside in
      let entry : (y : ℕ) → In y bl → get_or table y 0 ≡ f y = λ y i. let k = of_among bs (length bs) y i in at.holds y (omega (arith, k.1, p.all, p.small)) in
      sym (chosen_is better (1 ∷ bl) r m first (chosen_in better (greatest_ranks f) (1 ∷ bl) r first) (λ y j. (of_among bs (length bs) y j).0, rising_among bs (length bs)) (inr im)
      (λ y i.
      let iy : In y bl = ⊎_elim (λ (e : y ≡ 1). subst (λ k. In k bl) (sym e) (one_there m im)) (λ j. j) i in
      let t = lesser (get_or table m 0) (get_or table y 0) y m (l.least y ((same_blocks y).1 iy)) in
      (le-ltb (f m) (f y) (omega (arith, t.0, entry y iy, entry m im)), λ k. t.1 (omega (arith, t.0, entry y iy, entry m im, ltb-false (f y) (f m) k)))))
