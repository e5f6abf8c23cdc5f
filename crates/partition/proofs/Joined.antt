-- Joining keeps a partition and its processing order.
use Rattle.std.proofs.Common.{◌≡◌, ℕ, suc, ◌+◌, ◌-◌, ◌<◌, ◌≤◌, min, Bool, true, false, cond, not, ◌&&◌, ◌||◌, eqb, ◌⊎◌, List, [], ◌∷◌, length, get_or, filter, sym, refl, ap, ◌∙◌, subst, inl, inr, ⊎_elim, arith}
use Rattle.std.proofs.lemmas.List.{get_or-map, length-map, length-append}
use Rattle.std.proofs.lemmas.Bool.{both_ways, cases_lt, cases_Bool, eq-eqb, or_left, and_left, and_from, and_parts, not_from_true, not-true, not_from_false, cond-true, cond-false}
use Rattle.graph.specs.declared.records.Link.{Link}
use Rattle.chains.specs.declared.message.Message.{Message}
use Rattle.chains.specs.Chains.{Ordered, place}
use Rattle.chains.specs.Lists.{In, Apart}
use Rattle.chains.proofs.Lists.{in_index, in_getD, in_left, in_right, in_append, once_apart, apart_once, apart_append}
use Rattle.partition.specs.Blocks.{block_of, Partitions, messages}
use Rattle.partition.specs.Joins.{between, least_among, joining, early, late, order_after}
use Rattle.partition.specs.Sorted.{Sorted}
use Rattle.partition.proofs.Places.{in_kept, of_kept, apart_kept}
use Rattle.partition.proofs.Rejoined.{Reaching, rises_after}
use Rattle.partition.proofs.Renamed.{Ends, messages_few, step_renamed}

-- the least of those that pass
module _ (p : ℕ → Bool) where
  pub least_start : (l : ℕ) (xs : List ℕ) → least_among p l xs ≤ l
  least_start l [] = omega arith
  least_start l (x ∷ xs) =
      ⊎_elim
      (λ t. let q : cond (p x) (min x l) l ≡ min x l = cond-true (p x) _ _ t in omega (arith, least_start (cond (p x) (min x l) l) xs))
      (λ t. let q : cond (p x) (min x l) l ≡ l = cond-false (p x) _ _ t in omega (arith, least_start (cond (p x) (min x l) l) xs))
      (cases_Bool (p x))

  pub least_below : (l : ℕ) (xs : List ℕ) (x : ℕ) → In x xs → p x ≡ true → least_among p l xs ≤ x
  least_below l [] x i t = absurd i
  least_below l (y ∷ xs) x i t =
      ⊎_elim
      (λ (e : x ≡ y).
      let q : cond (p y) (min y l) l ≡ min y l = cond-true (p y) _ _ (subst (λ k. p k ≡ true) e t) in
      omega (arith, least_start (cond (p y) (min y l) l) xs))
      (λ j. least_below (cond (p y) (min y l) l) xs x j t)
      i

  -- it is the one to begin with, or one that passes
  pub least_is : (l : ℕ) (xs : List ℕ) → p l ≡ true → (p (least_among p l xs) ≡ true) × ((least_among p l xs ≡ l) ⊎ In (least_among p l xs) xs)
  least_is l [] t = (t, inl refl)
  least_is l (x ∷ xs) t =
      let k = cond (p x) (min x l) l in
      ⊎_elim
      (λ y.
      let q : k ≡ min x l = cond-true (p x) _ _ y in
      ⊎_elim
      (λ (lt : x < l).
      let kx : k ≡ x = omega arith in
      let r = least_is k xs (subst (λ v. p v ≡ true) (sym kx) y) in
      (r.0, ⊎_elim (λ (e : least_among p k xs ≡ k). inr (inl (e ∙ kx))) (λ j. inr (inr j)) r.1))
      (λ (ge : l ≤ x).
      let kl : k ≡ l = omega arith in
      let r = least_is k xs (subst (λ v. p v ≡ true) (sym kl) t) in
      (r.0, ⊎_elim (λ (e : least_among p k xs ≡ k). inl (e ∙ kl)) (λ j. inr (inr j)) r.1))
      (cases_lt x l))
      (λ y.
      let kl : k ≡ l = cond-false (p x) _ _ y in
      let r = least_is k xs (subst (λ v. p v ≡ true) (sym kl) t) in
      (r.0, ⊎_elim (λ (e : least_among p k xs ≡ k). inl (e ∙ kl)) (λ j. inr (inr j)) r.1))
      (cases_Bool (p x))

-- what two tests that no element passes both keep, where one element passes neither
kept_few : (p q : ℕ → Bool) (xs : List ℕ) → ((x : ℕ) → p x ≡ true → q x ≡ true → ⊥) → length (filter p xs) + length (filter q xs) ≤ length xs
kept_few p q [] h = omega arith
kept_few p q (x ∷ xs) h =
    let ih = kept_few p q xs h in
    ⊎_elim
    (λ t. ⊎_elim
    (λ u. absurd (h x t u))
    (λ u. omega (arith, ih, ap length (cond-true (p x) (x ∷ filter p xs) (filter p xs) t), ap length (cond-false (q x) (x ∷ filter q xs) (filter q xs) u)))
    (cases_Bool (q x)))
    (λ t. ⊎_elim
    (λ u. omega (arith, ih, ap length (cond-false (p x) (x ∷ filter p xs) (filter p xs) t), ap length (cond-true (q x) (x ∷ filter q xs) (filter q xs) u)))
    (λ u. omega (arith, ih, ap length (cond-false (p x) (x ∷ filter p xs) (filter p xs) t), ap length (cond-false (q x) (x ∷ filter q xs) (filter q xs) u)))
    (cases_Bool (q x)))
    (cases_Bool (p x))

kept_fewer : (p q : ℕ → Bool) (xs : List ℕ) (y : ℕ) → ((x : ℕ) → p x ≡ true → q x ≡ true → ⊥) → In y xs → p y ≡ false → q y ≡ false → suc (length (filter p xs) + length (filter q xs)) ≤ length xs
kept_fewer p q [] y h i a b = absurd i
kept_fewer p q (x ∷ xs) y h i a b =
    ⊎_elim
    (λ (e : y ≡ x).
    omega (arith, kept_few p q xs h, ap length (cond-false (p x) (x ∷ filter p xs) (filter p xs) (subst (λ k. p k ≡ false) e a)), ap length (cond-false (q x) (x ∷ filter q xs) (filter q xs) (subst (λ k. q k ≡ false) e b))))
    (λ j.
    let ih = kept_fewer p q xs y h j a b in
    ⊎_elim
    (λ t. ⊎_elim
    (λ u. absurd (h x t u))
    (λ u. omega (arith, ih, ap length (cond-true (p x) (x ∷ filter p xs) (filter p xs) t), ap length (cond-false (q x) (x ∷ filter q xs) (filter q xs) u)))
    (cases_Bool (q x)))
    (λ t. ⊎_elim
    (λ u. omega (arith, ih, ap length (cond-false (p x) (x ∷ filter p xs) (filter p xs) t), ap length (cond-true (q x) (x ∷ filter q xs) (filter q xs) u)))
    (λ u. omega (arith, ih, ap length (cond-false (p x) (x ∷ filter p xs) (filter p xs) t), ap length (cond-false (q x) (x ∷ filter q xs) (filter q xs) u)))
    (cases_Bool (q x)))
    (cases_Bool (p x)))
    i

module _ (n : ℕ) (links : List Link) (blocks order : List ℕ) (s : Sorted n links blocks order) (few : length links ≤ 1024) (ends : Ends n links) (small : n ≤ 256)
    (reach : ℕ → ℕ → Bool) (r : Reaching (messages links blocks) order reach) (a b : ℕ) (ia : In a order) (ib : In b order) where
  abbrev ms : List Message
  ms = messages links blocks

  abbrev pub in_set : ℕ → Bool
  in_set y = between reach a b y

  abbrev pub number : ℕ
  number = least_among in_set a blocks

  abbrev pub ren : ℕ → ℕ
  ren y = cond (in_set y) number y

  abbrev pub after : List ℕ
  after = joining reach blocks a b

  long : length blocks ≡ n
  long = s.partitions.all

  a_inside : in_set a ≡ true
  a_inside = or_left (eqb a a) _ (eq-eqb a a refl)

  pub inside : in_set number ≡ true
  inside = (least_is in_set a blocks a_inside).0

  -- the number is that of a block
  is_block : (1 ≤ number) × (number ≤ n) × (block_of blocks number ≡ number)
  is_block =
      ⊎_elim
      (λ (e : number ≡ a). let k = s.own a ia in subst (λ v. (1 ≤ v) × (v ≤ n) × (block_of blocks v ≡ v)) (sym e) k)
      (λ i.
      let j = in_index number blocks 0 i in
      let lt : j.0 < length blocks = j.1 in
      let back : j.0 + 1 - 1 ≡ j.0 = omega arith in
      let at : block_of blocks (j.0 + 1) ≡ number = ap (λ k. get_or blocks k 0) back ∙ j.2 in
      let le = s.partitions.least (j.0 + 1) (omega arith) (omega (arith, long)) in
      let own = s.partitions.own (j.0 + 1) (omega arith) (omega (arith, long)) in
      (subst (λ v. 1 ≤ v) at le.0, omega (arith, le.1, at, long), subst (λ v. block_of blocks v ≡ v) at own))
      (least_is in_set a blocks a_inside).1

  pub block_after : (t : ℕ) → 1 ≤ t → t ≤ n → block_of after t ≡ ren (block_of blocks t)
  block_after t lo hi = get_or-map ren blocks (t - 1) 0 0 (omega (arith, long))

  pub ren_in : (y : ℕ) → in_set y ≡ true → ren y ≡ number
  ren_in y t = cond-true (in_set y) number y t

  pub ren_out : (y : ℕ) → in_set y ≡ false → ren y ≡ y
  ren_out y t = cond-false (in_set y) number y t

  in_blocks : (t : ℕ) → 1 ≤ t → t ≤ n → In (block_of blocks t) blocks
  in_blocks t lo hi = in_getD blocks (t - 1) 0 (omega (arith, long))

  partitions_after : Partitions n after
  partitions_after = record {
    all = length-map blocks ren ∙ long;
    least = λ t lo hi.
        let l = s.partitions.least t lo hi in
        let x = block_of blocks t in
        subst (λ v. (1 ≤ v) × (v ≤ t)) (sym (block_after t lo hi))
        (⊎_elim
        (λ y. subst (λ v. (1 ≤ v) × (v ≤ t)) (sym (ren_in x y)) (is_block.0, omega (arith, l.1, least_below in_set a blocks x (in_blocks t lo hi) y)))
        (λ y. subst (λ v. (1 ≤ v) × (v ≤ t)) (sym (ren_out x y)) l)
        (cases_Bool (in_set x)));
    own = λ t lo hi.
        let l = s.partitions.least t lo hi in
        let x = block_of blocks t in
        let P : ℕ → Type 0 = λ v. block_of after v ≡ v in
        subst P (sym (block_after t lo hi))
        (⊎_elim
        (λ y. subst P (sym (ren_in x y)) (block_after number is_block.0 is_block.1 ∙ ap ren is_block.2 ∙ ren_in number inside))
        (λ y. subst P (sym (ren_out x y)) (block_after x l.0 (omega (arith, l.1)) ∙ ap ren (s.partitions.own t lo hi) ∙ ren_out x y))
        (cases_Bool (in_set x)));
  }

  abbrev order' : List ℕ
  order' = order_after reach a b number order

  abbrev first : ℕ → Bool
  first = early reach a b

  abbrev second : ℕ → Bool
  second = late reach a b

  -- what stands in the order after
  in_order_after : (y : ℕ) → In y order → in_set y ≡ false → In y order'
  in_order_after y i t =
      ⊎_elim
      (λ u. in_left y (filter first order) _ (in_kept first order y i (and_from (not (in_set y)) (reach y a || reach y b) (not_from_false (in_set y) t) u)))
      (λ u. in_right y (filter first order) _ (inr (in_kept second order y i (and_from (not (in_set y)) (not (reach y a || reach y b)) (not_from_false (in_set y) t) (not_from_false (reach y a || reach y b) u)))))
      (cases_Bool (reach y a || reach y b))

  of_order_after : (y : ℕ) → In y order' → (y ≡ number) ⊎ (In y order × (in_set y ≡ false))
  of_order_after y i =
      ⊎_elim
      (λ j. let k = of_kept first order y j in inr (k.0, not-true (in_set y) (and_parts (not (in_set y)) (reach y a || reach y b) k.1).0))
      (λ j. ⊎_elim
      (λ (e : y ≡ number). inl e)
      (λ k. let q = of_kept second order y k in inr (q.0, not-true (in_set y) (and_parts (not (in_set y)) (not (reach y a || reach y b)) q.1).0))
      j)
      (in_append y (filter first order) _ i)

  apart_after : Apart order'
  apart_after =
      let whole = once_apart order s.ordered.once in
      apart_append (filter first order) (number ∷ filter second order) (apart_kept first order whole) (
        λ i. let q = of_kept second order number i in both_ways (in_set number) (not-true (in_set number) (and_parts (not (in_set number)) (not (reach number a || reach number b)) q.1).0) inside,
        apart_kept second order whole,
      )
      (λ x i j.
      let k = of_kept first order x i in
      ⊎_elim
      (λ (e : x ≡ number). both_ways (in_set number) (not-true (in_set number) (subst (λ v. not (in_set v) ≡ true) e (and_parts (not (in_set x)) (reach x a || reach x b) k.1).0)) inside)
      (λ m.
      let q = of_kept second order x m in
      both_ways (reach x a || reach x b) (not-true (reach x a || reach x b) (and_parts (not (in_set x)) (not (reach x a || reach x b)) q.1).1) (and_parts (not (in_set x)) (reach x a || reach x b) k.1).1)
      j)

  ordered_after : Ordered (messages links after) order'
  ordered_after = record {
    few = omega (arith, messages_few links after);
    short =
        let never : (x : ℕ) → first x ≡ true → second x ≡ true → ⊥ = λ x t u.
        both_ways (reach x a || reach x b) (not-true (reach x a || reach x b) (and_parts (not (in_set x)) (not (reach x a || reach x b)) u).1) (and_parts (not (in_set x)) (reach x a || reach x b) t).1 in
        let out : (q : Bool) → (not (in_set a) && q) ≡ false = λ q. and_left (not (in_set a)) q (not_from_true (in_set a) a_inside) in
        omega (arith, s.ordered.short, length-append (filter first order) (number ∷ filter second order), kept_fewer first second order a never ia (out (reach a a || reach a b)) (out (not (reach a a || reach a b))));
    blocks = λ y i. ⊎_elim
        (λ (e : y ≡ number). (omega (arith, e, is_block.0), omega (arith, e, is_block.1)))
        (λ k. s.ordered.blocks y k.0)
        (of_order_after y i);
    once = apart_once order' apart_after;
    forward = λ m i.
        let q = step_renamed links blocks ren (subst (λ k. Ends k links) (sym long) ends) m i in
        let up = rises_after ms order s.ordered reach r a b ia ib number inside q.0 q.1 q.2 q.5 in (
          subst (λ u. place order' u < place order' m.to) (sym q.3) (subst (λ v. place order' (ren q.0) < place order' v) (sym q.4) up.0),
          subst (λ v. place order' v < length order') (sym q.4) up.1,
        );
  }

  -- joining keeps a partition with its processing order
  pub sorted_after : Sorted n links after order'
  sorted_after = record {
    partitions = partitions_after;
    ordered = ordered_after;
    listed = λ t lo hi.
        let x = block_of blocks t in
        subst (λ v. In v order') (sym (block_after t lo hi))
        (⊎_elim
        (λ y. subst (λ v. In v order') (sym (ren_in x y)) (in_right number (filter first order) (number ∷ filter second order) (inl refl)))
        (λ y. subst (λ v. In v order') (sym (ren_out x y)) (in_order_after x (s.listed t lo hi) y))
        (cases_Bool (in_set x)));
    own = λ y i. ⊎_elim
        (λ (e : y ≡ number).
        subst (λ v. (1 ≤ v) × (v ≤ n) × (block_of after v ≡ v)) (sym e) (is_block.0, is_block.1, block_after number is_block.0 is_block.1 ∙ ap ren is_block.2 ∙ ren_in number inside))
        (λ k. let o = s.own y k.0 in (o.0, o.1, block_after y o.0 o.1 ∙ ap ren o.2 ∙ ren_out y k.1))
        (of_order_after y i);
  }
