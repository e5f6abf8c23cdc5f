-- Each step of placing chooses, and no block is left out.
use Rattle.std.proofs.Common.{◌≡◌, ℕ, zero, suc, ◌-◌, ◌<◌, ◌≤◌, Bool, true, false, cond, ◌⊎◌, List, [], ◌∷◌, ◌++◌, map, length, get_or, Some, None, Option, sym, refl, ap, ◌∙◌, subst, inl, inr, ⊎_elim, arith}
use Rattle.std.proofs.lemmas.List.{length-map, length_push}
use Rattle.std.proofs.lemmas.Bool.{both_ways, cases_Bool, cases_eq, cases_lt, cond_both}
use Rattle.chains.specs.Chains.{place}
use Rattle.chains.specs.Lists.{In}
use Rattle.chains.proofs.Lists.{in_left, in_map, of_map, in_getD, in_place, at_place}
use Rattle.machine.specs.Model.{Model}
use Rattle.schedule.specs.declared.rows.Row.{Row}
use Rattle.schedule.specs.Problems.{Problem}
use Rattle.schedule.specs.Orders.{earlier}
use Rattle.schedule.specs.Placing.{is_placed, is_candidate, earliest, row_of, comes_before, first_of_two, first_among, chosen, with_row, placed, placing}
use Rattle.schedule.specs.Choices.{Able, Placed, Candidate, Choice, Chosen}
use Rattle.bounds.specs.Problems.{Processed}
use Rattle.bounds.specs.Schedules.{Complete, PlacingChooses}
use Rattle.bounds.proofs.Sums.{all_there, as_many}
use Rattle.bounds.proofs.Greedy.{placed_in, chosen_none, chosen_more}
use Rattle.bounds.proofs.Orders.{Strict, strict, Before, to_before, of_before, never_before, before_through}
use Rattle.bounds.proofs.Starts.{placed_is, is_there, candidate_is, is_candidate_so, able_start, start_able, earliest_is}
use Rattle.bounds.proofs.Valid.{chose, blocks_once}

module _ (M : Model) (g : Problem) (e : ℕ → ℕ → Bool) (some : 1 ≤ M.processors) (order_of : Strict e) (rows : List Row) where
  -- the row of a candidate, before which there is none of a candidate that was seen
  record First (seen : ℕ → Type 0) (r : Row) : Type 0 where
    block : ℕ
    known : In block g.blocks
    candidate : is_candidate g rows block ≡ true
    is : r ≡ row_of M g rows block
    first : (b : ℕ) → seen b → is_candidate g rows b ≡ true → Before e (row_of M g rows b) r → ⊥

  abbrev Held : Option Row → (ℕ → Type 0) → Type 0
  Held None seen = (b : ℕ) → seen b → is_candidate g rows b ≡ true → ⊥
  Held (Some r) seen = First seen r

  held_more : (best : Option Row) (seen more : ℕ → Type 0) → ((b : ℕ) → more b → is_candidate g rows b ≡ true → seen b) → Held best seen → Held best more
  held_more None seen more h k = λ b i c. k b (h b i c) c
  held_more (Some r) seen more h k = record { block = k.block; known = k.known; candidate = k.candidate; is = k.is; first = λ b i c. k.first b (h b i c) c }

  fresh : (seen : ℕ → Type 0) (b : ℕ) → In b g.blocks → is_candidate g rows b ≡ true
      → ((x : ℕ) → seen x → is_candidate g rows x ≡ true → Before e (row_of M g rows x) (row_of M g rows b) → ⊥)
      → First (λ x. seen x ⊎ (x ≡ b)) (row_of M g rows b)
  fresh seen b i c h = record {
    block = b;
    known = i;
    candidate = c;
    is = refl;
    first = λ x s d k. ⊎_elim (λ s. h x s d k) (λ (f : x ≡ b). never_before e order_of (row_of M g rows b) (subst (λ (z : ℕ). Before e (row_of M g rows z) (row_of M g rows b)) f k)) s;
  }

  step : (best : Option Row) (seen : ℕ → Type 0) (b : ℕ) → In b g.blocks → is_candidate g rows b ≡ true → Held best seen
      → Held (first_of_two e best (row_of M g rows b)) (λ x. seen x ⊎ (x ≡ b))
  step None seen b i c h = fresh seen b i c (λ x s d k. h x s d)
  step (Some x) seen b i c h =
      let y = row_of M g rows b in
      cond_both (comes_before e y x) (Some y) (Some x) (λ (o : Option Row). Held o (λ z. seen z ⊎ (z ≡ b)))
      (λ t. fresh seen b i c (λ z s d k. h.first z s d (before_through e order_of (row_of M g rows z) y x k (to_before e y x t))))
      (λ t. record {
        block = h.block;
        known = h.known;
        candidate = h.candidate;
        is = h.is;
        first = λ z s d k. ⊎_elim (λ s. h.first z s d k) (λ (f : z ≡ b). both_ways (comes_before e y x) t (of_before e y x (subst (λ (w : ℕ). Before e (row_of M g rows w) x) f k))) s;
      })

  among : (bs : List ℕ) (best : Option Row) (seen : ℕ → Type 0) → ((b : ℕ) → In b bs → In b g.blocks) → Held best seen
      → Held (first_among M g e rows best bs) (λ x. seen x ⊎ In x bs)
  among [] best seen k h = held_more best seen (λ x. seen x ⊎ In x []) (λ b i c. ⊎_elim (λ s. s) (λ j. absurd j) i) h
  among (b ∷ bs) best seen k h =
      let next : Option Row = cond (is_candidate g rows b) (first_of_two e best (row_of M g rows b)) best in
      let here : Held next (λ x. seen x ⊎ (x ≡ b)) =
      cond_both (is_candidate g rows b) (first_of_two e best (row_of M g rows b)) best (λ (o : Option Row). Held o (λ x. seen x ⊎ (x ≡ b)))
      (λ t. step best seen b (k b (inl refl)) t h)
      (λ t. held_more best seen (λ x. seen x ⊎ (x ≡ b)) (λ x i c. ⊎_elim (λ s. s) (λ (f : x ≡ b). absurd (both_ways (is_candidate g rows b) t (subst (λ (z : ℕ). is_candidate g rows z ≡ true) f c))) i) h) in
      held_more (first_among M g e rows next bs) (λ x. (seen x ⊎ (x ≡ b)) ⊎ In x bs) (λ x. seen x ⊎ In x (b ∷ bs))
      (λ x i c. ⊎_elim (λ s. inl (inl s)) (λ j. ⊎_elim (λ (f : x ≡ b). inl (inr f)) (λ l. inr l) j) i)
      (among bs next (λ x. seen x ⊎ (x ≡ b)) (λ x i. k x (inr i)) here)

  held : Held (chosen M g e rows) (λ x. In x g.blocks)
  held = held_more (chosen M g e rows) (λ x. ⊥ ⊎ In x g.blocks) (λ x. In x g.blocks) (λ x i c. inr i) (among g.blocks None (λ x. ⊥) (λ b i. i) (λ b i c. i))

  -- such a row is what a step chooses
  choice : (r : Row) → First (λ x. In x g.blocks) r → Choice M g e rows r
  choice r f =
      let b = f.block in
      let n = M.processors - 1 in
      let at = earliest M g rows b in
      let q = earliest_is M g rows b n in
      let none : (a : ℕ) → Candidate g rows a → Before e (row_of M g rows a) (row_of M g rows b) → ⊥ =
      λ a c k. f.first a c.known (is_candidate_so g rows a c) (subst (λ (z : Row). Before e (row_of M g rows a) z) (sym f.is) k) in
      let soonest : (a p s : ℕ) → p < M.processors → Able M g rows a p s → (earliest M g rows a).0 ≤ s =
      λ a p s l k. omega (arith, (earliest_is M g rows a n).least p (omega arith), start_able M g rows a p s k) in
      let least : (a p s : ℕ) → Candidate g rows a → p < M.processors → Able M g rows a p s → at.0 ≤ s =
      λ a p s c l k. ⊎_elim (λ (lt : s < at.0). absurd (none a c (inl (omega (arith, soonest a p s l k))))) (λ (le : at.0 ≤ s). le) (cases_lt s at.0) in
      let here : Choice M g e rows (row_of M g rows b) = record {
        candidate = candidate_is g rows b f.known f.candidate;
        exists = omega (arith, q.low);
        able = able_start M g rows b at.1 at.0 (omega (arith, q.is));
        unbroken = refl;
        least = least;
        first = λ a p c l k h. ⊎_elim
            (λ (lt : (earliest M g rows a).0 < at.0). none a c (inl lt))
            (λ (le : at.0 ≤ (earliest M g rows a).0). none a c (inr (omega (arith, soonest a p at.0 l k), h)))
            (cases_lt (earliest M g rows a).0 at.0);
        lowest = λ p l k. q.lowest p (omega arith) (start_able M g rows b p at.0 k);
      } in
      subst (λ (z : Row). Choice M g e rows z) (sym f.is) here

-- every block has a row, or there is a candidate: the unplaced block with the least place
next_one : (M : Model) (g : Problem) (order : List ℕ) → Processed M g order → (rows : List Row) → (k : ℕ)
    → ((b : ℕ) → In b g.blocks → place order b < k → Placed rows b) ⊎ ((b : ℕ) × Candidate g rows b)
next_one M g order pr rows zero = inl (λ b i l. absurd (omega arith))
next_one M g order pr rows (suc k) =
    ⊎_elim
    (λ (all : (b : ℕ) → In b g.blocks → place order b < k → Placed rows b).
    let a = get_or order k 0 in
    ⊎_elim
    (λ (l : k < length order).
    ⊎_elim
    (λ (t : is_placed rows a ≡ true). inl (λ b i below. ⊎_elim
    (λ (d : place order b ≡ k).
    let same : a ≡ b = ap (λ (x : ℕ). get_or order x 0) (sym d) ∙ at_place order b (omega arith) in
    subst (λ (x : ℕ). Placed rows x) same (placed_is rows a t))
    (λ (ne : place order b ≡ k → ⊥). all b i (omega arith))
    (cases_eq (place order b) k)))
    (λ (t : is_placed rows a ≡ false). inr (
      a,
      record {
        known = pr.known a (in_getD order k 0 l);
        unplaced = λ p. both_ways (is_placed rows a) t (is_there rows a p);
        fed = λ m i to.
            let up : place order m.from < place order m.to = (pr.ordered.forward m i).0 in
            let there : place order m.to ≡ k = ap (λ (x : ℕ). place order x) to ∙ pr.ordered.once k l in
            all m.from (pr.sound.joins m i).0 (omega arith);
      },
    ))
    (cases_Bool (is_placed rows a)))
    (λ (l : length order ≤ k). inl (λ b i below. all b i (omega (arith, in_place order b (pr.listed b i)))))
    (cases_lt k (length order)))
    inr (next_one M g order pr rows k)

module _ (M : Model) (g : Problem) (order : List ℕ) (pr : Processed M g order) (e : ℕ → ℕ → Bool) (order_of : Strict e) where
  -- chosen rows, as many as steps were made unless no block is left
  record Steps (n : ℕ) (rows : List Row) : Type 0 where
    chose : Chosen M g e rows
    going : (length rows ≡ n) ⊎ ((b : ℕ) → In b g.blocks → Placed rows b)

  more : (n : ℕ) (rows : List Row) → Steps n rows → (o : Option Row) → Held M g e pr.some order_of rows o (λ x. In x g.blocks) → Steps (suc n) (with_row rows o)
  more n rows s None h = record {
    chose = s.chose;
    going = inr (λ b i. ⊎_elim (λ all. all b i (in_place order b (pr.listed b i))) (λ t. absurd (h t.0 t.1.known (is_candidate_so g rows t.0 t.1))) (next_one M g order pr rows (length order)));
  }
  more n rows s (Some r) h = record {
    chose = chosen_more M g e rows r s.chose (choice M g e pr.some order_of rows r h);
    going = ⊎_elim (λ (l : length rows ≡ n). inl (omega (arith, length_push rows r)))
        (λ all. inr (λ b i. placed_in rows (rows ++ (r ∷ [])) (λ y j. in_left y rows (r ∷ []) j) b (all b i))) s.going;
  }

  steps : (n : ℕ) → Steps n (placed M g e n)
  steps zero = record { chose = chosen_none M g e; going = inl refl }
  steps (suc n) = more n (placed M g e n) (steps n) (chosen M g e (placed M g e n)) (held M g e pr.some order_of (placed M g e n))

  completed : (rows : List Row) → Steps (length g.blocks) rows → Complete M g e rows
  completed rows s =
      let bs = map (λ (r : Row). r.block) rows in
      let c = s.chose in
      let once = blocks_once M g e rows c in
      let only : (b : ℕ) → In b bs → In b g.blocks =
      λ b i. let p = of_map (λ (x : Row). x.block) b rows i in subst (λ (y : ℕ). In y g.blocks) (sym p.2) (chose M g e rows c p.0 p.1).choice.candidate.known in
      let every : (b : ℕ) → In b g.blocks → Placed rows b =
      ⊎_elim
      (λ (l : length rows ≡ length g.blocks). λ b i.
      let p = of_map (λ (x : Row). x.block) b rows (all_there bs g.blocks once only (length-map rows (λ (x : Row). x.block) ∙ l) b i) in
      record { row = p.0; there = p.1; is = sym p.2 })
      (λ all. all) s.going in
      let all : (b : ℕ) → In b g.blocks → In b bs =
      λ b i. let p = every b i in subst (λ (y : ℕ). In y bs) p.is (in_map (λ (x : Row). x.block) p.row rows p.there) in
      record {
        chosen = c;
        every = every;
        count = sym (length-map rows (λ (x : Row). x.block)) ∙ as_many bs g.blocks once pr.sound.once only all;
      }

pub placing_chooses : PlacingChooses
placing_chooses M g order o standing pr law =
    let e = earlier o standing in
    let s = strict o law standing in
    completed M g order pr e s (placing M g e) (steps M g order pr e s (length g.blocks))
