-- The processing order after two blocks were joined with all blocks on paths between them.
use Rattle.std.proofs.Common.{◌≡◌, ℕ, suc, ◌+◌, ◌<◌, ◌≤◌, Bool, true, false, cond, not, ◌&&◌, ◌||◌, eqb, ◌⊎◌, List, ◌∷◌, length, filter, sym, refl, ap, ◌∙◌, subst, inl, inr, ⊎_elim, arith}
use Rattle.std.proofs.lemmas.List.{length-append}
use Rattle.std.proofs.lemmas.Bool.{both_ways, cases_Bool, eq-eqb, ne_eqb, eqb-true, and_from, and_parts, or_cases, or_left, or_right, or_parts, not-true, not_from_false, cond-true, cond-false}
use Rattle.chains.specs.declared.message.Message.{Message}
use Rattle.chains.specs.Chains.{Step, place, Ordered}
use Rattle.chains.specs.Lists.{In}
use Rattle.chains.proofs.Lists.{in_place, place_in}
use Rattle.partition.specs.Joins.{between, early, late, order_after}
use Rattle.partition.proofs.Places.{place_left, place_right, in_kept, of_kept, kept_before}

-- what is known of reach over steps, for the blocks of an order
pub record Reaching (ms : List Message) (order : List ℕ) (reach : ℕ → ℕ → Bool) : Type 0 where
  pub itself : (a : ℕ) → In a order → reach a a ≡ true
  pub steps : (a b c : ℕ) → Step ms a b → reach b c ≡ true → reach a c ≡ true
  pub upward : (a b : ℕ) → In a order → reach a b ≡ true → place order a ≤ place order b
  pub joins : (a b c : ℕ) → In a order → reach a b ≡ true → reach b c ≡ true → reach a c ≡ true

module _ (ms : List Message) (order : List ℕ) (ordered : Ordered ms order) (reach : ℕ → ℕ → Bool) (r : Reaching ms order reach) (a b : ℕ) (ia : In a order) (ib : In b order) where
  abbrev in_set : ℕ → Bool
  in_set y = between reach a b y

  abbrev first : ℕ → Bool
  first = early reach a b

  abbrev second : ℕ → Bool
  second = late reach a b

  -- a or b reaches each block of the set
  reached : (y : ℕ) → in_set y ≡ true → (reach a y ≡ true) ⊎ (reach b y ≡ true)
  reached y t =
      ⊎_elim
      (λ e. inl (subst (λ k. reach a k ≡ true) (sym (eqb-true y a e)) (r.itself a ia)))
      (λ t. ⊎_elim
      (λ e. inr (subst (λ k. reach b k ≡ true) (sym (eqb-true y b e)) (r.itself b ib)))
      (λ t. ⊎_elim (λ u. inl (and_parts (reach a y) (reach y b) u).0) (λ u. inr (and_parts (reach b y) (reach y a) u).0) (or_cases (reach a y && reach y b) (reach b y && reach y a) t))
      (or_cases (eqb y b) ((reach a y && reach y b) || (reach b y && reach y a)) t))
      (or_cases (eqb y a) (eqb y b || ((reach a y && reach y b) || (reach b y && reach y a))) t)

  -- each block of the set reaches a or b
  reaches : (y : ℕ) → in_set y ≡ true → (reach y a || reach y b) ≡ true
  reaches y t =
      ⊎_elim
      (λ e. or_left (reach y a) (reach y b) (subst (λ k. reach k a ≡ true) (sym (eqb-true y a e)) (r.itself a ia)))
      (λ t. ⊎_elim
      (λ e. or_right (reach y a) (reach y b) (subst (λ k. reach k b ≡ true) (sym (eqb-true y b e)) (r.itself b ib)))
      (λ t. ⊎_elim (λ u. or_right (reach y a) (reach y b) (and_parts (reach a y) (reach y b) u).1) (λ u. or_left (reach y a) (reach y b) (and_parts (reach b y) (reach y a) u).1) (or_cases (reach a y && reach y b) (reach b y && reach y a) t))
      (or_cases (eqb y b) ((reach a y && reach y b) || (reach b y && reach y a)) t))
      (or_cases (eqb y a) (eqb y b || ((reach a y && reach y b) || (reach b y && reach y a))) t)

  -- what reaches one that reaches a or b
  before : (y z : ℕ) → Step ms y z → (reach z a || reach z b) ≡ true → (reach y a || reach y b) ≡ true
  before y z s t = ⊎_elim (λ u. or_left (reach y a) (reach y b) (r.steps y z a s u)) (λ u. or_right (reach y a) (reach y b) (r.steps y z b s u)) (or_cases (reach z a) (reach z b) t)

  step_up : (y z : ℕ) → Step ms y z → place order y < place order z
  step_up y z s =
      let m = (ordered.forward s.message s.known).0 in
      subst (λ k. place order k < place order z) s.leaves (subst (λ k. place order s.message.from < place order k) s.comes m)

  step_from : (y z : ℕ) → Step ms y z → In y order
  step_from y z s =
      let f = ordered.forward s.message s.known in
      place_in order y (subst (λ k. place order k < length order) s.leaves (omega (arith, f.0, f.1)))

  step_to : (y z : ℕ) → Step ms y z → In z order
  step_to y z s = place_in order z (subst (λ k. place order k < length order) s.comes (ordered.forward s.message s.known).1)

  -- a step out of the set does not lead to what reaches the set
  leaves_late : (y z : ℕ) → Step ms y z → in_set y ≡ true → in_set z ≡ false → (reach z a || reach z b) ≡ true → ⊥
  leaves_late y z s ty tz t =
      let up = step_up y z s in
      let iy = step_from y z s in
      let iz = step_to y z s in
      let goes : (x : ℕ) → In x order → reach x y ≡ true → reach x z ≡ true = λ x ix u. r.joins x y z ix u (r.steps y z z s (r.itself z iz)) in
      let stays : (x : ℕ) → In x order → reach x y ≡ true → reach z x ≡ true → ⊥ = λ x ix u w.
      omega (arith, r.upward x y ix u, r.upward z x iz w) in
      let inner = or_parts (eqb z a) (eqb z b || ((reach a z && reach z b) || (reach b z && reach z a))) tz in
      let inner' = or_parts (eqb z b) ((reach a z && reach z b) || (reach b z && reach z a)) inner.1 in
      let paths = or_parts (reach a z && reach z b) (reach b z && reach z a) inner'.1 in
      ⊎_elim
      (λ ua. ⊎_elim
      (λ wa. stays a ia ua wa)
      (λ wb. both_ways _ paths.0 (and_from _ _ (goes a ia ua) wb))
      (or_cases (reach z a) (reach z b) t))
      (λ ub. ⊎_elim
      (λ wa. both_ways _ paths.1 (and_from _ _ (goes b ib ub) wa))
      (λ wb. stays b ib ub wb)
      (or_cases (reach z a) (reach z b) t))
      (reached y ty)

  module _ (number : ℕ) (inside : between reach a b number ≡ true) where
    -- the new number of a block
    abbrev renamed : ℕ → ℕ
    renamed y = cond (in_set y) number y

    abbrev order' : List ℕ
    order' = order_after reach a b number order

    not_early : In number (filter first order) → ⊥
    not_early i = both_ways (in_set number) (not-true (in_set number) (and_parts (not (in_set number)) (reach number a || reach number b) (of_kept first order number i).1).0) inside

    at_number : place order' number ≡ length (filter first order)
    at_number = place_right (filter first order) (number ∷ filter second order) number not_early ∙ omega (arith, cond-true (eqb number number) 0 (suc (place (filter second order) number)) (eq-eqb number number refl))

    at_early : (y : ℕ) → In y order → first y ≡ true → place order' y ≡ place (filter first order) y
    at_early y i t = place_left (filter first order) (number ∷ filter second order) y (in_kept first order y i t)

    early_low : (y : ℕ) → In y order → first y ≡ true → place (filter first order) y < length (filter first order)
    early_low y i t = in_place (filter first order) y (in_kept first order y i t)

    at_late : (y : ℕ) → In y order → second y ≡ true → place order' y ≡ length (filter first order) + suc (place (filter second order) y)
    at_late y i t =
        let out : In y (filter first order) → ⊥ = λ j. both_ways (reach y a || reach y b) (not-true (reach y a || reach y b) (and_parts (not (in_set y)) (not (reach y a || reach y b)) t).1) (and_parts (not (in_set y)) (reach y a || reach y b) (of_kept first order y j).1).1 in
        let ne : number ≡ y → ⊥ = λ e. both_ways (in_set y) (not-true (in_set y) (and_parts (not (in_set y)) (not (reach y a || reach y b)) t).0) (subst (λ k. in_set k ≡ true) e inside) in
        place_right (filter first order) (number ∷ filter second order) y out
        ∙ ap (λ k. length (filter first order) + k) (cond-false (eqb number y) 0 (suc (place (filter second order) y)) (ne_eqb number y ne))

    late_low : (y : ℕ) → In y order → second y ≡ true → place (filter second order) y < length (filter second order)
    late_low y i t = in_place (filter second order) y (in_kept second order y i t)

    long : length order' ≡ length (filter first order) + suc (length (filter second order))
    long = length-append (filter first order) (number ∷ filter second order)

    is_early : (y : ℕ) → in_set y ≡ false → (reach y a || reach y b) ≡ true → first y ≡ true
    is_early y t u = and_from (not (in_set y)) (reach y a || reach y b) (not_from_false (in_set y) t) u

    is_late : (y : ℕ) → in_set y ≡ false → (reach y a || reach y b) ≡ false → second y ≡ true
    is_late y t u = and_from (not (in_set y)) (not (reach y a || reach y b)) (not_from_false (in_set y) t) (not_from_false (reach y a || reach y b) u)

    same : (y : ℕ) → in_set y ≡ false → renamed y ≡ y
    same y t = cond-false _ _ _ t

    as_number : (y : ℕ) → in_set y ≡ true → renamed y ≡ number
    as_number y t = cond-true _ _ _ t

    -- a step that stays one goes from an earlier to a later place
    pub rises_after : (y z : ℕ) → Step ms y z → (cond (between reach a b y) number y ≡ cond (between reach a b z) number z → ⊥)
        → (place (order_after reach a b number order) (cond (between reach a b y) number y) < place (order_after reach a b number order) (cond (between reach a b z) number z))
        × (place (order_after reach a b number order) (cond (between reach a b z) number z) < length (order_after reach a b number order))
    rises_after y z s ne =
        let iy = step_from y z s in
        let iz = step_to y z s in
        let up = step_up y z s in
        let P : ℕ → ℕ → Type 0 = λ u v. (place order' u < place order' v) × (place order' v < length order') in
        ⊎_elim
        (λ ty. ⊎_elim
        (λ tz. absurd (ne (as_number y ty ∙ sym (as_number z tz))))
        (λ tz.
        let lz : second z ≡ true = ⊎_elim (λ u. absurd (leaves_late y z s ty tz u)) (λ u. is_late z tz u) (cases_Bool (reach z a || reach z b)) in
        subst (λ u. P u (renamed z)) (sym (as_number y ty)) (subst (P number) (sym (same z tz)) (omega (arith, at_number, at_late z iz lz, long), omega (arith, at_late z iz lz, late_low z iz lz, long))))
        (cases_Bool (in_set z)))
        (λ ty. ⊎_elim
        (λ tz.
        let ey = is_early y ty (before y z s (reaches z tz)) in
        subst (λ u. P u (renamed z)) (sym (same y ty)) (subst (P y) (sym (as_number z tz)) (omega (arith, at_number, at_early y iy ey, early_low y iy ey), omega (arith, at_number, long))))
        (λ tz.
        subst (λ u. P u (renamed z)) (sym (same y ty)) (subst (P y) (sym (same z tz))
        (⊎_elim
        (λ uz.
        let ez = is_early z tz uz in
        let ey = is_early y ty (before y z s uz) in
        let k = kept_before first order y z ey ez up (in_place order z iz) in
        (omega (arith, at_early y iy ey, at_early z iz ez, k), omega (arith, at_early z iz ez, early_low z iz ez, long)))
        (λ uz.
        let lz = is_late z tz uz in
        ⊎_elim
        (λ uy. let ey = is_early y ty uy in (omega (arith, at_early y iy ey, early_low y iy ey, at_late z iz lz), omega (arith, at_late z iz lz, late_low z iz lz, long)))
        (λ uy.
        let ly = is_late y ty uy in
        let k = kept_before second order y z ly lz up (in_place order z iz) in
        (omega (arith, at_late y iy ly, at_late z iz lz, k), omega (arith, at_late z iz lz, late_low z iz lz, long)))
        (cases_Bool (reach y a || reach y b)))
        (cases_Bool (reach z a || reach z b)))))
        (cases_Bool (in_set z)))
        (cases_Bool (in_set y))
