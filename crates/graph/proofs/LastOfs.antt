-- Laws of `last_of`. Assumes nothing.
use Rattle.std.proofs.Common.{◌≡◌, ℕ, zero, suc, ◌+◌, ◌<◌, ◌≤◌, Bool, true, false, cond, List, [], ◌∷◌, ◌++◌, length, get_or, take, sym, refl, ap, ◌∙◌, ⊎_elim, zero-le, add-one, add-zero, arith}
use Rattle.std.proofs.lemmas.List.{take_more, length-take-le, take_all}
use Rattle.std.proofs.lemmas.Bool.{cases_Bool, cases_eq, cond-true, cond-false}
use Rattle.std.proofs.lemmas.Bool.Decides.{nat_tests}
use Rattle.graph.specs.LastOf.{last_from, last_of}

module _ {X : Type 0} (p : X → Bool) where
  last_from_push : (k best : ℕ) (xs : List X) (x : X) → last_from p k best (xs ++ x ∷ []) ≡ cond (p x) (k + length xs) (last_from p k best xs)
  last_from_push k best [] x = ap (λ n. cond (p x) n best) (sym (add-zero k))
  last_from_push k best (y ∷ ys) x =
      let b : ℕ = cond (p y) k best in
      let e : (k + 1) + length ys ≡ k + suc (length ys) = omega arith in
      last_from_push (k + 1) b ys x ∙ ap (λ n. cond (p x) n (last_from p (k + 1) b ys)) e

  pub last_push : (xs : List X) (x : X) → last_of p (xs ++ x ∷ []) ≡ cond (p x) (length xs + 1) (last_of p xs)
  last_push xs x =
      let e : 1 + length xs ≡ length xs + 1 = omega arith in
      last_from_push 1 0 xs x ∙ ap (λ n. cond (p x) n (last_of p xs)) e

  -- where nothing passes
  last_from_none : (k best : ℕ) (d : X) (xs : List X) → ((i : ℕ) → i < length xs → p (get_or xs i d) ≡ false) → last_from p k best xs ≡ best
  last_from_none k best d [] h = refl
  last_from_none k best d (y ∷ ys) h =
      let e : cond (p y) k best ≡ best = cond-false (p y) k best (h 0 (omega arith)) in
      last_from_none (k + 1) (cond (p y) k best) d ys (λ i l. h (suc i) (omega arith)) ∙ e

  pub last_none : (d : X) (xs : List X) → ((i : ℕ) → i < length xs → p (get_or xs i d) ≡ false) → last_of p xs ≡ 0
  last_none d xs h = last_from_none 1 0 d xs h

  pub last_take_more : (xs : List X) (i : ℕ) (d : X) → i < length xs → last_of p (take (i + 1) xs) ≡ cond (p (get_or xs i d)) (i + 1) (last_of p (take i xs))
  last_take_more xs i d h =
      let n : length (take i xs) ≡ i = length-take-le i xs (omega arith) in
      ap (last_of p) (take_more xs i d h) ∙ last_push (take i xs) (get_or xs i d) ∙ ap (λ m. cond (p (get_or xs i d)) (m + 1) (last_of p (take i xs))) n

  pub last_more_hit : (xs : List X) (i : ℕ) (d : X) → i < length xs → p (get_or xs i d) ≡ true → last_of p (take (i + 1) xs) ≡ i + 1
  last_more_hit xs i d h t = last_take_more xs i d h ∙ cond-true (p (get_or xs i d)) (i + 1) (last_of p (take i xs)) t

  pub last_more_miss : (xs : List X) (i : ℕ) (d : X) → i < length xs → p (get_or xs i d) ≡ false → last_of p (take (i + 1) xs) ≡ last_of p (take i xs)
  last_more_miss xs i d h t = last_take_more xs i d h ∙ cond-false (p (get_or xs i d)) (i + 1) (last_of p (take i xs)) t

  pub last_bound : (xs : List X) (d : X) (i : ℕ) → i ≤ length xs → last_of p (take i xs) ≤ i
  last_bound xs d zero h = zero-le
  last_bound xs d (suc i) h =
      let more = last_take_more xs i d (omega arith) in
      let ih = last_bound xs d i (omega arith) in
      rw (← add-one i) (grind (arith, nat_tests))

  -- the one that is found passes
  pub last_hit : (xs : List X) (d : X) (i k : ℕ) → i ≤ length xs → last_of p (take i xs) ≡ k + 1 → p (get_or xs k d) ≡ true
  last_hit xs d zero k h e = absurd (omega arith)
  last_hit xs d (suc i) k h e =
      let more = last_take_more xs i d (omega arith) in
      ⊎_elim
      (λ (t : p (get_or xs i d) ≡ true). let same : i ≡ k = grind (arith, nat_tests) in rw same at t)
      (λ (t : p (get_or xs i d) ≡ false). last_hit xs d i k (omega arith) (grind (arith, nat_tests)))
      (cases_Bool (p (get_or xs i d)))

  -- where the answer is 0, nothing passes
  pub last_zero : (d : X) (xs : List X) → last_of p xs ≡ 0 → (i : ℕ) → i < length xs → p (get_or xs i d) ≡ false
  last_zero d xs e i lt = none_up_to (length xs) (omega arith) (rw (take_all (length xs) xs (omega arith)) e) i lt
    where
      none_up_to : (n : ℕ) → n ≤ length xs → last_of p (take n xs) ≡ 0 → (i : ℕ) → i < n → p (get_or xs i d) ≡ false
      none_up_to zero h e i l = absurd (omega arith)
      none_up_to (suc n) h e i l =
          let more = last_take_more xs n d (omega arith) in
          let none : last_of p (take n xs) ≡ 0 = grind (arith, nat_tests) in
          ⊎_elim
          (λ (same : i ≡ n). rw same (grind (arith, nat_tests)))
          (λ (ne : i ≡ n → ⊥). none_up_to n (omega arith) none i (omega arith))
          (cases_eq i n)

-- what passes q passes p: the last of q stands no later than the last of p
module _ {X : Type 0} (p q : X → Bool) (narrows : (x : X) → p x ≡ false → q x ≡ false) where
  pub last_through : (xs : List X) (d : X) (i : ℕ) → i ≤ length xs → last_of q (take i xs) ≡ last_of q (take (last_of p (take i xs)) xs)
  last_through xs d zero h = refl
  last_through xs d (suc i) h =
      let by_p = last_take_more p xs i d (omega arith) in
      let by_q = last_take_more q xs i d (omega arith) in
      let none = narrows (get_or xs i d) in
      let ih = last_through xs d i (omega arith) in
      rw (← add-one i) (⊎_elim (λ (t : p (get_or xs i d) ≡ true). grind (arith, nat_tests)) (λ (t : p (get_or xs i d) ≡ false). grind (arith, nat_tests)) (cases_Bool (p (get_or xs i d))))
