-- Lists without repeats, and how long they are.
use Rattle.std.proofs.Common.{◌≡◌, ℕ, ◌≤◌, List, [], ◌∷◌, ◌++◌, length, sym, refl, ap, subst, inl, inr, ⊎_elim, arith}
use Rattle.std.proofs.lemmas.List.{length-append}
use Rattle.chains.specs.Lists.{In, Apart}
use Rattle.chains.proofs.Lists.{in_left, in_right, in_append}
use Rattle.chains.proofs.Places.{cases_in}

-- the list before and after one of its elements
around : (x : ℕ) (ys : List ℕ) → In x ys → (l : List ℕ) × (r : List ℕ) × (ys ≡ l ++ (x ∷ r))
around x [] i = absurd i
around x (y ∷ ys) i =
    ⊎_elim
    (λ (e : x ≡ y). ([], ys, ap (λ (z : ℕ). z ∷ ys) (sym e)))
    (λ j. let s = around x ys j in (y ∷ s.0, s.1, ap (λ (zs : List ℕ). y ∷ zs) s.2))
    i

-- a list without repeats is no longer than one that has all of it
pub no_longer : (xs ys : List ℕ) → Apart xs → ((x : ℕ) → In x xs → In x ys) → length xs ≤ length ys
no_longer [] ys a sub = omega arith
no_longer (x ∷ xs) ys a sub =
    let s = around x ys (sub x (inl refl)) in
    let l = s.0 in
    let r = s.1 in
    let rest = no_longer xs (l ++ r) a.1 (λ y i.
    ⊎_elim
    (λ j. in_left y l r j)
    (λ j. ⊎_elim (λ (e : y ≡ x). absurd (a.0 (subst (λ (k : ℕ). In k xs) e i))) (λ k. in_right y l r k) j)
    (in_append y l (x ∷ r) (subst (λ (zs : List ℕ). In y zs) s.2 (sub y (inr i))))) in
    omega (arith, rest, ap length s.2, length-append l (x ∷ r), length-append l r)

-- a list without repeats that is as long as one that has all of it has all of that
pub has_all : (xs ys : List ℕ) → Apart xs → ((x : ℕ) → In x xs → In x ys) → length xs ≡ length ys → (y : ℕ) → In y ys → In y xs
has_all xs ys a sub e y i =
    ⊎_elim
    (λ (j : In y xs). j)
    (λ (no : In y xs → ⊥).
    let more = no_longer (y ∷ xs) ys (no, a) (λ z j. ⊎_elim (λ (q : z ≡ y). subst (λ (k : ℕ). In k ys) (sym q) i) (λ k. sub z k) j) in
    absurd (omega (arith, more)))
    (cases_in y xs)
