-- Places in lists that are put together, and in what a test keeps.
use Rattle.std.proofs.Common.{◌≡◌, ℕ, suc, ◌+◌, ◌<◌, Bool, true, false, cond, List, [], ◌∷◌, ◌++◌, length, filter, sym, refl, ap, ◌∙◌, subst, inl, inr, ⊎_elim, arith}
use Rattle.std.proofs.lemmas.Bool.{cases_eq, eq-eqb, ne_eqb, cond-true, cond-false}
use Rattle.chains.specs.Chains.{place}
use Rattle.chains.specs.Lists.{In, Apart}

place_here : (x : ℕ) (xs : List ℕ) (b : ℕ) → x ≡ b → place (x ∷ xs) b ≡ 0
place_here x xs b e = cond-true _ _ _ (eq-eqb x b e)

place_there : (x : ℕ) (xs : List ℕ) (b : ℕ) → (x ≡ b → ⊥) → place (x ∷ xs) b ≡ suc (place xs b)
place_there x xs b ne = cond-false _ _ _ (ne_eqb x b ne)

pub place_left : (xs ys : List ℕ) (b : ℕ) → In b xs → place (xs ++ ys) b ≡ place xs b
place_left [] ys b i = absurd i
place_left (x ∷ xs) ys b i =
    ⊎_elim
    (λ (e : x ≡ b). place_here x (xs ++ ys) b e ∙ sym (place_here x xs b e))
    (λ (ne : x ≡ b → ⊥). place_there x (xs ++ ys) b ne ∙ ap suc (place_left xs ys b (⊎_elim (λ (e : b ≡ x). absurd (ne (sym e))) (λ j. j) i)) ∙ sym (place_there x xs b ne))
    (cases_eq x b)

pub place_right : (xs ys : List ℕ) (b : ℕ) → (In b xs → ⊥) → place (xs ++ ys) b ≡ length xs + place ys b
place_right [] ys b out = omega arith
place_right (x ∷ xs) ys b out =
    let ne : x ≡ b → ⊥ = λ e. out (inl (sym e)) in
    place_there x (xs ++ ys) b ne ∙ omega (arith, place_right xs ys b (λ i. out (inr i)))

pub in_kept : (p : ℕ → Bool) (xs : List ℕ) (b : ℕ) → In b xs → p b ≡ true → In b (filter p xs)
in_kept p [] b i t = absurd i
in_kept p (x ∷ xs) b i t =
    ⊎_elim
    (λ (e : b ≡ x). subst (λ (ys : List ℕ). In b ys) (sym (cond-true (p x) (x ∷ filter p xs) (filter p xs) (subst (λ k. p k ≡ true) e t))) (inl e))
    (λ j. let ih = in_kept p xs b j t in elim (p x) as (λ t. In b (cond t (x ∷ filter p xs) (filter p xs))) [ true ↦ inr ih | false ↦ ih ])
    i

pub of_kept : (p : ℕ → Bool) (xs : List ℕ) (b : ℕ) → In b (filter p xs) → In b xs × (p b ≡ true)
of_kept p [] b i = absurd i
of_kept p (x ∷ xs) b i =
    let P : Bool → Type 0 = λ t. p x ≡ t → In b (cond t (x ∷ filter p xs) (filter p xs)) → In b (x ∷ xs) × (p b ≡ true) in
    let both : P (p x) = elim (p x) as P [
      | true ↦ λ y j. ⊎_elim (λ (e : b ≡ x). (inl e, subst (λ k. p k ≡ true) (sym e) y)) (λ k. let r = of_kept p xs b k in (inr r.0, r.1)) j
      | false ↦ λ y j. let r = of_kept p xs b j in (inr r.0, r.1)
    ] in
    both refl i

-- a test keeps the order of what it keeps
pub kept_before : (p : ℕ → Bool) (xs : List ℕ) (a b : ℕ) → p a ≡ true → p b ≡ true → place xs a < place xs b → place xs b < length xs → place (filter p xs) a < place (filter p xs) b
kept_before p [] a b ta tb lt low = absurd (omega arith)
kept_before p (x ∷ xs) a b ta tb lt low =
    ⊎_elim
    (λ (e : x ≡ a).
    let nb : x ≡ b → ⊥ = λ q. omega (arith, place_here x xs b q) in
    let keeps : filter p (x ∷ xs) ≡ x ∷ filter p xs = cond-true (p x) _ _ (subst (λ k. p k ≡ true) (sym e) ta) in
    subst (λ (ys : List ℕ). place ys a < place ys b) (sym keeps) (omega (arith, place_here x (filter p xs) a e, place_there x (filter p xs) b nb)))
    (λ (na : x ≡ a → ⊥). ⊎_elim
    (λ (e : x ≡ b). absurd (omega (arith, place_here x xs b e)))
    (λ (nb : x ≡ b → ⊥).
    let pa = place_there x xs a na in
    let pb = place_there x xs b nb in
    let ih : place (filter p xs) a < place (filter p xs) b = kept_before p xs a b ta tb (omega arith) (omega arith) in
    elim (p x) as (λ t. place (cond t (x ∷ filter p xs) (filter p xs)) a < place (cond t (x ∷ filter p xs) (filter p xs)) b) [
      | true ↦ omega (arith, place_there x (filter p xs) a na, place_there x (filter p xs) b nb)
      | false ↦ ih
    ])
    (cases_eq x b))
    (cases_eq x a)

pub apart_kept : (p : ℕ → Bool) (xs : List ℕ) → Apart xs → Apart (filter p xs)
apart_kept p [] a = tt
apart_kept p (x ∷ xs) a =
    let ih = apart_kept p xs a.1 in
    elim (p x) as (λ t. Apart (cond t (x ∷ filter p xs) (filter p xs))) [ true ↦ (λ i. a.0 (of_kept p xs x i).0, ih) | false ↦ ih ]
