-- Whether something in a list passes a test, as a fact.
use Rattle.std.proofs.Common.{◌≡◌, Bool, true, false, ◌||◌, List, [], ◌∷◌, sym, refl, ap₂, subst, inl, inr, ⊎_elim}
use Rattle.std.proofs.lemmas.Bool.{or_left, or_right, or_from, or_parts, or_cases, false≢true}
use Rattle.std.specs.List.{list_any}
use Rattle.chains.specs.Lists.{In}

-- where none passes, each fails
pub none_passes : {A : Type 0} (p : A → Bool) (xs : List A) → list_any p xs ≡ false → (x : A) → In x xs → p x ≡ false
none_passes p [] e x i = absurd i
none_passes {A = A} p (y ∷ ys) e x i =
    let both = or_parts (p y) (list_any p ys) e in
    let P : A → Type 0 = λ z. p z ≡ false in
    ⊎_elim (λ (q : x ≡ y). subst P (sym q) both.0) (λ j. none_passes p ys both.1 x j) i

pub all_fail : {A : Type 0} (p : A → Bool) (xs : List A) → ((x : A) → In x xs → p x ≡ false) → list_any p xs ≡ false
all_fail p [] h = refl
all_fail p (y ∷ ys) h = or_from (p y) (list_any p ys) (h y (inl refl)) (all_fail p ys (λ x i. h x (inr i)))

-- where one passes, something does
pub one_passes : {A : Type 0} (p : A → Bool) (xs : List A) → list_any p xs ≡ true → (x : A) × In x xs × (p x ≡ true)
one_passes p [] e = absurd (false≢true e)
one_passes p (y ∷ ys) e =
    ⊎_elim
    (λ (q : p y ≡ true). (y, inl refl, q))
    (λ (q : list_any p ys ≡ true). let r = one_passes p ys q in (r.0, inr r.1, r.2))
    (or_cases (p y) (list_any p ys) e)

pub passes_one : {A : Type 0} (p : A → Bool) (xs : List A) (x : A) → In x xs → p x ≡ true → list_any p xs ≡ true
passes_one p [] x i e = absurd i
passes_one {A = A} p (y ∷ ys) x i e =
    let P : A → Type 0 = λ z. p z ≡ true in
    ⊎_elim (λ (q : x ≡ y). or_left (p y) (list_any p ys) (subst P q e)) (λ j. or_right (p y) (list_any p ys) (passes_one p ys x j e)) i

-- tests that agree on all of a list
pub any_alike : {A : Type 0} (p q : A → Bool) (xs : List A) → ((x : A) → In x xs → p x ≡ q x) → list_any p xs ≡ list_any q xs
any_alike p q [] h = refl
any_alike p q (y ∷ ys) h = ap₂ (λ (a b : Bool). a || b) (h y (inl refl)) (any_alike p q ys (λ x i. h x (inr i)))
