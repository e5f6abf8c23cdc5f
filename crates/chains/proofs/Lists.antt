-- What stands in a list, and lists whose places hold different things.
use Rattle.std.proofs.Common.{◌≡◌, ℕ, zero, suc, ◌<◌, Bool, true, false, cond, eqb, ◌⊎◌, List, [], ◌∷◌, ◌++◌, map, length, get_or, replicate, sym, refl, ap, subst, ap₂, inl, inr, ⊎_elim, arith}
use Rattle.std.specs.List.{flat_map}
use Rattle.std.proofs.lemmas.Bool.{eqb-true, eqb-false, eq-eqb, ne_eqb, or_cases, or_left, or_right, cases_Bool}
use Rattle.chains.specs.Lists.{In, Apart}
use Rattle.chains.specs.Chains.{has, place}

pub in_left : {A : Type 0} (x : A) (xs ys : List A) → In x xs → In x (xs ++ ys)
in_left x [] ys h = absurd h
in_left x (y ∷ xs) ys h = ⊎_elim inl (λ h. inr (in_left x xs ys h)) h

pub in_right : {A : Type 0} (x : A) (xs ys : List A) → In x ys → In x (xs ++ ys)
in_right x [] ys h = h
in_right x (y ∷ xs) ys h = inr (in_right x xs ys h)

pub in_append : {A : Type 0} (x : A) (xs ys : List A) → In x (xs ++ ys) → In x xs ⊎ In x ys
in_append x [] ys h = inr h
in_append x (y ∷ xs) ys h = ⊎_elim (λ e. inl (inl e)) (λ h. ⊎_elim (λ i. inl (inr i)) inr (in_append x xs ys h)) h

pub in_map : {A B : Type 0} (f : A → B) (x : A) (xs : List A) → In x xs → In (f x) (map f xs)
in_map f x [] h = absurd h
in_map f x (y ∷ xs) h = ⊎_elim (λ e. inl (ap f e)) (λ h. inr (in_map f x xs h)) h

pub of_map : {A B : Type 0} (f : A → B) (y : B) (xs : List A) → In y (map f xs) → (x : A) × In x xs × (y ≡ f x)
of_map f y [] h = absurd h
of_map f y (x ∷ xs) h = ⊎_elim (λ e. (x, inl refl, e)) (λ h. let r = of_map f y xs h in (r.0, inr r.1, r.2)) h

pub in_joined : {X A : Type 0} (f : X → List A) (y : A) (x : X) (xs : List X) → In x xs → In y (f x) → In y (flat_map f xs)
in_joined f y x [] h i = absurd h
in_joined {X = X} f y x (z ∷ xs) h i =
    ⊎_elim (λ e. let P : X → Type 0 = λ w. In y (f w) in in_left y (f z) (flat_map f xs) (subst P e i)) (λ h. in_right y (f z) (flat_map f xs) (in_joined f y x xs h i)) h

pub of_joined : {X A : Type 0} (f : X → List A) (y : A) (xs : List X) → In y (flat_map f xs) → (x : X) × In x xs × In y (f x)
of_joined f y [] h = absurd h
of_joined f y (x ∷ xs) h =
    ⊎_elim (λ i. (x, inl refl, i)) (λ h. let r = of_joined f y xs h in (r.0, inr r.1, r.2)) (in_append y (f x) (flat_map f xs) h)

-- functions that agree on what stands in a list have one map
pub map_same : {A B : Type 0} (f g : A → B) (xs : List A) → ((x : A) → In x xs → f x ≡ g x) → map f xs ≡ map g xs
map_same f g [] h = refl
map_same f g (x ∷ xs) h = ap₂ (λ y ys. y ∷ ys) (h x (inl refl)) (map_same f g xs (λ y i. h y (inr i)))

pub in_getD : {A : Type 0} (xs : List A) (i : ℕ) (d : A) → i < length xs → In (get_or xs i d) xs
in_getD [] i d l = absurd (omega arith)
in_getD (x ∷ xs) zero d l = inl refl
in_getD (x ∷ xs) (suc i) d l = inr (in_getD xs i d (omega arith))

pub in_index : {A : Type 0} (x : A) (xs : List A) (d : A) → In x xs → (i : ℕ) × (i < length xs) × (get_or xs i d ≡ x)
in_index x [] d h = absurd h
in_index x (y ∷ xs) d h = ⊎_elim (λ e. (0, omega arith, sym e)) (λ h. let r = in_index x xs d h in let lt : r.0 < length xs = r.1 in (suc r.0, omega arith, r.2)) h

pub apart_append : {A : Type 0} (xs ys : List A) → Apart xs → Apart ys → ((x : A) → In x xs → In x ys → ⊥) → Apart (xs ++ ys)
apart_append [] ys a b no_both = b
apart_append (x ∷ xs) ys a b no_both =
    (λ h. ⊎_elim a.0 (no_both x (inl refl)) (in_append x xs ys h), apart_append xs ys a.1 b (λ y i j. no_both y (inr i) j))

pub apart_map : {A B : Type 0} (f : A → B) → ((x y : A) → f x ≡ f y → x ≡ y) → (xs : List A) → Apart xs → Apart (map f xs)
apart_map f inj [] a = tt
apart_map {A = A} f inj (x ∷ xs) a =
    (λ h. let r = of_map f (f x) xs h in let P : A → Type 0 = λ w. In w xs in a.0 (subst P (sym (inj x r.0 r.2)) r.1), apart_map f inj xs a.1)

pub has_in : (x : ℕ) (xs : List ℕ) → has x xs ≡ true → In x xs
has_in x [] h = absurd (let z : ◌≡◌ {A = Bool} false true = h in let w : ◌≡◌ {A = ℕ} 0 1 = cc in omega arith)
has_in x (y ∷ ys) h = ⊎_elim (λ e. inl (eqb-true x y e)) (λ e. inr (has_in x ys e)) (or_cases (eqb x y) (has x ys) h)

pub in_has : (x : ℕ) (xs : List ℕ) → In x xs → has x xs ≡ true
in_has x [] h = absurd h
in_has x (y ∷ ys) h = ⊎_elim (λ e. or_left (eqb x y) (has x ys) (eq-eqb x y e)) (λ i. or_right (eqb x y) (has x ys) (in_has x ys i)) h

-- a block with a place below the length stands at that place
pub at_place : (xs : List ℕ) (b : ℕ) → place xs b < length xs → get_or xs (place xs b) 0 ≡ b
at_place [] b l = absurd (omega arith)
at_place (x ∷ xs) b l = ⊎_elim
    (λ e. rw e (eqb-true x b e))
    (λ e. let l' : cond (eqb x b) 0 (suc (place xs b)) < suc (length xs) = l in
    let m : suc (place xs b) < suc (length xs) = rw e at l' in rw e (at_place xs b (omega arith)))
    (cases_Bool (eqb x b))

pub in_place : (xs : List ℕ) (b : ℕ) → In b xs → place xs b < length xs
in_place [] b h = absurd h
in_place (x ∷ xs) b h = ⊎_elim
    (λ e. rw e (omega arith))
    (λ e. let i : In b xs = ⊎_elim (λ q. absurd (eqb-false x b e (sym q))) (λ i. i) h in let m : place xs b < length xs = in_place xs b i in rw e (omega arith))
    (cases_Bool (eqb x b))

pub place_in : (xs : List ℕ) (b : ℕ) → place xs b < length xs → In b xs
place_in xs b l = let P : ℕ → Type 0 = λ w. In w xs in subst P (at_place xs b l) (in_getD xs (place xs b) 0 l)

-- the two ways to say that each block stands once
pub once_apart : (xs : List ℕ) → ((k : ℕ) → k < length xs → place xs (get_or xs k 0) ≡ k) → Apart xs
once_apart [] h = tt
once_apart (x ∷ xs) h = (
  λ i. let r = in_index x xs 0 i in
      let lt : r.0 < length xs = r.1 in
      let e : place (x ∷ xs) (get_or xs r.0 0) ≡ suc r.0 = h (suc r.0) (omega arith) in
      let P : ℕ → Type 0 = λ w. place (x ∷ xs) w ≡ suc r.0 in
      let z : place (x ∷ xs) x ≡ suc r.0 = subst P r.2 e in
      let t : eqb x x ≡ true = eq-eqb x x refl in
      let n : ◌≡◌ {A = ℕ} 0 (suc r.0) = rw t at z in
      absurd (omega arith),
  once_apart xs (λ k l.
      let e : place (x ∷ xs) (get_or xs k 0) ≡ suc k = h (suc k) (omega arith) in
      ⊎_elim
      (λ t. let n : ◌≡◌ {A = ℕ} 0 (suc k) = rw t at e in absurd (omega arith))
      (λ t. let n : suc (place xs (get_or xs k 0)) ≡ suc k = rw t at e in omega arith)
      (cases_Bool (eqb x (get_or xs k 0)))),
)

pub apart_once : (xs : List ℕ) → Apart xs → (k : ℕ) → k < length xs → place xs (get_or xs k 0) ≡ k
apart_once [] a k l = absurd (omega arith)
apart_once (x ∷ xs) a zero l = let t : eqb x x ≡ true = eq-eqb x x refl in rw t refl
apart_once (x ∷ xs) a (suc k) l =
    let lt : k < length xs = omega arith in
    let n : eqb x (get_or xs k 0) ≡ false = ne_eqb x (get_or xs k 0) (λ e. let P : ℕ → Type 0 = λ w. In w xs in a.0 (subst P (sym e) (in_getD xs k 0 lt))) in
    rw n (ap suc (apart_once xs a.1 k lt))

-- a list of nothing but d has d everywhere
pub all_same : {A : Type 0} (d : A) (n i : ℕ) → get_or (replicate n d) i d ≡ d
all_same d zero i = refl
all_same d (suc n) zero = refl
all_same d (suc n) (suc i) = all_same d n i
