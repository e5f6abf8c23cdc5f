-- The first of a list at which a figure is greatest or least.
use Rattle.std.specs.Prelude.{ℕ, Bool, cond, List, [], ◌∷◌, nat_lt}

-- of x and the elements of a list the first that is best, where a test says whether one is better than another
abbrev pub first_best : {A : Type 0} → (A → A → Bool) → A → List A → A
first_best better x [] = x
first_best better x (y ∷ ys) = first_best better (cond (better y x) y x) ys

-- the first at which f is greatest
abbrev pub first_greatest : {A : Type 0} → (A → ℕ) → A → List A → A
first_greatest f x xs = first_best (λ b a. nat_lt (f a) (f b)) x xs

-- the first at which f is least
abbrev pub first_least : {A : Type 0} → (A → ℕ) → A → List A → A
first_least f x xs = first_best (λ b a. nat_lt (f b) (f a)) x xs

-- of the elements of a list the first at which f is least; d where there is none
abbrev pub first_least_of : {A : Type 0} → (A → ℕ) → A → List A → A
first_least_of f d [] = d
first_least_of f d (x ∷ xs) = first_least f x xs
