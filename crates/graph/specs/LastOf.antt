-- The number, from 1, of the last element of a list that passes a test, or 0 where none does.
use Rattle.std.specs.Prelude.{ℕ, ◌+◌, Bool, cond, List, [], ◌∷◌}

-- the elements from number k on, where `best` is the last that passed before them
abbrev pub last_from : {X : Type 0} → (X → Bool) → ℕ → ℕ → List X → ℕ
last_from p k best [] = best
last_from p k best (x ∷ xs) = last_from p (k + 1) (cond (p x) k best) xs

abbrev pub last_of : {X : Type 0} → (X → Bool) → List X → ℕ
last_of p xs = last_from p 1 0 xs
