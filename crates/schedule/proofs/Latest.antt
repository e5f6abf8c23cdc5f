-- The greatest over a list, one more at the end.
use Rattle.std.proofs.Common.{◌≡◌, ℕ, ◌+◌, ◌<◌, max, List, [], ◌∷◌, ◌++◌, length, get_or, take, ap, ◌∙◌, arith}
use Rattle.std.proofs.lemmas.List.{take_more}
use Rattle.chains.specs.Lists.{greatest}

pub greatest_append : {X : Type 0} (f : X → ℕ) (xs ys : List X) → greatest f (xs ++ ys) ≡ max (greatest f xs) (greatest f ys)
greatest_append f [] ys = omega arith
greatest_append f (x ∷ xs) ys = omega (arith, greatest_append f xs ys)

pub greatest_push : {X : Type 0} (f : X → ℕ) (xs : List X) (y : X) → greatest f (xs ++ y ∷ []) ≡ max (greatest f xs) (f y)
greatest_push f xs y = omega (arith, greatest_append f xs (y ∷ []))

pub greatest_more : {X : Type 0} (f : X → ℕ) (xs : List X) (i : ℕ) (d : X) → i < length xs → greatest f (take (i + 1) xs) ≡ max (greatest f (take i xs)) (f (get_or xs i d))
greatest_more f xs i d lt = ap (greatest f) (take_more xs i d lt) ∙ greatest_push f (take i xs) (get_or xs i d)
