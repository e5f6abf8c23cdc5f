-- Texts that grow at their end.
use Rattle.std.proofs.Common.{◌≡◌, ℕ, ◌+◌, ◌<◌, ◌≤◌, List, [], ◌∷◌, ◌++◌, length, get_or, take, sym, ap, ◌∙◌}
use Rattle.std.specs.List.{flat_map}
use Rattle.std.proofs.lemmas.List.{flat_map_more, take_more, take_all}

-- one more text of those that are being appended, and all of them
pub joined_one : {X A : Type 0} (f : X → List A) (a : List A) (xs : List X) (i : ℕ) (x : X) (was now : List A) → i < length xs → x ≡ get_or xs i x
    → was ≡ a ++ flat_map f (take i xs) → now ≡ was ++ f x → now ≡ a ++ flat_map f (take (i + 1) xs)
joined_one f a xs i x was now lt e w n =
    n ∙ ap (λ z. z ++ f x) w ∙ flat_map_more f a (take i xs) x ∙ ap (λ y. a ++ flat_map f (take i xs ++ y ∷ [])) e ∙ sym (ap (λ z. a ++ flat_map f z) (take_more xs i x lt))

pub joined_all : {X A : Type 0} (f : X → List A) (a : List A) (xs : List X) (i : ℕ) (was : List A) → length xs ≤ i
    → was ≡ a ++ flat_map f (take i xs) → was ≡ a ++ flat_map f xs
joined_all f a xs i was le w = w ∙ ap (λ z. a ++ flat_map f z) (take_all i xs le)
