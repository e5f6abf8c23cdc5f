-- Lists that are joined of pieces of one length.
use Rattle.std.proofs.Common.{◌≡◌, ℕ, zero, suc, ◌+◌, ◌*◌, ◌<◌, List, [], ◌∷◌, ◌++◌, length, get_or, ap, ◌∙◌, arith}
use Rattle.std.specs.List.{flat_map}
use Rattle.std.proofs.lemmas.List.{length-append, get_or_append_left, get_or-append-add}

module _ {X : Type 0} (f : X → List ℕ) (w : ℕ) (wide : (x : X) → length (f x) ≡ w) where
  pub length_pieces : (xs : List X) → length (flat_map f xs) ≡ w * length xs
  length_pieces [] = omega arith
  length_pieces (x ∷ xs) = length-append (f x) (flat_map f xs) ∙ omega (arith, wide x, length_pieces xs)

  pub getD_pieces : (xs : List X) (i r : ℕ) (d : X) → i < length xs → r < w → get_or (flat_map f xs) (w * i + r) 0 ≡ get_or (f (get_or xs i d)) r 0
  getD_pieces [] i r d l m = absurd (omega arith)
  getD_pieces (x ∷ xs) zero r d l m =
      let e : w * 0 + r ≡ r = omega arith in
      ap (λ k. get_or (f x ++ flat_map f xs) k 0) e ∙ get_or_append_left (f x) (flat_map f xs) 0 r (omega (arith, wide x))
  getD_pieces (x ∷ xs) (suc i) r d l m =
      let e : w * suc i + r ≡ length (f x) + (w * i + r) = omega (arith, wide x) in
      ap (λ k. get_or (f x ++ flat_map f xs) k 0) e ∙ get_or-append-add (f x) (flat_map f xs) (w * i + r) 0 ∙ getD_pieces xs i r d (omega arith) m
