-- What stands in a chunk of four.
use Rattle.std.proofs.Common.{◌≡◌, ℕ, zero, suc, ◌+◌, ◌*◌, ◌<◌, List, [], drop, get_or, ap, ◌∙◌, arith}
use Rattle.std.proofs.lemmas.List.{get_or-take, get_or-drop}
use Rattle.std.specs.Simd.{first_chunks}

pub chunk_get : (k : ℕ) (xs : List ℕ) (i r : ℕ) → i < k → r < 4 → get_or (get_or (first_chunks 4 k xs) i []) r 0 ≡ get_or xs (4 * i + r) 0
chunk_get zero xs i r l m = absurd (omega arith)
chunk_get (suc k) xs zero r l m = let e : r ≡ 4 * 0 + r = omega arith in get_or-take 4 xs r 0 m ∙ ap (λ j. get_or xs j 0) e
chunk_get (suc k) xs (suc i) r l m =
    let e : 4 + (4 * i + r) ≡ 4 * suc i + r = omega arith in
    chunk_get k (drop 4 xs) i r (omega arith) m ∙ get_or-drop 4 xs (4 * i + r) 0 ∙ ap (λ j. get_or xs j 0) e
