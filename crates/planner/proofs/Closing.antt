-- What closing rests on.
use Rattle.std.proofs.Common.{◌≡◌, ℕ, zero, suc, ◌+◌, ◌-◌, ◌≤◌, List, [], ◌∷◌, ◌++◌, ap, ◌∙◌, refl, sub-one, arith}
use Rattle.planner.specs.State.{numbers}

-- the numbers below n, and n
pub numbers_more : (n : ℕ) (below : List ℕ) → below ≡ numbers (n - 1) → 1 ≤ n → below ++ (n ∷ []) ≡ numbers (n + 1 - 1)
numbers_more zero below is some = absurd (omega arith)
numbers_more (suc n) below is some =
    let all : suc n + 1 - 1 ≡ suc n = omega arith in
    rw (all, is, sub-one) refl

pub numbers_all : (n k : ℕ) (list : List ℕ) → list ≡ numbers (k - 1) → k ≡ n + 1 → list ≡ numbers n
numbers_all n k list is past =
    let all : k - 1 ≡ n = omega arith in
    is ∙ ap numbers all
