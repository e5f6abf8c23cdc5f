-- Joining two blocks with all blocks on a path between them.
use Rattle.std.specs.Prelude.{ℕ, min, Bool, false, cond, not, ◌&&◌, ◌||◌, List, [], ◌∷◌, ◌++◌, map, filter, ◌==◌}
use Rattle.chains.specs.declared.message.Message.{Message}
use Rattle.chains.specs.Chains.{chains, has}

-- whether some chain from a contains b, over at most n steps
abbrev pub any : {X : Type 0} → (X → Bool) → List X → Bool
any p [] = false
any p (x ∷ xs) = p x || any p xs

abbrev pub leads : List Message → ℕ → ℕ → ℕ → Bool
leads ms n a b = any (has b) (chains ms n a)

-- whether block y is a, or b, or lies on a path between them, in either direction
abbrev pub between : (ℕ → ℕ → Bool) → ℕ → ℕ → ℕ → Bool
between reach a b y = y == a || (y == b || ((reach a y && reach y b) || (reach b y && reach y a)))

-- the least of the blocks that pass a test, of those of a list and one more
abbrev pub least_among : (ℕ → Bool) → ℕ → List ℕ → ℕ
least_among p least [] = least
least_among p least (x ∷ xs) = least_among p (cond (p x) (min x least) least) xs

-- the partition in which the blocks that pass a test are one, numbered by its least task
abbrev pub united : (ℕ → Bool) → ℕ → List ℕ → List ℕ
united p number blocks = map (λ x. cond (p x) number x) blocks

-- the partition after joining blocks a and b
abbrev pub joining : (ℕ → ℕ → Bool) → List ℕ → ℕ → ℕ → List ℕ
joining reach blocks a b = united (between reach a b) (least_among (between reach a b) a blocks) blocks

-- of the blocks outside of the union those that reach it, and the others
abbrev pub early : (ℕ → ℕ → Bool) → ℕ → ℕ → ℕ → Bool
early reach a b y = not (between reach a b y) && (reach y a || reach y b)

abbrev pub late : (ℕ → ℕ → Bool) → ℕ → ℕ → ℕ → Bool
late reach a b y = not (between reach a b y) && not (reach y a || reach y b)

-- the processing order after joining: first what reaches the union, then the union, then all others, each in the old order
abbrev pub order_after : (ℕ → ℕ → Bool) → ℕ → ℕ → ℕ → List ℕ → List ℕ
order_after reach a b number order = filter (early reach a b) order ++ (number ∷ filter (late reach a b) order)
