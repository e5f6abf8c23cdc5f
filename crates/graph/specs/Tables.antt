-- A square table of 256 rows, read by row and column from 0.
use Rattle.std.specs.Prelude.{◌≡◌, ℕ, zero, suc, ◌+◌, ◌<◌, Bool, false, cond, List, [], slice_index_or}
use Rattle.graph.specs.declared.limits.TheConstants.{MAX_TASKS}

abbrev pub at : List (List Bool) → ℕ → ℕ → Bool
at rows a b = slice_index_or (slice_index_or rows a []) b false

-- the table shows f, over numbers from 1, in all its rows and columns
abbrev pub Shows : List (List Bool) → (ℕ → ℕ → Bool) → Type 0
Shows rows f = (a b : ℕ) → a < MAX_TASKS → b < MAX_TASKS → at rows a b ≡ f (a + 1) (b + 1)

-- how many of the numbers below n pass a test
abbrev pub count_below : (ℕ → Bool) → ℕ → ℕ
count_below p zero = 0
count_below p (suc n) = cond (p n) 1 0 + count_below p n
