-- Bytes as words of 32 bits, the least byte first.
use Rattle.std.specs.Prelude.{ℕ, zero, suc, ◌+◌, ◌*◌, ◌/◌, ◌%◌, Bool, cond, ◌&&◌, List, [], ◌∷◌, ◌++◌, length, drop, Some, None, Option, ◌==◌, nat_le, slice_index}

-- the word at a place, from four bytes
abbrev pub word_at : List ℕ → ℕ → ℕ
word_at bs i = slice_index bs (4 * i) + 256 * slice_index bs (4 * i + 1) + 65536 * slice_index bs (4 * i + 2) + 16777216 * slice_index bs (4 * i + 3)

-- f 0, f 1, .. up to f (n - 1)
abbrev pub table : (ℕ → ℕ) → ℕ → List ℕ
table f zero = []
table f (suc n) = table f n ++ f n ∷ []

abbrev pub words_in : List ℕ → List ℕ
words_in bs = table (word_at bs) (length bs / 4)

-- whole words, for which a list has room
abbrev pub fits : List ℕ → List ℕ → Bool
fits bs out = length bs % 4 == 0 && nat_le (length bs / 4) (length out)

-- how many words there are, where they fit
abbrev pub taken_count : List ℕ → List ℕ → Option ℕ
taken_count bs out = cond (fits bs out) (Some (length bs / 4)) None

-- the words, and what stood behind them; or all as it was, where they do not fit
abbrev pub taken : List ℕ → List ℕ → List ℕ
taken bs out = cond (fits bs out) (words_in bs ++ drop (length bs / 4) out) out
