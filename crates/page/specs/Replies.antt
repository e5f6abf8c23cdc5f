-- What handing out a text answers, and what it leaves in the output.
use Rattle.std.specs.Prelude.{ℕ, cond, List, ◌++◌, length, drop, ℤ, pos, neg_ℤ, nat_le}

-- the length of the text where it fits, and else minus that length
abbrev pub reply : List ℕ → List ℕ → ℤ
reply text output = cond (nat_le (length text) (length output)) (pos (length text)) (neg_ℤ (pos (length text)))

-- the text where it fits, and then what stood behind it; else all as it was
abbrev pub filled : List ℕ → List ℕ → List ℕ
filled text output = cond (nat_le (length text) (length output)) (text ++ drop (length text) output) output
