-- The printed text of a schedule and of a refusal, as a list of bytes.
use Rattle.std.specs.Prelude.{ℕ, List, [], ◌∷◌, ◌++◌, map, codes, decimal}
use Rattle.std.specs.List.{flat_map}
use Rattle.schedule.specs.declared.rows.Row.{Row}
use Rattle.page.specs.declared.fault.Fault.{Fault}

-- each word after a space
abbrev pub spaced : List (List ℕ) → List ℕ
spaced [] = []
spaced (w ∷ ws) = codes " " ++ (w ++ spaced ws)

-- a line: words with a space between each two, and at the end a newline
abbrev pub line : List ℕ → List (List ℕ) → List ℕ
line w ws = w ++ (spaced ws ++ codes "\n")

-- a row: `block processor start finish`
abbrev pub row_line : Row → List ℕ
row_line r = line (decimal r.block) (decimal r.processor ∷ decimal r.start ∷ decimal r.finish ∷ [])

-- the last line, of a schedule of length l by blocks of cost k and delay chain c
abbrev pub last_line : ℕ → ℕ → ℕ → List ℕ
last_line l k c = line (codes "length") (decimal l ∷ codes "cost" ∷ decimal k ∷ codes "chain" ∷ decimal c ∷ [])

-- a schedule: a line for each row, and the last line
abbrev pub listing : List Row → ℕ → ℕ → ℕ → List ℕ
listing rows l k c = flat_map row_line rows ++ last_line l k c

abbrev pub fault_numbers : Fault → List ℕ
fault_numbers f = f.layer ∷ f.number ∷ f.place ∷ []

-- a refusal: `refused`, and the three numbers of each fault
abbrev pub refusal_line : List Fault → List ℕ
refusal_line faults = line (codes "refused") (map decimal (flat_map fault_numbers faults))
