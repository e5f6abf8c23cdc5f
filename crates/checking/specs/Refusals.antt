-- The layer, the number and the place of each refusal of rows, case by case.
use Rattle.std.specs.Prelude.{ℕ, List, ◌++◌, codes, decimal}
use Rattle.checking.specs.declared.refusal.CheckRefusal.{CheckRefusal}
use Rattle.checking.specs.declared.refusal.CheckRefusal.TheVariants.{WrongStage, RowCount, Block, Processor, Finish, Overlap, Arrival}

-- schedules are the fourth layer
abbrev pub layer_of : CheckRefusal → ℕ
layer_of WrongStage = 4
layer_of (RowCount rows) = 4
layer_of (Block row) = 4
layer_of (Processor row) = 4
layer_of (Finish row) = 4
layer_of (Overlap row) = 4
layer_of (Arrival row) = 4

abbrev pub number_of : CheckRefusal → ℕ
number_of WrongStage = 1
number_of (RowCount rows) = 12
number_of (Block row) = 13
number_of (Processor row) = 14
number_of (Finish row) = 15
number_of (Overlap row) = 16
number_of (Arrival row) = 17

-- nothing, how many rows there are, or a row by its number from 1
abbrev pub place_of : CheckRefusal → ℕ
place_of WrongStage = 0
place_of (RowCount rows) = rows
place_of (Block row) = row
place_of (Processor row) = row
place_of (Finish row) = row
place_of (Overlap row) = row
place_of (Arrival row) = row

-- what a refusal prints: its layer, its number and its place, with single spaces
abbrev pub text_of : CheckRefusal → List ℕ
text_of why = decimal (layer_of why) ++ codes " " ++ decimal (number_of why) ++ codes " " ++ decimal (place_of why)
