-- A problem as it is lent, and as scheduling sees it.
use Rattle.std.specs.Prelude.{ℕ, Bool, List, Option, slice_index}
use Rattle.machine.specs.Model.{Model}
use Rattle.schedule.specs.declared.problem.Problem.{Problem as Lent}
use Rattle.schedule.specs.declared.priority.Standing.{Standing}
use Rattle.schedule.specs.declared.rows.Row.{Row}
use Rattle.schedule.specs.Orders.{Order, earlier}
use Rattle.schedule.specs.Placing.{first_with, chosen, with_row, placing}
use Rattle.schedule.specs.Problems.{Problem}

abbrev pub seen : Lent → Problem
seen p = record { blocks = p.blocks.now; time = λ b. slice_index p.times.now b; messages = p.messages.now }

-- the level and the time of each block
abbrev pub standing_in : Lent → ℕ → Standing
standing_in p b = record { level = slice_index p.levels.now b; time = slice_index p.times.now b }

-- whether a block is earlier than another in an order
abbrev pub earlier_in : Order → Lent → ℕ → ℕ → Bool
earlier_in o p = earlier o (standing_in p)

-- the first of what is at hand and a block's row, if the block is a candidate
abbrev pub first_in : Model → Lent → Order → List Row → Option Row → ℕ → Option Row
first_in M p o = first_with M (seen p) (earlier_in o p)

-- the row that a step adds, where there is a candidate
abbrev pub chosen_in : Model → Lent → Order → List Row → Option Row
chosen_in M p o = chosen M (seen p) (earlier_in o p)

-- the rows after one step more
abbrev pub stepped : Model → Lent → Order → List Row → List Row
stepped M p o rows = with_row rows (chosen_in M p o rows)

-- the rows that placing gives
abbrev pub placing_in : Model → Lent → Order → List Row
placing_in M p o = placing M (seen p) (earlier_in o p)
