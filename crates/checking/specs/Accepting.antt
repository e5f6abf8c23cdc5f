-- Exactly the valid schedules are accepted.
use Rattle.std.specs.Prelude.{◌≡◌, ℕ, List, Ok, Result}
use Rattle.chains.specs.Lists.{Apart}
use Rattle.machine.specs.Model.{Model}
use Rattle.schedule.specs.declared.rows.Row.{Row}
use Rattle.schedule.specs.Problems.{Problem, length_of}
use Rattle.schedule.specs.Valid.{Valid}
use Rattle.checking.specs.declared.refusal.CheckRefusal.{CheckRefusal}
use Rattle.checking.specs.Checking.{check_answer}

-- an answer accepts just where the rows are a valid schedule, and then says how long it is
pub record Judges (M : Model) (g : Problem) (rows : List Row) (answer : Result ℕ CheckRefusal) : Type 0 where
  pub only : (n : ℕ) → answer ≡ Ok n → Valid M g rows
  pub long : (n : ℕ) → answer ≡ Ok n → n ≡ length_of rows
  pub every : Valid M g rows → answer ≡ Ok (length_of rows)

-- so are the rows of any problem that lists no block twice answered
pub record AcceptsExactly : Type 0 where
  pub judges : (M : Model) (g : Problem) (rows : List Row) → Apart g.blocks → Judges M g rows (check_answer M g rows)
