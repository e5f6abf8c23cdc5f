-- What is true of every schedule whose rows were chosen step by step.
use Rattle.std.specs.Prelude.{◌≡◌, ℕ, Bool, List, length}
use Rattle.chains.specs.Lists.{In}
use Rattle.machine.specs.Model.{Model}
use Rattle.schedule.specs.declared.rows.Row.{Row}
use Rattle.schedule.specs.declared.priority.Standing.{Standing}
use Rattle.schedule.specs.Problems.{Problem, Sound}
use Rattle.schedule.specs.Orders.{Order, Lawful, earlier}
use Rattle.schedule.specs.Placing.{placing}
use Rattle.schedule.specs.Choices.{Placed, Chosen, NeverFalls, NoneWaits}
use Rattle.schedule.specs.Valid.{Valid}
use Rattle.bounds.specs.Problems.{Processed}

-- every row is what a step chooses after the rows above it, and every block has exactly one row
pub record Complete (M : Model) (g : Problem) (e : ℕ → ℕ → Bool) (rows : List Row) : Type 0 where
  pub chosen : Chosen M g e rows
  pub every : (b : ℕ) → In b g.blocks → Placed rows b
  pub count : length rows ≡ length g.blocks

-- placing by any lawful order chooses each row, until no block is left
abbrev pub PlacingChooses : Type 0
PlacingChooses = (M : Model) (g : Problem) (order : List ℕ) (o : Order) (standing : ℕ → Standing)
    → Processed M g order → Lawful o → Complete M g (earlier o standing) (placing M g (earlier o standing))

abbrev pub StartsRise : Type 0
StartsRise = (M : Model) (g : Problem) (e : ℕ → ℕ → Bool) (rows : List Row) → Chosen M g e rows → NeverFalls rows

abbrev pub ChosenValid : Type 0
ChosenValid = (M : Model) (g : Problem) (e : ℕ → ℕ → Bool) (rows : List Row)
    → Chosen M g e rows → ((b : ℕ) → In b g.blocks → Placed rows b) → Valid M g rows

abbrev pub ChosenWaits : Type 0
ChosenWaits = (M : Model) (g : Problem) (e : ℕ → ℕ → Bool) (rows : List Row) → Sound g → Chosen M g e rows → NoneWaits M g e rows
