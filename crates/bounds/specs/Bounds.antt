-- How long a schedule can be, beside every rival.
use Rattle.std.specs.Prelude.{◌≡◌, ℕ, ◌+◌, ◌-◌, ◌*◌, ◌≤◌, Bool, List, [], ◌∷◌, length}
use Rattle.chains.specs.Chains.{Chain}
use Rattle.chains.specs.Lists.{In, total}
use Rattle.chains.specs.Sums.{steps_total}
use Rattle.machine.specs.Model.{Model}
use Rattle.partition.specs.Costs.{work, step_cost, delay_chain, cost}
use Rattle.schedule.specs.declared.rows.Row.{Row}
use Rattle.schedule.specs.declared.priority.Standing.{Standing}
use Rattle.schedule.specs.Problems.{Problem, Sound, length_of}
use Rattle.schedule.specs.Orders.{Order, Lawful, earlier}
use Rattle.schedule.specs.Placing.{placing}
use Rattle.schedule.specs.Choices.{Chosen, NeverFalls, NoneWaits}
use Rattle.schedule.specs.Valid.{Valid, Rival}
use Rattle.bounds.specs.Problems.{Processed}
use Rattle.bounds.specs.Schedules.{Complete}
use Rattle.bounds.specs.Rivals.{Outlasts}

-- b is the last block of a chain
abbrev pub Ends : List ℕ → ℕ → Type 0
Ends [] b = ⊥
Ends (x ∷ []) b = x ≡ b
Ends (x ∷ y ∷ rest) b = Ends (y ∷ rest) b

-- a chain that accounts for the length: it ends in a block that finishes last, and P times the length is at most the
-- work, P - 1 times the chain's block times, and P times its step costs together
pub record Explained (M : Model) (g : Problem) (rows : List Row) : Type 0 where
  pub chain : List ℕ
  pub is : Chain g.messages chain
  pub known : (b : ℕ) → In b chain → In b g.blocks
  pub last : Row
  pub there : In last rows
  pub latest : last.finish ≡ length_of rows
  pub ends : Ends chain last.block
  pub bound : M.processors * length_of rows
      ≤ work g.time g.blocks + (M.processors - 1) * total g.time chain + M.processors * steps_total (step_cost M g.messages) chain

abbrev pub LengthsExplained : Type 0
LengthsExplained = (M : Model) (g : Problem) (e : ℕ → ℕ → Bool) (rows : List Row)
    → Chosen M g e rows → 1 ≤ length rows → Explained M g rows

-- beside every rival of the same blocks: P × length ≤ (2 × P − 1) × rival + P × delay chain
abbrev pub NearRivals : Model → Problem → List Row → Type 0
NearRivals M g rows = (rival : List Row) → Rival M g rival
    → M.processors * length_of rows ≤ (2 * M.processors - 1) * length_of rival + M.processors * delay_chain M g.messages g.blocks

abbrev pub BoundOne : Type 0
BoundOne = (M : Model) (g : Problem) (order : List ℕ) (e : ℕ → ℕ → Bool) (rows : List Row)
    → Processed M g order → Chosen M g e rows → NearRivals M g rows

-- a length beside a rival's and a delay chain C on P processors
pub record Near (P length rival C : ℕ) : Type 0 where
  pub sharp : P * length ≤ (2 * P - 1) * rival + P * C
  pub twice : length ≤ 2 * rival + C

-- beside every rival of the blocks that stood before dividing, where dividing did not raise the cost
abbrev pub BoundTwo : Type 0
BoundTwo = (M : Model) (g₀ g : Problem) (order : List ℕ) (e : ℕ → ℕ → Bool) (rows rival : List Row)
    → Sound g₀ → Processed M g order
    → cost M g.time g.messages g.blocks ≤ cost M g₀.time g₀.messages g₀.blocks
    → Chosen M g e rows → Rival M g₀ rival
    → Near M.processors (length_of rows) (length_of rival) (delay_chain M g.messages g.blocks)

-- all that is promised of a schedule of g on M by the order e
pub record ScheduleStands (M : Model) (g : Problem) (e : ℕ → ℕ → Bool) (rows : List Row) : Type 0 where
  pub complete : Complete M g e rows
  pub never_falls : NeverFalls rows
  pub valid : Valid M g rows
  pub none_waits : NoneWaits M g e rows
  pub explained : 1 ≤ length g.blocks → Explained M g rows
  pub near : NearRivals M g rows
  pub outlasts : Outlasts M g rows

abbrev pub PlacingStands : Type 0
PlacingStands = (M : Model) (g : Problem) (order : List ℕ) (o : Order) (standing : ℕ → Standing) (rows : List Row)
    → Processed M g order → Lawful o → rows ≡ placing M g (earlier o standing) → ScheduleStands M g (earlier o standing) rows
