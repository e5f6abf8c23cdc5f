-- What no rival can beat: any valid schedule of the same blocks when messages take no time.
use Rattle.std.specs.Prelude.{ℕ, ◌*◌, ◌≤◌, List}
use Rattle.chains.specs.Chains.{Chain}
use Rattle.chains.specs.Lists.{In, total}
use Rattle.machine.specs.Model.{Model}
use Rattle.partition.specs.Costs.{work, critical_path, cost}
use Rattle.schedule.specs.declared.rows.Row.{Row}
use Rattle.schedule.specs.Problems.{Problem, Sound, length_of}
use Rattle.schedule.specs.Valid.{Valid, Rival}

-- the blocks of a chain run one after the other
abbrev pub ChainsFit : Type 0
ChainsFit = (M : Model) (g : Problem) (rival : List Row) → Sound g → Rival M g rival
    → (c : List ℕ) → Chain g.messages c → ((b : ℕ) → In b c → In b g.blocks) → total g.time c ≤ length_of rival

-- all processors together do at most P in each time
abbrev pub WorkFits : Type 0
WorkFits = (M : Model) (g : Problem) (rival : List Row) → Sound g → Rival M g rival
    → work g.time g.blocks ≤ M.processors * length_of rival

-- so no rival is shorter than the critical path, nor than the P-th part of the cost
pub record Outlasts (M : Model) (g : Problem) (rows : List Row) : Type 0 where
  pub path : critical_path g.time g.messages g.blocks ≤ length_of rows
  pub cost : cost M g.time g.messages g.blocks ≤ M.processors * length_of rows

abbrev pub RivalsOutlast : Type 0
RivalsOutlast = (M : Model) (g : Problem) (rival : List Row) → Sound g → Rival M g rival → Outlasts M g rival

-- a schedule is a rival of itself: without delays it is still valid
abbrev pub ValidRival : Type 0
ValidRival = (M : Model) (g : Problem) (rows : List Row) → Valid M g rows → Rival M g rows
