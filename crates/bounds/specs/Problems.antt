-- What a problem must be for every theorem here.
use Rattle.std.specs.Prelude.{ℕ, ◌≤◌, List}
use Rattle.chains.specs.Chains.{Ordered}
use Rattle.chains.specs.Lists.{In}
use Rattle.machine.specs.Model.{Model}
use Rattle.schedule.specs.Problems.{Problem, Sound}

-- a sound problem with a processing order of exactly its blocks, and a machine with a processor
pub record Processed (M : Model) (g : Problem) (order : List ℕ) : Type 0 where
  pub some : 1 ≤ M.processors
  pub sound : Sound g
  pub ordered : Ordered g.messages order
  pub listed : (b : ℕ) → In b g.blocks → In b order
  pub known : (b : ℕ) → In b order → In b g.blocks
