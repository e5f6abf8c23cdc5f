-- What is met next.
use Rattle.std.specs.Prelude.{◌≡◌, ℕ, ◌<◌, List, length}
use Rattle.graph.specs.Net.{Net}
use Rattle.machine.specs.Model.{Model}
use Rattle.partition.specs.Blocks.{block_list}
use Rattle.joining.specs.Outcomes.{blocks_in}
use Rattle.dividing.specs.Dividing.{cost_of, next}
use Rattle.dividing.specs.Tables.{Tables}
use Rattle.dividing.specs.declared.divided.Divided.{Divided}

-- the blocks p are several, and d holds those that are met next, their processing order and their cost
pub record NextMet (m : Model) (net : Net) (p : List ℕ) (d : Divided) : Type 0 where
  pub several : 1 < length (block_list p)
  pub blocks : blocks_in d.joined ≡ next m net p
  pub tables : Tables (length net.tasks) net.links d.joined
  pub cost : d.cost ≡ cost_of m net (next m net p)
