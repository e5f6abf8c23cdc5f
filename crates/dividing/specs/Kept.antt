-- What dividing keeps.
use Rattle.std.specs.Prelude.{◌≡◌, ℕ, List, length}
use Rattle.graph.specs.Net.{Net}
use Rattle.machine.specs.Model.{Model}
use Rattle.joining.specs.Outcomes.{blocks_in}
use Rattle.dividing.specs.Dividing.{cost_of, divided}
use Rattle.dividing.specs.Tables.{Tables}
use Rattle.dividing.specs.declared.divided.Divided.{Divided}

-- d holds the blocks that come of dividing the start, a processing order of them, and their cost
pub record Kept (m : Model) (net : Net) (start : List ℕ) (d : Divided) : Type 0 where
  pub blocks : blocks_in d.joined ≡ divided m net start
  pub tables : Tables (length net.tasks) net.links d.joined
  pub cost : d.cost ≡ cost_of m net (divided m net start)
