-- A partition that is held apart from its tasks.
use Rattle.std.specs.Prelude.{◌≡◌, ℕ, List, length}
use Rattle.graph.specs.declared.records.Link.{Link}
use Rattle.partition.specs.Blocks.{block_list}
use Rattle.joining.specs.Outcomes.{blocks_in, order_in}
use Rattle.partition.specs.Sorted.{Sorted}
use Rattle.joining.specs.declared.joined.Joined.{Joined}

-- j holds a partition of n tasks and a processing order of its blocks
pub record Tables (n : ℕ) (links : List Link) (j : Joined) : Type 0 where
  pub tasks : length (blocks_in j) ≡ n
  pub sorted : Sorted n links (blocks_in j) (order_in j)
  pub count : length (order_in j) ≡ length (block_list (blocks_in j))
