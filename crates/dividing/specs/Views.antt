-- The tasks, links and blocks of a partition.
use Rattle.std.specs.Prelude.{ℕ, List, length}
use Rattle.graph.specs.Net.{Net}
use Rattle.partition.specs.Sorted.{Sorted}
use Rattle.partition.specs.declared.partition.Partition.{Partition}
use Rattle.joining.specs.Outcomes.{blocks_in, order_in}
use Rattle.joining.specs.declared.joined.Joined.{Joined}

abbrev pub net_of : Partition → Net
net_of p = record { tasks = p.tasks.now; links = p.links.now }

abbrev pub blocks_of : Partition → List ℕ
blocks_of p = p.blocks.now

-- j holds blocks of a partition's tasks, with a processing order of them
abbrev pub Regroups : Partition → Joined → Type 0
Regroups p j = Sorted (length p.tasks.now) p.links.now (blocks_in j) (order_in j)
