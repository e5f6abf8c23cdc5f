-- A partition as the code holds it stands: it fits, and has a processing order.
use Rattle.std.proofs.Common.{length}
use Rattle.partition.specs.declared.partition.Partition.{Partition}
use Rattle.partition.proofs.Handling.{ends}
use Rattle.joining.proofs.Outcome.{sorted_of}
use Rattle.dividing.specs.Views.{net_of, blocks_of}
use Rattle.dividing.proofs.Steps.{Fit, Standing}

pub view_fit : (p : Partition) → Fit (net_of p)
view_fit p = record { small = p.small; few = p.few; ends = ends (length p.tasks.now) p.links.now p.joined }

pub view_standing : (p : Partition) → Standing (net_of p) (blocks_of p)
view_standing p = record { order = p.order.now; sorted = sorted_of p }
