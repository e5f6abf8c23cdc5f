use Rattle.std.proofs.Common.{length}
use Rattle.partition.specs.Blocks.{block_list}
use Rattle.joining.specs.Outcomes.{blocks_in}
use Rattle.dividing.specs.Choosing.{cheaper}
use Rattle.dividing.specs.Views.{net_of, blocks_of}
use Rattle.dividing.proofs.Running.{Running}
use Rattle.dividing.proofs.divide.run.Given as goal

-- the cheaper of what was kept and what is present is the best so far
abbrev pub invariant-loop-next : goal.invariant-loop-next
invariant-loop-next g l = Running (g.M.Machine.meaning l.machine) (net_of l.partition) (blocks_of l.partition) l.present.joined (cheaper l.kept l.present)

abbrev pub decreases-loop-next : goal.decreases-loop-next
decreases-loop-next g l = length (block_list (blocks_in l.present.joined))
