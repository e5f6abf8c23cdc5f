use Rattle.partition.proofs.Summing.{Over}
use Rattle.partition.proofs.partition.with_crossings.WithCrossings.overheads.Given as goal

abbrev pub invariant-loop-message : goal.invariant-loop-message
invariant-loop-message g l = Over (g.M.Machine.meaning l.machine) l.message-items l.table l.message-index
