use Rattle.graph.proofs.Tables.{Passing}
use Rattle.graph.proofs.reach.pass_through.Given as goal

abbrev pub invariant-loop-row : goal.invariant-loop-row
invariant-loop-row l = Passing l.fn.rows l.row-items l.via l.row-index
