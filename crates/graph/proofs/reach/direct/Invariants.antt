use Rattle.std.proofs.Common.{take}
use Rattle.graph.specs.Tables.{Shows}
use Rattle.graph.specs.Walks.{through}
use Rattle.graph.proofs.Tables.{Square}
use Rattle.graph.proofs.reach.direct.Given as goal

abbrev pub invariant-loop-link : goal.invariant-loop-link
invariant-loop-link l = Square l.rows × Shows l.rows (through (take l.link-index l.links) 0)
