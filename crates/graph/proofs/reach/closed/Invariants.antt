use Rattle.std.proofs.Common.{◌≡◌, length}
use Rattle.graph.specs.Tables.{Shows}
use Rattle.graph.specs.Walks.{through}
use Rattle.graph.proofs.reach.closed.Given as goal

abbrev pub invariant-loop-via : goal.invariant-loop-via
invariant-loop-via l = record { tall : length l.rows ≡ 256; shows : Shows l.rows (through l.links l.via) }
