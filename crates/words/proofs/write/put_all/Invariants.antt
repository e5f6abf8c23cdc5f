use Rattle.std.proofs.Common.{◌≡◌, ◌*◌, take}
use lib.Seq.{paste}
use Rattle.std.specs.List.{flat_map}
use Rattle.words.proofs.write.put_all.Given as goal

abbrev pub invariant-loop-i : goal.invariant-loop-i
invariant-loop-i g l = l.out ≡ paste l.initial.out l.at (flat_map g.T.Written.written (take l.i l.records)) (g.row.W * l.i)
