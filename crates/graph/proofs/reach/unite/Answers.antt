use Rattle.std.proofs.Common.{arith}
use Rattle.std.proofs.lemmas.List.{get_or-set_same, get_or-set_other}
use Rattle.std.proofs.lemmas.Bool.{cases_eq}
use Rattle.graph.proofs.reach.unite.Goals as goal

pub loop-b-preserved : goal.loop-b-preserved
loop-b-preserved c =
    let i = c.loop-b.b in
    let now = c.loop-b.invariant.left i in
    record {
      done = λ k l. let before = c.loop-b.invariant.done k in grind (arith, get_or-set_same, get_or-set_other, cases_eq k i);
      left = λ k l. let after = c.loop-b.invariant.left k in grind (arith, get_or-set_other);
    }
