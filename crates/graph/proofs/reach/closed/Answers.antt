use Rattle.std.proofs.Common.{◌+◌, length, drop, sym, ◌∙◌, arith, length-append, length-drop}
use Rattle.std.proofs.lemmas.List.{length-take-le}
use Rattle.graph.proofs.Tables.{shows_front}
use Rattle.graph.proofs.reach.closed.Goals as goal

pub loop-via-preserved : goal.loop-via-preserved
loop-via-preserved c =
    let n = c.args.tasks in
    let rows = c.loop-via.rows in
    let new = c.pass_through.new.rows in
    let inv = c.loop-via.invariant in
    let front = length-take-le n rows (omega (arith, c.requires.few, inv.tall)) in
    let long = c.pass_through.ensures.long ∙ front in
    record {
      tall = omega (arith, length-append new (drop n rows), length-drop n rows, long, inv.tall, c.requires.few);
      shows = shows_front c.args.links.now n c.loop-via.via rows new c.requires.few c.requires.joined c.loop-via-test.true inv.tall long inv.shows
          (λ a b la lb. c.pass_through.ensures.passed a b (omega (arith, la, front)) lb);
    }
