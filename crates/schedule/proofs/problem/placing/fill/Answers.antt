use Rattle.std.proofs.Common.{◌≡◌, length, ap, ◌∙◌, arith}
use Rattle.schedule.specs.Boards.{laid}
use Rattle.schedule.specs.Placing.{placed}
use Rattle.schedule.specs.Problems.{length_of}
use Rattle.schedule.specs.Seen.{seen, earlier_in, placing_in}
use Rattle.schedule.proofs.Choosing.{stepped_more}
use Rattle.schedule.proofs.problem.placing.fill.Goals as goal

pub loop-preserved : goal.loop-preserved
loop-preserved g c =
    let i = c.loop.invariant in
    let e = c.step.ensures in
    let more = stepped_more (g.M.Machine.meaning c.args.machine.now) _ c.args.problem.now _ (g.O.Priority.meaning c.args.priority.now) _ c.loop.index (laid c.loop.bench.board) (laid c.step.new.self.board)
    (ap g.M.Machine.meaning i.1) i.0 (ap g.O.Priority.meaning i.2) i.3 e.rows in
    (e.problem ∙ i.0, e.machine ∙ i.1, e.priority ∙ i.2, more, omega (arith, e.count, i.4))

pub returns : goal.returns
returns g c =
    let p = c.args.problem.now in
    let e = earlier_in (g.O.Priority.meaning c.args.priority.now) p in
    let M = g.M.Machine.meaning c.args.machine.now in
    let end : c.loop.index ≡ length p.blocks.now = omega (arith, c.loop-test.false, c.loop.auto.index-end) in
    let rows : laid c.loop.bench.board ≡ placing_in M p (g.O.Priority.meaning c.args.priority.now) = c.loop.invariant.3 ∙ ap (placed M (seen p) e) end in
    record { rows = rows; length = c.loop.bench.last ∙ ap length_of rows; few = c.loop.bench.few }
