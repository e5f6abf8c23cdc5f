use Rattle.std.proofs.Common.{◌≡◌, ◌-◌, ap, arith}
use Rattle.schedule.specs.Boards.{laid}
use Rattle.schedule.specs.Placing.{earliest_upto}
use Rattle.schedule.specs.Seen.{seen}
use Rattle.schedule.proofs.Choosing.{earliest_more}
use Rattle.schedule.proofs.problem.bench.Bench.earliest.Goals as goal

pub loop-processor-preserved : goal.loop-processor-preserved
loop-processor-preserved g c =
    let b = c.args.self.now in
    let M = g.M.Machine.meaning b.machine.now in
    earliest_more M (seen b.problem.now) (laid b.board) c.args.block c.loop-processor.processor c.loop-processor.auto.processor
    c.loop-processor.best c.loop-processor.invariant c.start_on-start.result c.start_on-start.ensures c.sooner-best.result c.sooner-best.ensures

pub returns : goal.returns
returns g c =
    let b = c.args.self.now in
    let law = g.met.M.Machine.lawful b.machine.now in
    let M = g.M.Machine.meaning b.machine.now in
    let end : c.loop-processor.processor - 1 ≡ M.processors - 1 = omega (arith, c.loop-processor-test.false, c.loop-processor.auto.processor, c.loop-processor.auto.processor-end, law.some, c.processors-processor-end.ensures) in
    let all = ap (earliest_upto M (seen b.problem.now) (laid b.board) c.args.block) end in
    cc
