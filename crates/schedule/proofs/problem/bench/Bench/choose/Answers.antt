use Rattle.chains.proofs.Lists.{in_getD}
use Rattle.schedule.specs.Boards.{laid}
use Rattle.schedule.specs.Placing.{chosen}
use Rattle.schedule.specs.Seen.{seen, earlier_in}
use Rattle.schedule.proofs.Choosing.{among_more}
use Rattle.schedule.proofs.problem.bench.Bench.choose.Goals as goal

pub with_block-best-requires : goal.with_block-best-requires
with_block-best-requires g c =
    let p = c.args.self.now.problem.now in
    let i = in_getD p.blocks.now c.loop-block.block-index 0 c.loop-block-test.true in
    record { listed = i; feeds = c.fed_blocks-fed.ensures _ (p.numbered _ i).1 }

pub loop-block-preserved : goal.loop-block-preserved
loop-block-preserved g c =
    let s = c.args.self.now in
    let M = g.M.Machine.meaning s.machine.now in
    let p = s.problem.now in
    let e = earlier_in (g.O.Priority.meaning s.priority.now) p in
    let rows = laid s.board in
    among_more M (seen p) e rows p.blocks.now c.loop-block.block-index c.loop-block-test.true c.loop-block.best c.with_block-best.result (chosen M (seen p) e rows)
    c.with_block-best.ensures c.loop-block.invariant
