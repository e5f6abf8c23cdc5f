use Rattle.std.proofs.Common.{◌≡◌, drop}
use Rattle.schedule.specs.Boards.{laid}
use Rattle.schedule.specs.Placing.{first_among, chosen}
use Rattle.schedule.specs.Seen.{seen, earlier_in}
use Rattle.schedule.proofs.problem.bench.Bench.choose.Given as goal

-- the best of what is at hand and the blocks still to come is the row that comes next
abbrev pub invariant-loop-block : goal.invariant-loop-block
invariant-loop-block g l =
    let M = g.M.Machine.meaning l.self.machine.now in
    let p = l.self.problem.now in
    let e = earlier_in (g.O.Priority.meaning l.self.priority.now) p in
    first_among M (seen p) e (laid l.self.board) l.best (drop l.block-index p.blocks.now) ≡ chosen M (seen p) e (laid l.self.board)
