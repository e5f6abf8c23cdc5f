use Rattle.std.proofs.Common.{◌≡◌, ◌≤◌}
use Rattle.schedule.specs.Boards.{laid, count}
use Rattle.schedule.specs.Placing.{placed}
use Rattle.schedule.specs.Seen.{seen, earlier_in}
use Rattle.schedule.proofs.problem.placing.fill.Given as goal

-- the board has the rows of the steps so far
abbrev pub invariant-loop : goal.invariant-loop
invariant-loop g l =
    let M = g.M.Machine.meaning l.machine in
    let p = l.fn.problem in
    let e = earlier_in (g.O.Priority.meaning l.priority) p in
    (l.bench.problem.now ≡ p) × (l.bench.machine.now ≡ l.machine) × (l.bench.priority.now ≡ l.priority)
    × (laid l.bench.board ≡ placed M (seen p) e l.index) × (count l.bench.board ≤ l.index)
