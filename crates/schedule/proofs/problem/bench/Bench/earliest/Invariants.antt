use Rattle.std.proofs.Common.{◌≡◌, ◌-◌}
use Rattle.schedule.specs.Boards.{laid}
use Rattle.schedule.specs.Placing.{earliest_upto}
use Rattle.schedule.specs.Seen.{seen}
use Rattle.schedule.proofs.problem.bench.Bench.earliest.Given as goal

-- the earliest on the processors so far
abbrev pub invariant-loop-processor : goal.invariant-loop-processor
invariant-loop-processor g l =
    l.best ≡ earliest_upto (g.M.Machine.meaning l.self.machine.now) (seen l.self.problem.now) (laid l.self.board) l.block (l.processor - 1)
