use Rattle.std.proofs.Common.{◌≡◌, ℕ, ◌≤◌, false, get_or, take}
use Rattle.schedule.specs.Boards.{laid}
use Rattle.schedule.specs.Placing.{is_fed}
use Rattle.schedule.proofs.problem.bench.Bench.fed_blocks.Given as goal

-- the messages so far
abbrev pub invariant-loop-message : goal.invariant-loop-message
invariant-loop-message g l =
    (b : ℕ) → b ≤ 256 → get_or l.fed b false ≡ is_fed (take l.message-index l.self.problem.now.messages.now) (laid l.self.board) b
