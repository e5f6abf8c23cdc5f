use Rattle.std.proofs.Common.{◌≡◌, ℕ, ◌+◌, ◌<◌, ◌≤◌, max, get_or}
use Rattle.schedule.proofs.problem.arrivals.Sender.arrive.Given as goal

-- the processors so far have the later of the two, and the others what they had
abbrev pub invariant-loop-to : goal.invariant-loop-to
invariant-loop-to g l =
    let M = g.M.Machine.meaning l.self.machine.now in
    let r = l.self.row in
    ((p : ℕ) → p < l.to → get_or l.time-items p 0 ≡ max (get_or l.initial.time-items p 0) (r.finish + M.delay r.processor p l.size))
    × ((p : ℕ) → l.to ≤ p → get_or l.time-items p 0 ≡ get_or l.initial.time-items p 0)
