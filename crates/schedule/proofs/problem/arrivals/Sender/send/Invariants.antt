use Rattle.std.proofs.Common.{take}
use Rattle.schedule.specs.Boards.{Receives}
use Rattle.schedule.proofs.problem.arrivals.Sender.send.Given as goal

-- what the messages so far bring has come
abbrev pub invariant-loop-message : goal.invariant-loop-message
invariant-loop-message g l =
    Receives (g.M.Machine.meaning l.self.machine.now) l.self.row (take l.message-index l.problem.messages.now) l.initial.arrivals l.arrivals
