use Rattle.std.proofs.Common.{arith}
use Rattle.chains.proofs.Lists.{in_getD}
use Rattle.schedule.specs.Boards.{sent}
use Rattle.schedule.proofs.Known.{to_low}
use Rattle.schedule.proofs.Latest.{greatest_more}
use Rattle.schedule.proofs.problem.arrivals.Sender.send.Goals as goal

pub receive-requires : goal.receive-requires
receive-requires g c =
    let p = c.args.problem.now in
    let i = in_getD p.messages.now c.loop-message.message-index (record { from = 0; to = 0; size = 0 }) c.loop-message-test.true in
    record { small = p.sized _ i; known = to_low p _ i }

pub loop-message-preserved : goal.loop-message-preserved
loop-message-preserved g c =
    let M = g.M.Machine.meaning c.args.self.now.machine.now in
    λ b p lb lp.
    let one = c.receive.ensures b p lb lp in
    let more = greatest_more (sent M c.args.self.now.row b p) c.args.problem.now.messages.now c.loop-message.message-index (record { from = 0; to = 0; size = 0 }) c.loop-message-test.true in
    omega (arith, one, more, c.loop-message.invariant b p lb lp)
