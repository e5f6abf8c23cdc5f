use Rattle.std.proofs.Common.{true, false, get_or, arith}
use Rattle.std.proofs.lemmas.List.{get_or-replicate}
use Rattle.chains.specs.declared.message.Message.{Message}
use Rattle.chains.proofs.Lists.{in_getD}
use Rattle.schedule.specs.Boards.{laid}
use Rattle.schedule.proofs.Choosing.{fed_more}
use Rattle.schedule.proofs.Known.{from_low, to_low}
use Rattle.schedule.proofs.problem.bench.Bench.fed_blocks.Goals as goal

pub loop-message-init : goal.loop-message-init
loop-message-init g c = λ b lb. get_or-replicate 257 b true false (omega (arith, lb))

pub wait_for-requires : goal.wait_for-requires
wait_for-requires g c =
    let p = c.args.self.now.problem.now in
    let i = in_getD p.messages.now c.loop-message.message-index (record { from = 0; to = 0; size = 0 }) c.loop-message-test.true in
    record { from = from_low p _ i; to = to_low p _ i }

pub loop-message-preserved : goal.loop-message-preserved
loop-message-preserved g c =
    let s = c.args.self.now in
    let p = s.problem.now in
    let ms = p.messages.now in
    let none : Message = record { from = 0; to = 0; size = 0 } in
    let i = c.loop-message.message-index in
    let m = get_or ms i none in
    let at = in_getD ms i none c.loop-message-test.true in
    λ b lb.
    fed_more ms (laid s.board) b i none c.loop-message-test.true _ _ _ (s.marks m.from (from_low p m at)) (c.loop-message.invariant b lb) (c.wait_for.ensures b lb)
