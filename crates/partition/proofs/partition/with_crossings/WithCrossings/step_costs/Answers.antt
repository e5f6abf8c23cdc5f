use Rattle.std.proofs.Common.{slice_index_or, arith, ℕ, ◌+◌, ◌*◌, refl}
use Rattle.std.proofs.lemmas.List.{length-replicate}
use Rattle.chains.proofs.Lists.{all_same}
use Rattle.std.proofs.lemmas.Grind.{common_steps}
use Rattle.machine.specs.Greatest.{GreatestDelay}
use Rattle.partition.proofs.Delays.{costs_more}
use Rattle.partition.proofs.Handling.{fair_as, message_good}
use Rattle.partition.proofs.partition.with_crossings.WithCrossings.step_costs.Goals as goal

pub loop-message-init : goal.loop-message-init
loop-message-init g c = record { long = length-replicate {A = ℕ} 66049 0; holds = λ a b la lb. all_same {A = ℕ} 0 66049 (a * 257 + b) }

pub raise_at-requires : goal.raise_at-requires
raise_at-requires g c =
    let good = message_good c.args.self.now.partition _ c.messages-message-items.ensures c.loop-message.message-index c.loop-message-test.true in
    record { sender = good.0; receiver = good.1 }

pub loop-message-preserved : goal.loop-message-preserved
loop-message-preserved g c =
    let m = g.M.Machine.meaning c.args.machine.now in
    let f = fair_as c.args.self.now.partition _ c.messages-message-items.ensures in
    let i = c.loop-message.message-index in
    let good = message_good c.args.self.now.partition _ c.messages-message-items.ensures i c.loop-message-test.true in
    let size = good.2 in
    let most : GreatestDelay m (slice_index_or c.messages-message-items.result.now c.loop-message.message-index (record { from = 0; to = 0; size = 0 })).size c.unwrap_or-delay.result = grind (arith, common_steps) in
    costs_more m _ c.loop-message.table i f.handled c.loop-message-test.true c.loop-message.invariant _ refl _ most c.raise_at.new.table c.raise_at.ensures
