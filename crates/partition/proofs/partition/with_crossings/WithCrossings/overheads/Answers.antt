use Rattle.std.proofs.Common.{◌≡◌, slice_index_or, rules, ℕ, refl, ◌∙◌, arith}
use Rattle.std.proofs.lemmas.List.{length-replicate, get_or-replicate}
use Rattle.partition.proofs.Handling.{fair_as, message_good}
use Rattle.partition.proofs.Summing.{over_fits, over_fits_too, over_more, over_room}
use Rattle.partition.proofs.partition.with_crossings.WithCrossings.overheads.Goals as goal

pub loop-message-init : goal.loop-message-init
loop-message-init g c = record {
  long = length-replicate {A = ℕ} 257 c.startup-table.result;
  holds = λ b lb. get_or-replicate 257 b c.startup-table.result 0 (omega (arith, lb)) ∙ omega (arith, c.startup-table.ensures);
}

pub add_at-requires : goal.add_at-requires
add_at-requires g c =
    let m = g.M.Machine.meaning c.args.machine.now in
    let law = g.met.M.Machine.lawful c.args.machine.now in
    let f = fair_as c.args.self.now.partition _ c.messages-message-items.ensures in
    let i = c.loop-message.message-index in
    let good = message_good c.args.self.now.partition _ c.messages-message-items.ensures i c.loop-message-test.true in
    let size = good.2 in
    let read : c.unwrap_or-reading.result ≡ m.reading (slice_index_or c.messages-message-items.result.now c.loop-message.message-index (record { from = 0; to = 0; size = 0 })).size = search rules in
    record {
      known = good.1;
      fits = over_fits m law _ f.few f.handled c.loop-message.table i c.loop-message.invariant _ _ good.1 (omega (arith, read, law.reads _ good.2));
    }

pub add_at-requires-in-loop-message : goal.add_at-requires-in-loop-message
add_at-requires-in-loop-message g c =
    let m = g.M.Machine.meaning c.args.machine.now in
    let law = g.met.M.Machine.lawful c.args.machine.now in
    let f = fair_as c.args.self.now.partition _ c.messages-message-items.ensures in
    let i = c.loop-message.message-index in
    let good = message_good c.args.self.now.partition _ c.messages-message-items.ensures i c.loop-message-test.true in
    let size = good.2 in
    let read : c.unwrap_or-reading.result ≡ m.reading (slice_index_or c.messages-message-items.result.now c.loop-message.message-index (record { from = 0; to = 0; size = 0 })).size = search rules in
    let written : c.unwrap_or-writing.result ≡ m.writing (slice_index_or c.messages-message-items.result.now c.loop-message.message-index (record { from = 0; to = 0; size = 0 })).size = search rules in
    record {
      known = good.0;
      fits = over_fits_too m law _ f.few f.handled c.loop-message.table i c.loop-message.invariant c.loop-message-test.true _ refl _ _ read written c.add_at.new.table _ c.add_at.ensures refl;
    }

pub loop-message-preserved : goal.loop-message-preserved
loop-message-preserved g c =
    let m = g.M.Machine.meaning c.args.machine.now in
    let law = g.met.M.Machine.lawful c.args.machine.now in
    let f = fair_as c.args.self.now.partition _ c.messages-message-items.ensures in
    let i = c.loop-message.message-index in
    let good = message_good c.args.self.now.partition _ c.messages-message-items.ensures i c.loop-message-test.true in
    let size = good.2 in
    let read : c.unwrap_or-reading.result ≡ m.reading (slice_index_or c.messages-message-items.result.now c.loop-message.message-index (record { from = 0; to = 0; size = 0 })).size = search rules in
    let written : c.unwrap_or-writing.result ≡ m.writing (slice_index_or c.messages-message-items.result.now c.loop-message.message-index (record { from = 0; to = 0; size = 0 })).size = search rules in
    over_more m law _ f.few f.handled c.loop-message.table i c.loop-message.invariant c.loop-message-test.true _ refl _ _ read written
    c.add_at.new.table c.add_at-in-loop-message.new.table c.add_at.ensures c.add_at-in-loop-message.ensures

pub returns-clause-room : goal.returns-clause-room
returns-clause-room g c =
    let f = fair_as c.args.self.now.partition _ c.messages-message-items.ensures in
    over_room (g.M.Machine.meaning c.args.machine.now) (g.met.M.Machine.lawful c.args.machine.now) _ f.few f.handled c.loop-message.table c.loop-message.message-index c.loop-message.invariant
