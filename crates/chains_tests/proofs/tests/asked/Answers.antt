use Rattle.chains.specs.Chains.{Ordered}
use Rattle.chains_tests.proofs.tests.asked.Goals as goal

pub invariant_of-network : goal.invariant_of-network
invariant_of-network c =
    let o : Ordered c.args.messages.now c.args.order.now = c.is_processing_order.ensures.0 c.if-not-is_processing_order.false in
    record { few = o.few; short = o.short; blocks = o.blocks; once = o.once; forward = o.forward }
