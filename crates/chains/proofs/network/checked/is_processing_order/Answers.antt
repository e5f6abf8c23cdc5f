use Rattle.std.proofs.Common.{arith}
use Rattle.chains.proofs.Places.{decided}
use Rattle.chains.proofs.network.checked.is_processing_order.Goals as goal

pub returns : goal.returns
returns c = decided _ _ _ _ (omega (arith, c.if-messages-gt-MAX_MESSAGES.false)) (omega (arith, c.if-order-gt-MAX_BLOCKS.false)) c.in-Some.ensures c.all_forward.ensures
