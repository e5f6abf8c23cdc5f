use Rattle.joining.specs.Outcomes.{blocks_in, order_in}
use Rattle.joining.proofs.Viewing.{viewed}
use Rattle.dividing.proofs.held_apart.in_blocks.Goals as goal

pub invariant_of-result : goal.invariant_of-result
invariant_of-result c =
    let j = c.args.joined.now in
    viewed c.args.partition.now (blocks_in j) (order_in j) c.requires.sorted c.blocks-blocks.result.now c.order-order.result.now c.blocks-blocks.ensures c.order-order.ensures
