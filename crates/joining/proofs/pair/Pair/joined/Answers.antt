use Rattle.joining.proofs.Outcome.{outcome}
use Rattle.joining.proofs.pair.Pair.joined.Goals as goal

pub returns : goal.returns
returns c =
    let p = c.args.self.now in
    let w = p.reach.now in
    outcome w.partition w.rows w.tells p.one p.other p.one_known p.other_known _ _ c.number-number.ensures c.blocks_after-blocks.ensures c.order_after-order.ensures
