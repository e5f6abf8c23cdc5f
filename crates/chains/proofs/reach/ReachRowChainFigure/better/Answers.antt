use Rattle.std.proofs.Common.{◌≡◌, length, arith}
use Rattle.chains.proofs.Reached.{either_whole}
use Rattle.chains.proofs.reach.ReachRowChainFigure.better.Goals as goal

pub returns : goal.returns
returns c =
    let long : length c.loop-i.entry-items ≡ 257 = c.loop-i.invariant.0 in
    either_whole c.args.a c.args.b c.loop-i.entry-items (omega arith) (omega arith) (λ k l. c.loop-i.invariant.1 k (omega arith))
