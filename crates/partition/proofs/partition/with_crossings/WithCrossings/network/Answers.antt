use Rattle.std.proofs.Common.{rules}
use Rattle.partition.proofs.Handling.{ordered}
use Rattle.partition.proofs.partition.with_crossings.WithCrossings.network.Goals as goal

pub invariant_of-result : goal.invariant_of-result
invariant_of-result c =
    let o = ordered c.args.self.now.partition in
    search (rules, o)
