use Rattle.partition.specs.Named.{messages_of}
use Rattle.partition.proofs.Convexity.{ordered_convex}
use Rattle.partition.proofs.Handling.{ordered}
use Rattle.partition.proofs.partition.Partition.crossings.Goals as goal

pub returns-clause-convex : goal.returns-clause-convex
returns-clause-convex c = let p = c.args.self.now in ordered_convex (messages_of p) p.order.now (ordered p)
