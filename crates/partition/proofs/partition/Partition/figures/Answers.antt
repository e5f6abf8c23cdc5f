use Rattle.chains.specs.Lists.{total}
use Rattle.partition.specs.Named.{time_of}
use Rattle.partition.proofs.Extremes.{chains_greatest}
use Rattle.partition.proofs.partition.Partition.figures.Goals as goal

pub returns-clause-greatest : goal.returns-clause-greatest
returns-clause-greatest g c = chains_greatest c.args.self.now (total (time_of (g.M.Machine.meaning c.args.machine.now) c.args.self.now))
