use Rattle.chains.specs.Lists.{total}
use Rattle.partition.specs.Named.{time_of}
use Rattle.partition.proofs.Extremes.{blocks_greatest}
use Rattle.partition.proofs.partition.Partition.critical_path.Goals as goal

pub returns-clause-greatest : goal.returns-clause-greatest
returns-clause-greatest g c = blocks_greatest c.args.self.now (total (time_of (g.M.Machine.meaning c.args.machine.now) c.args.self.now))
