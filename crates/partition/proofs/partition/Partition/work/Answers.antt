use Rattle.partition.proofs.Extremes.{blocks_each}
use Rattle.partition.proofs.partition.Partition.work.Goals as goal

pub returns-clause-each : goal.returns-clause-each
returns-clause-each g c = blocks_each c.args.self.now
