use Rattle.partition.specs.Named.{time_of}
use Rattle.partition.proofs.Costing.{small_times}
use Rattle.partition.proofs.Levels.{partition_levels}
use Rattle.partition.proofs.partition.with_crossings.WithCrossings.figures.Goals as goal

pub returns-clause-levels : goal.returns-clause-levels
returns-clause-levels g c =
    let x = c.args.self.now in
    let m = g.M.Machine.meaning c.args.machine.now in
    partition_levels x.partition _ _ c.network.ensures.messages c.network.ensures.order (time_of m x.partition) c.times-times.result _ c.times-times.ensures.at_each
    (small_times x.partition m (g.met.M.Machine.lawful c.args.machine.now)) c.greatest_block_sums.array_long c.greatest_block_sums.ensures
