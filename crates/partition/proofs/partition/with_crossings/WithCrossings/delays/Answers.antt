use Rattle.partition.proofs.Delays.{partition_delays}
use Rattle.partition.proofs.partition.with_crossings.WithCrossings.delays.Goals as goal

pub returns : goal.returns
returns g c =
    let x = c.args.self.now in
    let m = g.M.Machine.meaning c.args.machine.now in
    partition_delays x.partition _ _ c.network.ensures.messages c.network.ensures.order m (g.met.M.Machine.lawful c.args.machine.now)
    c.step_costs-costs.result _ c.step_costs-costs.ensures c.greatest_step_sums.array_long c.greatest_step_sums.ensures
