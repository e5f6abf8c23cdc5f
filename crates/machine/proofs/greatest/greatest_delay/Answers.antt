use Rattle.std.proofs.Common.{rules}
use Rattle.machine.proofs.Pairs.{from_all}
use Rattle.machine.proofs.greatest.greatest_delay.Goals as goal

pub returns : goal.returns
returns g c =
    let machine = c.args.machine.now in
    from_all (g.M.Machine.meaning machine) c.processors.result c.args.size _ _ c.greatest_of.result (g.met.M.Machine.lawful machine) c.processors.ensures (λ p d k. search rules) (λ p why k. search rules) c.greatest_of.ensures
