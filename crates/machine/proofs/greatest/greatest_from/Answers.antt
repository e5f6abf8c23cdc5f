use Rattle.std.proofs.Common.{rules}
use Rattle.machine.proofs.Pairs.{from_one}
use Rattle.machine.proofs.greatest.greatest_from.Goals as goal

pub returns : goal.returns
returns g c =
    let machine = c.args.machine.now in
    from_one (g.M.Machine.meaning machine) c.processors.result c.args.from c.args.size _ _ c.greatest_of.result (g.met.M.Machine.lawful machine) c.processors.ensures (λ q d k. search rules) (λ q why k. search rules) c.greatest_of.ensures
