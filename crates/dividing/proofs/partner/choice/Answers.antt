use Rattle.std.proofs.Common.{◌≡◌, ap, ◌∙◌, rules}
use Rattle.graph.specs.Net.{Net}
use Rattle.partition.specs.Named as named
use Rattle.joining.specs.Outcomes.{blocks_in}
use Rattle.dividing.specs.Dividing.{cost_of}
use Rattle.dividing.specs.Views.{net_of}
use Rattle.dividing.proofs.partner.choice.Goals as goal

pub returns : goal.returns
returns g c =
    let m = g.M.Machine.meaning c.args.machine.now in
    let net = net_of c.args.reach.now.partition in
    let here = c.in_blocks.ensures in
    let same : named.cost_of m c.in_blocks.result ≡ cost_of m net (blocks_in c.in_ok-joined.joined) = ap (λ (n : Net). cost_of m n c.in_blocks.result.blocks.now) here.net ∙ ap (cost_of m net) here.blocks in
    search rules
