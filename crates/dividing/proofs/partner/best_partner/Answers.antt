use Rattle.std.proofs.Common.{ℕ, not, eqb, rules, tests}
use Rattle.std.proofs.lemmas.Iterator.{YieldsList-from_slice}
use Rattle.std.proofs.lemmas.Iterator.Consumers.{YieldsList-at, YieldsList-from_copied, YieldsList-from_filter, YieldsList-from_filter_map}
use Rattle.dividing.specs.Choosing.{price_of}
use Rattle.dividing.specs.Views.{net_of, blocks_of}
use Rattle.dividing.specs.declared.choice.Choice.{Choice}
use Rattle.dividing.proofs.Picking.{least_by_key, offered, partner_picked, same_blocks}
use Rattle.dividing.proofs.partner.best_partner.Goals as goal

pub returns : goal.returns
returns g c =
    let p = c.args.reach.now.partition in
    let bs = blocks_of p in
    let h = c.args.heavy in
    let price : ℕ → ℕ = price_of (g.M.Machine.meaning c.args.machine.now) (net_of p) bs h in
    let same = same_blocks p in
    partner_picked bs p.order.now same h c.requires.known price c.min_by_key.result
    (least_by_key _ _ (λ (x : Choice). (x.cost, x.partner)) _ (λ x k q e. search (rules, tests)) c.min_by_key.result c.min_by_key.ensures.runs
    (YieldsList-from_filter_map _ (offered bs p.order.now same h c.requires.known price)
    (YieldsList-at c.filter_map.ensures.source (YieldsList-from_filter _ (λ b. not (eqb b h)) (YieldsList-from_copied (YieldsList-from_slice p.order.now cc)) c.filter.ensures.closure (λ x b q k. search (rules, tests))))
    c.filter_map.ensures.closure (λ x r q k. search (rules, tests))))
