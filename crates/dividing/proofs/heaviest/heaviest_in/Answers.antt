use Rattle.std.proofs.Common.{get_or, ◌∙◌, rules, tests}
use Rattle.std.proofs.lemmas.Iterator.{YieldsList-from_slice}
use Rattle.std.proofs.lemmas.Iterator.Consumers.{YieldsList-from_copied}
use Rattle.dividing.proofs.Picking.{least_by_key, heaviest_picked}
use Rattle.dividing.proofs.heaviest.heaviest_in.Goals as goal

pub returns : goal.returns
returns c =
    let p = c.args.partition.now in
    let t = c.args.table.now in
    let least = least_by_key _ _ (λ b. (record { 0 = get_or t b 0 }, b)) _ (λ x k q h. search (rules, tests)) c.min_by_key.result c.min_by_key.ensures.runs (YieldsList-from_copied (YieldsList-from_slice p.order.now cc)) in
    λ f at. c.unwrap_or.ensures ∙ heaviest_picked p t c.min_by_key.result least f at
