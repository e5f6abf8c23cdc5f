use Rattle.std.proofs.Common.{List, sym, ◌∙◌, subst}
use Rattle.chains.specs.declared.message.Message.{Message}
use Rattle.chains.specs.Chains.{Ordered}
use Rattle.partition.proofs.Handling.{ordered}
use Rattle.joining.proofs.Leading.{order_counted, rows_tell, tells_as}
use Rattle.joining.proofs.reach.rows.rows_of.Goals as goal

pub invariant_of-network : goal.invariant_of-network
invariant_of-network c =
    let p = c.args.partition.now in
    let e = c.as_slice.ensures ∙ c.crossings-crossings.ensures.result_value in
    let o = subst (λ (ms : List Message). Ordered ms p.order.now) (sym e) (ordered p) in
    record { few = o.few; short = o.short; blocks = o.blocks; once = o.once; forward = o.forward }

pub returns : goal.returns
returns c =
    let p = c.args.partition.now in
    let e = c.as_slice.ensures ∙ c.crossings-crossings.ensures.result_value in
    let o = subst (λ (ms : List Message). Ordered ms p.order.now) (sym e) (ordered p) in
    tells_as _ _ _ _ p.order.now _ e (sym (order_counted p)) (rows_tell c.as_slice.result.now p.order.now o _ _ c.reach_rows.ensures)
