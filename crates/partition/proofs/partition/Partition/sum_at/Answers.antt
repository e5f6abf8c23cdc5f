use Rattle.std.proofs.Common.{◌≡◌, sum_by, slice_index, rules, ◌∙◌}
use Rattle.std.proofs.iter.Serving.{serving}
use Rattle.partition.proofs.Costing.{order_known, sum_fits, sum_is}
use Rattle.partition.proofs.partition.Partition.sum_at.Goals as goal

pub sum-requires-clause-can : goal.sum-requires-clause-can
sum-requires-clause-can c =
    let known = order_known c.args.self.now in
    grind serving

pub sum-requires-clause-fits : goal.sum-requires-clause-fits
sum-requires-clause-fits c =
    let known = order_known c.args.self.now in
    let fits = sum_fits c.args.self.now c.args.table.now c.requires.room in
    search rules

pub returns : goal.returns
returns c =
    let known = order_known c.args.self.now in
    let sum : c.sum.result ≡ sum_by (λ b. slice_index c.args.table.now b) c.args.self.now.order.now = search rules in
    λ f at. sum ∙ sum_is c.args.self.now f c.args.table.now at
