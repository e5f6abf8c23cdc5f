use Rattle.std.proofs.Common.{◌≡◌, max, fold, slice_index, rules, ◌∙◌}
use Rattle.std.proofs.iter.Serving.{serving}
use Rattle.partition.proofs.Costing.{order_known, most_is}
use Rattle.partition.proofs.partition.Partition.greatest_at.Goals as goal

pub fold-requires-clause-callable : goal.fold-requires-clause-callable
fold-requires-clause-callable c =
    let known = order_known c.args.self.now in
    grind serving

pub returns : goal.returns
returns c =
    let known = order_known c.args.self.now in
    let most : c.fold.result ≡ fold (λ k b. max k (slice_index c.args.table.now b)) 0 c.args.self.now.order.now = search rules in
    λ f at. most ∙ most_is c.args.self.now f c.args.table.now at
