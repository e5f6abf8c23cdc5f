use Rattle.std.proofs.Common.{◌≡◌, ℕ, min, filter, fold, ◌∙◌, rules}
use Rattle.joining.specs.Pairs.{taken_in, blocks_of}
use Rattle.joining.proofs.Uniting.{least_folded}
use Rattle.joining.proofs.pair.Pair.number.Goals as goal

pub returns : goal.returns
returns c =
    let p = c.args.self.now in
    let folded : c.fold.result ≡ fold (λ (a x : ℕ). min a x) p.one (filter (taken_in p) (blocks_of p)) = search rules in
    folded ∙ least_folded (taken_in p) p.one (blocks_of p)
