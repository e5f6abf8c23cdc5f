use Rattle.std.proofs.Common.{ℕ, Some, set, ap, ◌∙◌, arith}
use Rattle.words.specs.Lists.{entries}
use Rattle.words.proofs.Pairing.{entry_put}
use Rattle.words.proofs.tested.calls.OlderLinks.put.Goals as goal

pub returns : goal.returns
returns c =
    let numbers = c.args.self.now.numbers in
    let k = c.args.link in
    let there : ℕ → _ = λ p. set (entries numbers) p (Some k) in
    entry_put numbers _ k (λ z. omega (arith, c.requires.link_some)) ∙ ap there c.pair_place.ensures.value
