use Rattle.std.proofs.Common.{◌≡◌, false, ltb, ◌∙◌, rules, arith}
use Rattle.joining.proofs.Outcome.{block_here, block_nowhere}
use Rattle.joining.proofs.reach.join.is_block.Goals as goal

pub returns-then-number-gt0 : goal.returns-then-number-gt0
returns-then-number-gt0 c = search (rules, block_here, block_nowhere)

pub returns-else-number-gt0 : goal.returns-else-number-gt0
returns-else-number-gt0 c =
    let e : ltb 0 c.args.number ≡ false = search rules in
    e ∙ block_nowhere c.args.blocks.now c.args.number (λ lo hi. omega (arith, lo, c.if-number-gt0.false))
