use Rattle.std.proofs.Common.{◌≡◌, Ok}
use Rattle.machine.specs.Greatest.{GreatestOf}
use Rattle.machine.proofs.greatest.greatest_of.Given as goal

abbrev pub invariant-loop-processor : goal.invariant-loop-processor
invariant-loop-processor g l =
    GreatestOf l.processor (λ p x. goal.F-post g l.answer p (Ok x)) l.greatest × (l.processor ≡ 0 → l.greatest ≡ 0)
