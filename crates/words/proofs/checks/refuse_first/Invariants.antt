use Rattle.std.proofs.Common.{◌≡◌, ℕ, ◌-◌, Bool}
use Rattle.graph.specs.Walks.{least}
use Rattle.words.specs.Lists.{Tells}
use Rattle.words.proofs.checks.refuse_first.Given as goal

abbrev pub invariant-loop-number : goal.invariant-loop-number
invariant-loop-number g l = (test : ℕ → Bool) → Tells (goal.F-post g l.holds) l.count test → least test (l.number - 1) ≡ 0
