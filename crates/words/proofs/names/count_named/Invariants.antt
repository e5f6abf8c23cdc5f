use Rattle.std.proofs.Common.{◌≡◌, ℕ, ◌+◌, ◌-◌, ◌<◌, ◌≤◌, length, slice_index}
use Rattle.words.specs.Lists.{Tells}
use Rattle.words.proofs.Counting.{Counted}
use Rattle.words.proofs.names.count_named.Given as goal

abbrev pub invariant-loop-number : goal.invariant-loop-number
invariant-loop-number g l = record {
  near : l.number ≤ l.count + 1;
  long : length l.counts ≡ 1025;
  low : (k : ℕ) → k < 1025 → slice_index l.counts k ≤ 1023 + l.number;
  counted : (names : ℕ → ℕ) → Tells (goal.F-post g l.named_by) l.count names → Counted (λ i. names (i + 1)) l.initial.counts l.counts (l.number - 1);
}
