use Rattle.std.proofs.Common.{◌≡◌, ℕ, ◌<◌, ◌≤◌, false, ◌||◌, length, get_or}
use Rattle.chains.proofs.reach.ReachRowChainFigure.better.Given as goal

abbrev pub invariant-loop-i : goal.invariant-loop-i
invariant-loop-i l =
    (length l.entry-items ≡ 257)
    × ((k : ℕ) → k < l.i → get_or l.entry-items k false ≡ (get_or l.fn.a k false || get_or l.b k false))
    × ((k : ℕ) → l.i ≤ k → get_or l.entry-items k false ≡ get_or l.fn.a k false)
