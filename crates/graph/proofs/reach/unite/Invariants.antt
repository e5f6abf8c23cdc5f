use Rattle.std.proofs.Common.{◌≡◌, ℕ, ◌<◌, ◌≤◌, ◌||◌, false, get_or}
use Rattle.graph.proofs.reach.unite.Given as goal

abbrev pub invariant-loop-b : goal.invariant-loop-b
invariant-loop-b l = record {
  done : (k : ℕ) → k < l.b → get_or l.row k false ≡ (get_or l.fn.row k false || get_or l.other k false);
  left : (k : ℕ) → l.b ≤ k → get_or l.row k false ≡ get_or l.fn.row k false;
}
