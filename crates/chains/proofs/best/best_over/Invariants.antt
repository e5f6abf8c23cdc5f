use Rattle.std.proofs.Common.{◌≡◌, ℕ, ◌≤◌, length, get_or, take}
use Rattle.std.specs.Iterator.Adapters.{rev_source}
use Rattle.std.specs.Slice.Iter.{iter_rest}
use Rattle.chains.specs.Lists.{In}
use Rattle.chains.specs.Chains.{place}
use Rattle.chains.proofs.Bests.{Done}
use Rattle.chains.proofs.best.best_over.Given as goal

abbrev pub invariant-loop-block : goal.invariant-loop-block
invariant-loop-block g l =
    let rest = iter_rest (rev_source l.block-iterator) in
    (take (length rest) l.order ≡ rest)
    × Done (g.F.ChainFigure.meaning l.figure) l.messages l.order l.best (length rest)
    × ((b : ℕ) (d : g.row.F-Value.Denot) → (In b l.order → ⊥) → get_or l.best b d ≡ get_or l.initial.best b d)
    × ((s b : ℕ) → 1 ≤ b → get_or l.met s 0 ≡ b → length rest ≤ place l.order b)
