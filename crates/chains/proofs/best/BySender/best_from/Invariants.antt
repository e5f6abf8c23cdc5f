use Rattle.std.proofs.Common.{◌≡◌, map, get_or, drop, fold}
use Rattle.chains.specs.Chains.{successors}
use Rattle.chains.proofs.Links.{Walked, upto}
use Rattle.chains.proofs.best.BySender.best_from.Given as goal

abbrev pub invariant-loop-at : goal.invariant-loop-at
invariant-loop-at g l =
    let f = g.F.ChainFigure.meaning l.figure in
    Walked l.messages l.block l.initial.met l.at l.met
    × ((d : g.row.F-Value.Denot) → l.found ≡ fold f.better (f.alone l.block) (map (λ s. f.extended l.block s (get_or l.best s d)) (successors (drop (upto l.at) l.messages) l.block)))

abbrev pub decreases-loop-at : goal.decreases-loop-at
decreases-loop-at g l = upto l.at
