use Rattle.graph.proofs.Seek.{Seeking}
use Rattle.graph.proofs.graph.Graph.find_link.Given as goal

abbrev pub invariant-loop-at : goal.invariant-loop-at
invariant-loop-at l = Seeking l.self.links.items l.from l.to l.at

abbrev pub decreases-loop-at : goal.decreases-loop-at
decreases-loop-at l = l.at
