use Rattle.graph.specs.Of.{net_of}
use Rattle.graph.proofs.Walks.{reaches_by_walks, names_a_circle}
use Rattle.graph.proofs.graph.Graph.circles_named.Goals as goal

pub returns : goal.returns
returns c = let g = c.args.self.now in record { walks = reaches_by_walks (net_of g) g.joined; circles = names_a_circle (net_of g) g.joined }
