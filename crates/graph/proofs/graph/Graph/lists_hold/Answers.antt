use Rattle.std.proofs.Common.{arith}
use Rattle.graph.specs.Of.{net_of}
use Rattle.graph.proofs.Sounds.{graph_sound}
use Rattle.graph.proofs.Outgoing.{lists_are_exact}
use Rattle.graph.proofs.graph.Graph.lists_hold.Goals as goal

pub returns : goal.returns
returns c =
    let g = c.args.self.now in
    record {
      few = (omega (arith, g.tasks.ok.0, g.task_limit), omega (arith, g.links.ok.0, g.link_limit));
      sound = graph_sound g;
      lists = lists_are_exact (net_of g) (graph_sound g);
    }
