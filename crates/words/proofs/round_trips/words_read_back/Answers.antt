use Rattle.std.proofs.Common.{arith}
use Rattle.graph.specs.Of.{net_of}
use Rattle.graph.proofs.Sounds.{graph_sound}
use Rattle.words.proofs.ReadsBack.{reads_back}
use Rattle.words.proofs.round_trips.words_read_back.Goals as goal

pub returns : goal.returns
returns c =
    let g = c.args.graph.now in
    reads_back (net_of g) (graph_sound g) (omega (arith, g.tasks.ok.0, g.task_limit)) (omega (arith, g.links.ok.0, g.link_limit))
