-- The tasks and links that a graph holds.
use Rattle.std.specs.Prelude.{vec_items}
use Rattle.graph.specs.declared.graph.Graph.{Graph}
use Rattle.graph.specs.Net.{Net}

abbrev pub net_of : Graph → Net
net_of g = record { tasks = vec_items g.tasks; links = vec_items g.links }
