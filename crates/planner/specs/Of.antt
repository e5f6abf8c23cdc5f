-- The state of a task graph.
use Rattle.std.specs.Prelude.{vec_items}
use Rattle.graph.specs.Of.{net_of}
use Rattle.planner.specs.declared.task_graph.TaskGraph.{TaskGraph}
use Rattle.planner.specs.State.{State}

abbrev pub state_of : TaskGraph → State
state_of g = record { net = net_of g.graph; stage = g.stage; blocks = vec_items g.blocks }
