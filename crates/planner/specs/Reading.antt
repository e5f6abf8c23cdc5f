-- Reading job words into a task graph, at any stage.
use Rattle.std.specs.Prelude.{ℕ, List, [], Result}
use Rattle.graph.specs.Calls.{settle}
use Rattle.words.specs.declared.refusal.ReadRefusal.{ReadRefusal}
use Rattle.words.specs.Reading.{task_count, graph_read, read_refusal}
use Rattle.planner.specs.declared.records.Stage.TheVariants.{Open}
use Rattle.planner.specs.State.{State}

-- an open graph of the tasks and links that the words stand for
abbrev pub opened : List ℕ → State
opened ws = record { net = graph_read ws; stage = Open; blocks = [] }

-- reading replaces tasks and links, leaves the graph open and answers the number of tasks; a refusal leaves all as it was
abbrev pub reading : State → List ℕ → State × Result ℕ ReadRefusal
reading s ws = settle s (read_refusal ws) (opened ws, task_count ws)
