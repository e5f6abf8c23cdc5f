-- The calls on a task graph, when each is refused, and what it does and answers.
use Rattle.std.specs.Prelude.{ℕ, ◌+◌, Bool, not, List, [], ◌∷◌, length, Option}
use Rattle.graph.specs.declared.records.Refusal.{Refusal}
use Rattle.graph.specs.declared.records.Refusal.TheVariants.{WrongStage}
use Rattle.graph.specs.Net.{Net}
use Rattle.graph.specs.Calls.{Answer, first_of, settle, task_rows, link_rows, with_task, with_link}
use Rattle.graph.specs.Walks.{close_rows}
use Rattle.planner.specs.declared.records.Stage.TheVariants.{Closed}
use Rattle.planner.specs.State.{State, is_open, numbers}

-- a call with what it is given: a time; a sender, a receiver and a size; nothing
pub data Call : Type 0 where
  add_task : ℕ → Call
  link : ℕ → ℕ → ℕ → Call
  close : Call

-- only an open graph takes tasks and links in, or is closed
abbrev pub when_open : State → List (Bool × Refusal) → List (Bool × Refusal)
when_open s rows = (not (is_open s.stage), WrongStage) ∷ rows

-- why a call is refused: a wrong stage comes before everything else
abbrev pub refusal : State → Call → Option Refusal
refusal s (add_task time) = first_of (when_open s (task_rows s.net time))
refusal s (link from to size) = first_of (when_open s (link_rows s.net from to size))
refusal s close = first_of (when_open s (close_rows s.net))

-- the same graph with other tasks and links
abbrev pub with_net : State → Net → State
with_net s net = record { net = net; stage = s.stage; blocks = s.blocks }

-- the graph closed, with every task a block of its own
abbrev pub closed : State → State
closed s = record { net = s.net; stage = Closed; blocks = numbers (length s.net.tasks) }

-- what a call does and answers where it is not refused: the number of the new task, that of the new link, the number of tasks
abbrev pub effect : State → Call → State × ℕ
effect s (add_task time) = (with_net s (with_task s.net time), length s.net.tasks + 1)
effect s (link from to size) = (with_net s (with_link s.net from to size), length s.net.links + 1)
effect s close = (closed s, length s.net.tasks)

-- what a call leaves and answers
abbrev pub step : State → Call → State × Answer
step s c = settle s (refusal s c) (effect s c)

-- what a list of calls leaves
abbrev pub after : State → List Call → State
after s [] = s
after s (c ∷ cs) = after (step s c).0 cs
