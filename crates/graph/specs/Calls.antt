-- When a task or a link is refused, and what one more of them makes of a graph.
use Rattle.std.specs.Prelude.{ℕ, ◌+◌, ◌-◌, Bool, cond, not, ◌&&◌, List, [], ◌∷◌, ◌++◌, length, Some, None, Ok, Err, Option, Result, ◌==◌, nat_le, nat_lt, slice_index_or, slice_set}
use Rattle.graph.specs.declared.records.Task.{Task}
use Rattle.graph.specs.declared.records.Refusal.{Refusal}
use Rattle.graph.specs.declared.records.Refusal.TheVariants.{TimeOutOfRange, TooManyTasks, NoSuchTask, SelfLink, SizeTooLarge, AlreadyLinked, TooManyLinks}
use Rattle.graph.specs.Net.{Net, newest_of, linked, no_task}

-- a call answers a number or is refused
abbrev pub Answer : Type 0
Answer = Result ℕ Refusal

-- of a table of conditions and refusals in the order in which they are tested, the first refusal whose condition holds
abbrev pub first_of : {R : Type 0} → List (Bool × R) → Option R
first_of [] = None
first_of (row ∷ rows) = cond row.0 (Some row.1) (first_of rows)

-- what a call leaves and answers: a refused call leaves all as it was
abbrev pub settle : {S R : Type 0} → S → Option R → S × ℕ → S × Result ℕ R
settle s None done = (done.0, Ok done.1)
settle s (Some why) done = (s, Err why)

-- tasks are numbered from 1
abbrev pub is_task : Net → ℕ → Bool
is_task net t = nat_le 1 t && nat_le t (length net.tasks)

-- a time is 1 to 1,000,000
abbrev pub is_time : ℕ → Bool
is_time time = nat_le 1 time && nat_le time 1000000

abbrev pub task_rows : Net → ℕ → List (Bool × Refusal)
task_rows net time =
    (not (is_time time), TimeOutOfRange)
    ∷ (nat_le 256 (length net.tasks), TooManyTasks) ∷ []

abbrev pub link_rows : Net → ℕ → ℕ → ℕ → List (Bool × Refusal)
link_rows net from to size =
    (not (is_task net from), NoSuchTask from)
    ∷ (not (is_task net to), NoSuchTask to)
    ∷ ((from == to), SelfLink from)
    ∷ (nat_lt 1000000 size, SizeTooLarge)
    ∷ (not (linked net.links from to == 0), AlreadyLinked (linked net.links from to))
    ∷ (nat_le 1024 (length net.links), TooManyLinks) ∷ []

-- the graph with one task more, which has no link yet
abbrev pub with_task : Net → ℕ → Net
with_task net time = record { tasks = net.tasks ++ (record { time = time; newest = 0 } ∷ []); links = net.links }

abbrev pub with_newest : Task → ℕ → Task
with_newest t n = record { time = t.time; newest = n }

-- the graph with one link more, which is now its sender's newest and names the one that was
abbrev pub with_link : Net → ℕ → ℕ → ℕ → Net
with_link net from to size = record {
  tasks = slice_set net.tasks (from - 1) (with_newest (slice_index_or net.tasks (from - 1) no_task) (length net.links + 1));
  links = net.links ++ (record { sender = from; receiver = to; size = size; next = newest_of net.links from } ∷ []);
}

-- adding a task answers its number
abbrev pub add_step : Net → ℕ → Net × Answer
add_step net time = settle net (first_of (task_rows net time)) (with_task net time, length net.tasks + 1)

-- linking answers the link's number
abbrev pub link_step : Net → ℕ → ℕ → ℕ → Net × Answer
link_step net from to size = settle net (first_of (link_rows net from to size)) (with_link net from to size, length net.links + 1)
