-- The problem that the blocks of a job's tasks are, and its schedules after dividing.
use Rattle.std.specs.Prelude.{◌≡◌, ℕ, ◌≤◌, Bool, List, length}
use Rattle.graph.specs.declared.records.Task.{Task}
use Rattle.graph.specs.declared.records.Link.{Link}
use Rattle.graph.specs.Net.{Joined, Sized, Timed}
use Rattle.chains.specs.Lists.{In}
use Rattle.machine.specs.Model.{Model, Lawful}
use Rattle.machine.specs.Same.{Same}
use Rattle.partition.specs.Blocks.{Partitions, block_list, messages}
use Rattle.partition.specs.Times.{block_time}
use Rattle.partition.specs.Costs.{delay_chain, cost}
use Rattle.partition.specs.Sorted.{Sorted}
use Rattle.schedule.specs.declared.rows.Row.{Row}
use Rattle.schedule.specs.Problems.{Problem, Sound, length_of}
use Rattle.schedule.specs.Choices.{Chosen}
use Rattle.schedule.specs.Valid.{Rival}
use Rattle.bounds.specs.Problems.{Processed}
use Rattle.bounds.specs.Bounds.{Near}

-- the blocks with given times, and the messages between them
abbrev pub problem_at : (ℕ → ℕ) → List Link → List ℕ → Problem
problem_at time links blocks = record { blocks = block_list blocks; time = time; messages = messages links blocks }

-- the times are those of the blocks on the machine
abbrev pub TimedOn : Model → List Task → List Link → List ℕ → (ℕ → ℕ) → Type 0
TimedOn M tasks links blocks time = (b : ℕ) → In b (block_list blocks) → time b ≡ block_time M tasks blocks (messages links blocks) b

-- a partition is a sound problem on every machine
abbrev pub PartitionSound : Type 0
PartitionSound = (M : Model) (tasks : List Task) (links : List Link) (blocks : List ℕ) (time : ℕ → ℕ)
    → Timed tasks → Joined (length tasks) links → Partitions (length tasks) blocks → TimedOn M tasks links blocks time
    → Sound (problem_at time links blocks)

-- and with a processing order of its blocks it can be scheduled
abbrev pub SortedProcessed : Type 0
SortedProcessed = (M : Model) (tasks : List Task) (links : List Link) (blocks order : List ℕ) (time : ℕ → ℕ)
    → Lawful M → Timed tasks → Joined (length tasks) links → Sorted (length tasks) links blocks order → TimedOn M tasks links blocks time
    → Processed M (problem_at time links blocks) order

-- the cost of these blocks on a machine
abbrev pub cost_on : Model → List Task → List Link → List ℕ → ℕ
cost_on M tasks links blocks = cost M (block_time M tasks blocks (messages links blocks)) (messages links blocks) (block_list blocks)

-- Blocks that cost no more than those before them, by a machine D; placed on a machine M that means the same; beside
-- every rival that runs the blocks before them with the times by D.
abbrev pub BoundAfterDividing : Type 0
BoundAfterDividing = (D M : Model) (tasks : List Task) (links : List Link) (before after order : List ℕ) (time₀ time : ℕ → ℕ)
    (e : ℕ → ℕ → Bool) (rows rival : List Row)
    → Lawful M → Same D M → Timed tasks → Joined (length tasks) links → Sized links
    → Partitions (length tasks) before → Sorted (length tasks) links after order
    → TimedOn D tasks links before time₀ → TimedOn M tasks links after time
    → cost_on D tasks links after ≤ cost_on D tasks links before
    → Chosen M (problem_at time links after) e rows → Rival D (problem_at time₀ links before) rival
    → Near M.processors (length_of rows) (length_of rival) (delay_chain M (messages links after) (block_list after))
