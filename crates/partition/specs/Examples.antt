-- A small job worked through by hand, as facts about what the definitions mean.
use Rattle.std.specs.Prelude.{◌≡◌, ℕ, List, [], ◌∷◌}
use Rattle.graph.specs.declared.records.Task.{Task}
use Rattle.graph.specs.declared.records.Link.{Link}
use Rattle.machine.specs.Model.{Model}
use Rattle.machine.specs.Kinds.{bus_model}
use Rattle.partition.specs.Blocks.{block_list, messages}
use Rattle.partition.specs.Times.{block_time}
use Rattle.partition.specs.Costs.{cost, delay_chain}
use Rattle.partition.specs.Joins.{leads, joining}

-- four tasks of times 4, 3, 5, 2
abbrev pub four_tasks : List Task
four_tasks = record { time = 4; newest = 2 } ∷ record { time = 3; newest = 3 } ∷ record { time = 5; newest = 4 } ∷ record { time = 2; newest = 0 } ∷ []

-- links 1→2 size 1, 1→3 size 2, 2→4 size 1, 3→4 size 1
abbrev pub four_links : List Link
four_links =
    record { sender = 1; receiver = 2; size = 1; next = 0 } ∷ record { sender = 1; receiver = 3; size = 2; next = 1 }
    ∷ record { sender = 2; receiver = 4; size = 1; next = 0 } ∷ record { sender = 3; receiver = 4; size = 1; next = 0 } ∷ []

-- a bus of two processors, of delay 1 + size, with these times for starting, reading and writing
abbrev pub small_bus : ℕ → ℕ → ℕ → Model
small_bus start read write =
    bus_model 2 (record { delay_base = 1; delay_unit = 1; startup = start; reading_base = read; reading_unit = 0; writing_base = write; writing_unit = 0 })

-- the cost of the four tasks in these blocks
abbrev pub cost_of : Model → List ℕ → ℕ
cost_of m blocks = cost m (block_time m four_tasks blocks (messages four_links blocks)) (messages four_links blocks) (block_list blocks)

-- the blocks after joining those of two tasks
abbrev pub joined_of : List ℕ → ℕ → ℕ → List ℕ
joined_of blocks a b = joining (leads (messages four_links blocks) 4) blocks a b

abbrev pub singles : List ℕ
singles = 1 ∷ 2 ∷ 3 ∷ 4 ∷ []

-- Without handling times four blocks cost 22, and their delay chain is 5. With a starting time of 3 and 1 for each
-- reading and each writing they cost 52; joining 1 with 2, 1 with 3, 2 with 4 or 3 with 4 makes it 58, and one block 34.
-- Joining 1 and 4 takes in 2 and 3, which lie between.
pub record FourTasksStand : Type 0 where
  pub quiet : cost_of (small_bus 0 0 0) singles ≡ 22
  pub chain : delay_chain (small_bus 0 0 0) (messages four_links singles) (block_list singles) ≡ 5
  pub handled : cost_of (small_bus 3 1 1) singles ≡ 52
  pub first : joined_of singles 1 2 ≡ 1 ∷ 1 ∷ 3 ∷ 4 ∷ []
  pub first_cost : cost_of (small_bus 3 1 1) (1 ∷ 1 ∷ 3 ∷ 4 ∷ []) ≡ 58
  pub second_cost : cost_of (small_bus 3 1 1) (1 ∷ 2 ∷ 1 ∷ 4 ∷ []) ≡ 58
  pub third_cost : cost_of (small_bus 3 1 1) (1 ∷ 2 ∷ 3 ∷ 2 ∷ []) ≡ 58
  pub last_cost : cost_of (small_bus 3 1 1) (1 ∷ 2 ∷ 3 ∷ 3 ∷ []) ≡ 58
  pub whole : joined_of singles 1 4 ≡ 1 ∷ 1 ∷ 1 ∷ 1 ∷ []
  pub back : joined_of singles 4 1 ≡ 1 ∷ 1 ∷ 1 ∷ 1 ∷ []
  pub whole_cost : cost_of (small_bus 3 1 1) (1 ∷ 1 ∷ 1 ∷ 1 ∷ []) ≡ 34
