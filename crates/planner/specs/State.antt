-- What a task graph holds, and what it begins with.
use Rattle.std.specs.Prelude.{ℕ, zero, suc, Bool, true, false, List, [], ◌∷◌, ◌++◌}
use Rattle.graph.specs.Net.{Net, empty}
use Rattle.planner.specs.declared.records.Stage.{Stage}
use Rattle.planner.specs.declared.records.Stage.TheVariants.{Open, Closed}

-- the tasks and links, how far the graph has come, and at place i the block of task i + 1
pub record State : Type 0 where
  pub net : Net
  pub stage : Stage
  pub blocks : List ℕ

-- a new graph has nothing and is open
abbrev pub start : State
start = record { net = empty; stage = Open; blocks = [] }

-- whether tasks and links can still be taken in
abbrev pub is_open : Stage → Bool
is_open Open = true
is_open Closed = false

-- the numbers 1 to n in their order
abbrev pub numbers : ℕ → List ℕ
numbers zero = []
numbers (suc n) = numbers n ++ (suc n ∷ [])
