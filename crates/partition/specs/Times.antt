-- What a block takes on a machine.
use Rattle.std.specs.Prelude.{◌≡◌, ℕ, ◌+◌, ◌^◌, ◌<◌, ◌≤◌, cond, List, [], ◌∷◌, length, ◌==◌, slice_index}
use Rattle.graph.specs.declared.records.Task.{Task}
use Rattle.graph.specs.declared.records.Link.{Link}
use Rattle.chains.specs.declared.message.Message.{Message}
use Rattle.chains.specs.Lists.{total, In}
use Rattle.machine.specs.Model.{Model}
use Rattle.partition.specs.Blocks.{messages}

-- the times of the tasks of block b
abbrev pub own_time : List Task → List ℕ → ℕ → ℕ
own_time [] blocks b = 0
own_time (t ∷ tasks) [] b = 0
own_time (t ∷ tasks) (x ∷ blocks) b = cond (x == b) t.time 0 + own_time tasks blocks b

-- what a message costs block b: its reading where it enters, its writing where it leaves
abbrev pub handling : Model → ℕ → Message → ℕ
handling m b x = cond (x.to == b) (m.reading x.size) 0 + cond (x.from == b) (m.writing x.size) 0

-- the overhead of block b: starting time, the reading of each message that enters and the writing of each that leaves
abbrev pub overhead : Model → List Message → ℕ → ℕ
overhead m ms b = m.startup + total (handling m b) ms

-- the block time: the overhead and the times of its tasks
abbrev pub block_time : Model → List Task → List ℕ → List Message → ℕ → ℕ
block_time m tasks blocks ms b = overhead m ms b + own_time tasks blocks b

-- the block times of tasks in these blocks, with the messages that their links make
abbrev pub times_of : Model → List Task → List Link → List ℕ → ℕ → ℕ
times_of m tasks links blocks = block_time m tasks blocks (messages links blocks)

-- a table with an entry for each block number: at place b stands f of b
pub record AtEach (f : ℕ → ℕ) (table : List ℕ) : Type 0 where
  pub long : length table ≡ 257
  pub holds : (b : ℕ) → b ≤ 256 → slice_index table b ≡ f b

-- messages from and to blocks that are numbered up to 256, of sizes that a machine answers for
abbrev pub Handled : List Message → Type 0
Handled ms = (x : Message) → In x ms → (x.from ≤ 256) × (x.to ≤ 256) × (x.size ≤ 1000000)

-- every entry is so small that the times of all tasks can be added
abbrev pub Room : List ℕ → Type 0
Room table = (b : ℕ) → b ≤ 256 → slice_index table b < 2 ^ 40
