-- Partitions of tasks into blocks, and the messages between blocks.
use Rattle.std.specs.Prelude.{◌≡◌, ℕ, zero, suc, ◌-◌, ◌<◌, ◌≤◌, cond, List, [], ◌∷◌, ◌++◌, length, ◌==◌, slice_index}
use Rattle.std.specs.List.{flat_map}
use Rattle.graph.specs.declared.records.Link.{Link}
use Rattle.chains.specs.declared.message.Message.{Message}
use Rattle.chains.specs.Chains.{ChainFrom}
use Rattle.chains.specs.Lists.{In}

-- the block of a task: at place t - 1 stands that of task t
abbrev pub block_of : List ℕ → ℕ → ℕ
block_of blocks t = slice_index blocks (t - 1)

-- each of n tasks has a block; a block is numbered by its least task, which is no later than any task of it and lies in it
pub record Partitions (n : ℕ) (blocks : List ℕ) : Type 0 where
  pub all : length blocks ≡ n
  pub least : (t : ℕ) → 1 ≤ t → t ≤ n → (1 ≤ block_of blocks t) × (block_of blocks t ≤ t)
  pub own : (t : ℕ) → 1 ≤ t → t ≤ n → block_of blocks (block_of blocks t) ≡ block_of blocks t

-- the blocks among the first n tasks, ascending: the tasks that number their own block
abbrev pub blocks_among : List ℕ → ℕ → List ℕ
blocks_among blocks zero = []
blocks_among blocks (suc t) = blocks_among blocks t ++ cond (block_of blocks (suc t) == suc t) (suc t ∷ []) []

abbrev pub block_list : List ℕ → List ℕ
block_list blocks = blocks_among blocks (length blocks)

-- each number is less than every later one
abbrev pub Ascending : List ℕ → Type 0
Ascending [] = Unit {0}
Ascending (x ∷ xs) = ((y : ℕ) → In y xs → x < y) × Ascending xs

-- the list has the block of every task and nothing else, ascending, and so each block once
pub record EachBlock (blocks list : List ℕ) : Type 0 where
  pub every : (t : ℕ) → 1 ≤ t → t ≤ length blocks → In (block_of blocks t) list
  pub only : (b : ℕ) → In b list → (t : ℕ) × (1 ≤ t) × (t ≤ length blocks) × (block_of blocks t ≡ b)
  pub ascending : Ascending list

-- a link crosses when its ends lie in different blocks, and is then one message from block to block
abbrev pub crossing : List ℕ → Link → List Message
crossing blocks l =
    cond (block_of blocks l.sender == block_of blocks l.receiver) []
    (record { from = block_of blocks l.sender; to = block_of blocks l.receiver; size = l.size } ∷ [])

-- the messages between blocks, in the order of the links
abbrev pub messages : List Link → List ℕ → List Message
messages links blocks = flat_map (crossing blocks) links

-- no path from block to block returns to a block that it left
abbrev pub Convex : List Message → Type 0
Convex ms = (b : ℕ) (via : List ℕ) → ChainFrom ms b (b ∷ (via ++ b ∷ [])) → ⊥
