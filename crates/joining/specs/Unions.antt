-- What the union of two blocks is: the least that keeps a partition convex.
use Rattle.std.specs.Prelude.{◌≡◌, ℕ, ◌≤◌, ◌⊎◌, List, [], ◌∷◌, ◌++◌}
use Rattle.graph.specs.declared.records.Link.{Link}
use Rattle.chains.specs.declared.message.Message.{Message}
use Rattle.chains.specs.Chains.{ChainFrom}
use Rattle.chains.specs.Lists.{In}
use Rattle.partition.specs.Blocks.{block_of, Partitions, messages, Convex}

-- tasks that share a block in the one partition share a block in the other
abbrev pub Coarsens : ℕ → List ℕ → List ℕ → Type 0
Coarsens n blocks after = (s t : ℕ) → 1 ≤ s → s ≤ n → 1 ≤ t → t ≤ n → block_of blocks s ≡ block_of blocks t → block_of after s ≡ block_of after t

-- some chain from a to b contains y
pub record Passes (ms : List Message) (a b y : ℕ) : Type 0 where
  pub before : List ℕ
  pub chain : ChainFrom ms a (before ++ b ∷ [])
  pub contains : In y (before ++ b ∷ [])

-- y is a, or b, or some chain from a to b or from b to a contains it
abbrev pub OnPath : List Message → ℕ → ℕ → ℕ → Type 0
OnPath ms a b y = (y ≡ a) ⊎ ((y ≡ b) ⊎ (Passes ms a b y ⊎ Passes ms b a y))

-- The partition after joining blocks a and b: it is one, numbered by least tasks, acyclic and convex; it has a and b in one
-- block, and whatever shared a block; every other such partition has in one block what it has in one; each task whose
-- block lies on a path between a and b is in their block, and every other task is in the block in which it was.
pub record Union (n : ℕ) (links : List Link) (blocks : List ℕ) (a b : ℕ) (after : List ℕ) : Type 0 where
  pub partitions : Partitions n after
  pub convex : Convex (messages links after)
  pub unites : block_of after a ≡ block_of after b
  pub coarsens : Coarsens n blocks after
  pub least : (other : List ℕ) → Partitions n other → Convex (messages links other) → Coarsens n blocks other → block_of other a ≡ block_of other b → Coarsens n after other
  pub takes : (t : ℕ) → 1 ≤ t → t ≤ n → OnPath (messages links blocks) a b (block_of blocks t) → block_of after t ≡ block_of after a
  pub keeps : (t : ℕ) → 1 ≤ t → t ≤ n → (OnPath (messages links blocks) a b (block_of blocks t) → ⊥) → block_of after t ≡ block_of blocks t
