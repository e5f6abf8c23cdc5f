-- What holds of a partition with its order, part by part.
use Rattle.std.specs.Prelude.{◌≡◌, ℕ, ◌<◌, ◌≤◌, List, length}
use Rattle.chains.specs.Chains.{place}
use Rattle.chains.specs.Lists.{In}
use Rattle.partition.specs.Blocks.{block_of}

-- a block's number is at most that of each task of it
abbrev pub Least : ℕ → List ℕ → Type 0
Least n blocks = (t : ℕ) → 1 ≤ t → t ≤ n → (1 ≤ block_of blocks t) × (block_of blocks t ≤ t)

-- a block's number is that of a task of it
abbrev pub Own : ℕ → List ℕ → Type 0
Own n blocks = (t : ℕ) → 1 ≤ t → t ≤ n → block_of blocks (block_of blocks t) ≡ block_of blocks t

-- every block has a place in the order
abbrev pub Listed : ℕ → List ℕ → List ℕ → Type 0
Listed n blocks order = (t : ℕ) → 1 ≤ t → t ≤ n → place order (block_of blocks t) < length order

-- the order holds only blocks
abbrev pub Numbered : ℕ → List ℕ → List ℕ → Type 0
Numbered n blocks order = (b : ℕ) → In b order → (1 ≤ b) × (b ≤ n) × (block_of blocks b ≡ b)
