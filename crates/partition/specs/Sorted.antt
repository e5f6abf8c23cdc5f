-- A partition with a processing order of its blocks, which witnesses that it is acyclic and convex.
use Rattle.std.specs.Prelude.{◌≡◌, ℕ, ◌≤◌, List}
use Rattle.graph.specs.declared.records.Link.{Link}
use Rattle.chains.specs.Chains.{Ordered}
use Rattle.chains.specs.Lists.{In}
use Rattle.partition.specs.Blocks.{block_of, Partitions, messages}

pub record Sorted (n : ℕ) (links : List Link) (blocks order : List ℕ) : Type 0 where
  pub partitions : Partitions n blocks
  pub ordered : Ordered (messages links blocks) order
  pub listed : (t : ℕ) → 1 ≤ t → t ≤ n → In (block_of blocks t) order
  pub own : (b : ℕ) → In b order → (1 ≤ b) × (b ≤ n) × (block_of blocks b ≡ b)
