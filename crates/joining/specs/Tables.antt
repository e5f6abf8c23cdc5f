-- A table with a row for each block number: what it says of a pair.
use Rattle.std.specs.Prelude.{◌≡◌, ℕ, Bool, false, List, [], length, slice_index_or}
use Rattle.chains.specs.declared.message.Message.{Message}
use Rattle.chains.specs.Lists.{In}
use Rattle.partition.specs.Blocks.{block_list, messages}
use Rattle.partition.specs.Joins.{leads}
use Rattle.partition.specs.declared.partition.Partition.{Partition}

-- whether the row of a has b
abbrev pub reach_in : List (List Bool) → ℕ → ℕ → Bool
reach_in rows a b = slice_index_or (slice_index_or rows a []) b false

-- the row of each block of the order has just what the block leads to, over at most n steps
abbrev pub TellsReach : List Message → ℕ → List ℕ → List (List Bool) → Type 0
TellsReach ms n order rows = (a b : ℕ) → In a order → reach_in rows a b ≡ leads ms n a b

-- the same for the blocks of a partition
abbrev pub Tells : Partition → List (List Bool) → Type 0
Tells p rows = TellsReach (messages p.links.now p.blocks.now) (length (block_list p.blocks.now)) p.order.now rows
