-- The union of a pair of blocks, on the table of what leads to what.
use Rattle.std.specs.Prelude.{ℕ, Bool, List}
use Rattle.partition.specs.Joins.{between, early, late}
use Rattle.joining.specs.Tables.{reach_in}
use Rattle.joining.specs.declared.pair.Pair.{Pair}

-- whether one block leads to another
abbrev pub reach_of : Pair → ℕ → ℕ → Bool
reach_of p = reach_in p.reach.now.rows

-- the block of each task before joining, and the blocks in their processing order
abbrev pub blocks_of : Pair → List ℕ
blocks_of p = p.reach.now.partition.blocks.now

abbrev pub order_of : Pair → List ℕ
order_of p = p.reach.now.partition.order.now

-- whether the union takes a block in, and where any other block stands in the processing order after joining
abbrev pub taken_in : Pair → ℕ → Bool
taken_in p = between (reach_of p) p.one p.other

abbrev pub before : Pair → ℕ → Bool
before p = early (reach_of p) p.one p.other

abbrev pub behind : Pair → ℕ → Bool
behind p = late (reach_of p) p.one p.other
