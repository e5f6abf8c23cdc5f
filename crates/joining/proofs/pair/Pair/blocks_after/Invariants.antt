use Rattle.std.proofs.Common.{◌≡◌, take}
use Rattle.fixed_list.specs.Items.{items_of}
use Rattle.partition.specs.Joins.{united}
use Rattle.joining.specs.Pairs.{taken_in, blocks_of}
use Rattle.joining.proofs.pair.Pair.blocks_after.Given as goal

abbrev pub invariant-loop-block : goal.invariant-loop-block
invariant-loop-block l = items_of l.after ≡ united (taken_in l.self) l.number (take l.block-index (blocks_of l.self))
