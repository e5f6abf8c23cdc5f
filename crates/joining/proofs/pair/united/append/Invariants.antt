use Rattle.std.proofs.Common.{◌≡◌, ◌++◌, take, filter}
use Rattle.fixed_list.specs.Items.{items_of}
use Rattle.joining.proofs.pair.united.append.Given as goal

-- what passes so far is appended
abbrev pub invariant-loop-block : goal.invariant-loop-block
invariant-loop-block g l = items_of l.to ≡ items_of l.initial.to ++ filter g.test (take l.block-index l.blocks)
