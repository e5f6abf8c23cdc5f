use Rattle.std.proofs.Common.{◌≡◌, take}
use Rattle.fixed_list.specs.Items.{items_of}
use Rattle.fixed_list.proofs.list.FixedList.from_slice.Given as goal

-- the elements so far
abbrev pub invariant-loop-element : goal.invariant-loop-element
invariant-loop-element g l = items_of l.list ≡ take l.element-index l.elements
