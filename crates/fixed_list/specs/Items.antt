-- What a list in fixed room holds.
use Rattle.std.specs.Prelude.{ℕ, List, take}
use Rattle.fixed_list.specs.declared.list.FixedList.{FixedList}

-- the elements, in order
abbrev pub items_of : {T : Type 0} {room : ℕ} → FixedList T room → List T
items_of l = take l.count l.cells
