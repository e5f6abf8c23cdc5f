-- The rows that a schedule holds.
use Rattle.std.specs.Prelude.{List}
use Rattle.fixed_list.specs.Items.{items_of}
use Rattle.schedule.specs.declared.rows.Row.{Row}
use Rattle.schedule.specs.declared.schedule.Schedule.{Schedule}

abbrev pub rows_in : Schedule → List Row
rows_in s = items_of s.rows
