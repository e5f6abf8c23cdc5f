use Rattle.std.proofs.Common.{◌≡◌, ◌+◌, ◌*◌, ◌≤◌, ◌++◌, take}
use Rattle.std.specs.List.{flat_map}
use Rattle.page.specs.Pages.{page_text, page_len}
use Rattle.page.specs.Text.{row_line}
use Rattle.page.proofs.page.Page.put_rows.Given as goal

abbrev pub invariant-loop-row : goal.invariant-loop-row
invariant-loop-row l = (page_text l.self ≡ page_text l.initial.self ++ flat_map row_line (take l.row-index l.rows)) × (page_len l.self ≤ page_len l.initial.self + 84 * l.row-index)
