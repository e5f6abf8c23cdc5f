-- What a page shows.
use Rattle.std.specs.Prelude.{ℕ, ◌+◌, ◌≤◌, List, length, Some, None, Option}
use Rattle.page.specs.declared.page.Page.{Page}

abbrev pub page_text : Page → List ℕ
page_text p = p.text.bytes

abbrev pub page_len : Page → ℕ
page_len p = length (page_text p)

-- so many more bytes fit on the page
abbrev pub HasRoom : Page → ℕ → Type 0
HasRoom p n = page_len p + n ≤ 21600

-- the text of the page, where there is one
abbrev pub printed : Option Page → Option (List ℕ)
printed None = None
printed (Some p) = Some (page_text p)
