-- A printed schedule and a printed refusal.
use Rattle.std.specs.Prelude.{◌≡◌, ℕ, List, [], ◌∷◌, codes}
use Rattle.schedule.specs.declared.rows.Row.{Row}
use Rattle.schedule.specs.Examples.{row}
use Rattle.page.specs.declared.fault.Fault.{Fault}
use Rattle.page.specs.Text.{listing, refusal_line}

abbrev pub four_rows : List Row
four_rows = row 1 0 0 4 ∷ row 3 0 4 9 ∷ row 2 1 6 9 ∷ row 4 0 11 13 ∷ []

abbrev pub fault : ℕ → ℕ → ℕ → Fault
fault l n p = record { layer = l; number = n; place = p }

abbrev pub three_faults : List Fault
three_faults = fault 5 4 84 ∷ fault 2 4 11 ∷ fault 1 4 9 ∷ []

abbrev pub four_rows_text : List ℕ
four_rows_text = codes "1 0 0 4\n3 0 4 9\n2 1 6 9\n4 0 11 13\nlength 13 cost 22 chain 5\n"

abbrev pub three_faults_text : List ℕ
three_faults_text = codes "refused 5 4 84 2 4 11 1 4 9\n"

pub record TextsStand : Type 0 where
  pub rows : listing four_rows 13 22 5 ≡ four_rows_text
  pub faults : refusal_line three_faults ≡ three_faults_text
