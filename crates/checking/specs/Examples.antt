-- Rows of a small job, checked by hand.
use Rattle.std.specs.Prelude.{◌≡◌, [], ◌∷◌, Ok, Err}
use Rattle.schedule.specs.Examples.{four_blocks, two_processors, row}
use Rattle.checking.specs.declared.refusal.CheckRefusal.TheVariants.{Arrival}
use Rattle.checking.specs.Checking.{check_answer}

-- block 2 gets its data on processor 1 at 6, by the first row's finish 4 and a delay of 2
pub record FourBlocksChecked : Type 0 where
  pub accepted : check_answer two_processors four_blocks (row 1 0 0 4 ∷ row 3 0 4 9 ∷ row 2 1 6 9 ∷ row 4 0 11 13 ∷ []) ≡ Ok 13
  pub too_soon : check_answer two_processors four_blocks (row 1 0 0 4 ∷ row 3 0 4 9 ∷ row 2 1 5 8 ∷ row 4 0 11 13 ∷ []) ≡ Err (Arrival 3)
