-- A small job placed by hand.
use Rattle.std.specs.Prelude.{◌≡◌, ℕ, [], ◌∷◌, slice_index}
use Rattle.machine.specs.Model.{Model}
use Rattle.machine.specs.Kinds.{bus_model}
use Rattle.schedule.specs.declared.rows.Row.{Row}
use Rattle.schedule.specs.declared.priority.Standing.{Standing}
use Rattle.schedule.specs.Problems.{Problem, length_of}
use Rattle.schedule.specs.Orders.{by_level, by_time, by_number, refined, earlier}
use Rattle.schedule.specs.Placing.{placing}

-- four blocks that take 4, 3, 5 and 2; the first sends to the second and third, and both of these to the last
abbrev pub four_blocks : Problem
four_blocks = record {
  blocks = 1 ∷ 2 ∷ 3 ∷ 4 ∷ [];
  time = λ b. slice_index (0 ∷ 4 ∷ 3 ∷ 5 ∷ 2 ∷ []) b;
  messages = record { from = 1; to = 2; size = 1 } ∷ record { from = 1; to = 3; size = 2 } ∷ record { from = 2; to = 4; size = 1 } ∷ record { from = 3; to = 4; size = 1 } ∷ [];
}

abbrev pub four_standings : ℕ → Standing
four_standings b = record { level = slice_index (0 ∷ 11 ∷ 5 ∷ 7 ∷ 2 ∷ []) b; time = four_blocks.time b }

-- a bus of two processors, of delay 1 + size
abbrev pub two_processors : Model
two_processors =
    bus_model 2 (record { delay_base = 1; delay_unit = 1; startup = 0; reading_base = 0; reading_unit = 0; writing_base = 0; writing_unit = 0 })

abbrev pub row : ℕ → ℕ → ℕ → ℕ → Row
row b p s f = record { block = b; processor = p; start = s; finish = f }

-- by level refined by time, and by number
pub record FourBlocksStand : Type 0 where
  pub by_levels : placing two_processors four_blocks (earlier (refined by_level by_time) four_standings) ≡ row 1 0 0 4 ∷ row 3 0 4 9 ∷ row 2 1 6 9 ∷ row 4 0 11 13 ∷ []
  pub by_numbers : placing two_processors four_blocks (earlier by_number four_standings) ≡ row 1 0 0 4 ∷ row 2 0 4 7 ∷ row 3 0 7 12 ∷ row 4 0 12 14 ∷ []
  pub long : length_of (placing two_processors four_blocks (earlier (refined by_level by_time) four_standings)) ≡ 13
