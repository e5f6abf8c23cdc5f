-- A small job beside a rival.
use Rattle.std.specs.Prelude.{◌≡◌, List, [], ◌∷◌}
use Rattle.machine.specs.Model.{Model}
use Rattle.partition.specs.Costs.{delay_chain}
use Rattle.schedule.specs.declared.rows.Row.{Row}
use Rattle.schedule.specs.Problems.{length_of}
use Rattle.schedule.specs.Orders.{by_number, earlier}
use Rattle.schedule.specs.Placing.{placing}
use Rattle.schedule.specs.Valid.{silent, Rival}
use Rattle.schedule.specs.Examples.{four_blocks, four_standings, two_processors}
use Rattle.bounds.specs.Problems.{Processed}

-- the four blocks placed by number on a machine
abbrev pub by_numbers : Model → List Row
by_numbers M = placing M four_blocks (earlier by_number four_standings)

-- The schedule takes 14. Where messages take no time the same steps give a rival that takes 11. No chain of delays costs
-- more than 5; and indeed 2 × 14 is at most 3 × 11 + 2 × 5.
pub record FourBlocksAreNear : Type 0 where
  pub processed : Processed two_processors four_blocks (1 ∷ 2 ∷ 3 ∷ 4 ∷ [])
  pub long : length_of (by_numbers two_processors) ≡ 14
  pub rival : Rival two_processors four_blocks (by_numbers (silent two_processors))
  pub short : length_of (by_numbers (silent two_processors)) ≡ 11
  pub delays : delay_chain two_processors four_blocks.messages four_blocks.blocks ≡ 5
