-- Dividing a small job, worked through by hand.
use Rattle.std.specs.Prelude.{◌≡◌, [], ◌∷◌}
use Rattle.graph.specs.Net.{Net}
use Rattle.partition.specs.Examples.{four_tasks, four_links, small_bus, singles}
use Rattle.dividing.specs.Dividing.{cost_of, met, divided}

abbrev pub four : Net
four = record { tasks = four_tasks; links = four_links }

-- Without handling times all overheads are equal, and so are the costs of all joinings: block 1 is joined to the least
-- other block each time, down to one block, and the four blocks, of cost 22, stay. With a starting time of 3 and 1 for each
-- reading and each writing the overheads are equal too, and joining 1 to 4, which takes in all, costs least: that is one
-- block, of cost 34.
pub record FourTasksDivide : Type 0 where
  pub quiet_met : met (small_bus 0 0 0) four singles ≡ singles ∷ (1 ∷ 1 ∷ 3 ∷ 4 ∷ []) ∷ (1 ∷ 1 ∷ 1 ∷ 4 ∷ []) ∷ (1 ∷ 1 ∷ 1 ∷ 1 ∷ []) ∷ []
  pub quiet : divided (small_bus 0 0 0) four singles ≡ singles
  pub quiet_cost : cost_of (small_bus 0 0 0) four (divided (small_bus 0 0 0) four singles) ≡ 22
  pub handled_met : met (small_bus 3 1 1) four singles ≡ singles ∷ (1 ∷ 1 ∷ 1 ∷ 1 ∷ []) ∷ []
  pub handled : divided (small_bus 3 1 1) four singles ≡ 1 ∷ 1 ∷ 1 ∷ 1 ∷ []
  pub handled_cost : cost_of (small_bus 3 1 1) four (divided (small_bus 3 1 1) four singles) ≡ 34
