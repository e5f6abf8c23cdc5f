-- The block that is best joined to another, with what that costs; and the cheaper of two partitions.
use Rattle.std.specs.Prelude.{ℕ, cond, List, [], ◌∷◌, Some, None, Option, nat_lt}
use Rattle.graph.specs.Net.{Net}
use Rattle.machine.specs.Model.{Model}
use Rattle.joining.specs.Outcomes.{both_blocks}
use Rattle.dividing.specs.Dividing.{cost_of, joined_to}
use Rattle.dividing.specs.Firsts.{first_least}
use Rattle.dividing.specs.declared.choice.Choice.{Choice}
use Rattle.dividing.specs.declared.divided.Divided.{Divided}

-- what these blocks cost after joining b to h
abbrev pub price_of : Model → Net → List ℕ → ℕ → ℕ → ℕ
price_of m net blocks h b = cost_of m net (joined_to net blocks h b)

-- block b as a partner of h, with its price; nothing where one of the two is no block
abbrev pub offer : Model → Net → List ℕ → ℕ → ℕ → Option Choice
offer m net blocks h b = cond (both_blocks blocks h b) (Some (record { partner = b; cost = price_of m net blocks h b })) None

-- of a list the first block at which the price is least, with that price; none where there is no block
abbrev pub cheapest : (ℕ → ℕ) → List ℕ → Option Choice
cheapest price [] = None
cheapest price (x ∷ xs) = Some (record { partner = first_least price x xs; cost = price (first_least price x xs) })

-- the cheaper of what was kept and one more, the former where they cost the same
abbrev pub cheaper : Option Divided → Divided → Divided
cheaper None d = d
cheaper (Some k) d = cond (nat_lt d.cost k.cost) d k
