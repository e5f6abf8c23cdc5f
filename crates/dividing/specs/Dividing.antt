-- Dividing: the partitions that are met in joining the heaviest block again and again, and the earliest cheapest of them.
use Rattle.std.specs.Prelude.{ℕ, zero, suc, cond, not, List, [], ◌∷◌, length, filter, ◌==◌, nat_lt}
use Rattle.graph.specs.Net.{Net}
use Rattle.machine.specs.Model.{Model}
use Rattle.partition.specs.Blocks.{block_list, messages}
use Rattle.partition.specs.Times.{overhead, block_time}
use Rattle.partition.specs.Costs.{cost}
use Rattle.partition.specs.Joins.{leads, joining}
use Rattle.dividing.specs.Firsts.{first_greatest, first_least, first_least_of}

-- the cost of these blocks on a machine
abbrev pub cost_of : Model → Net → List ℕ → ℕ
cost_of m net blocks = cost m (block_time m net.tasks blocks (messages net.links blocks)) (messages net.links blocks) (block_list blocks)

-- these blocks after joining a and b, with all blocks on paths between them
abbrev pub joined_to : Net → List ℕ → ℕ → ℕ → List ℕ
joined_to net blocks a b = joining (leads (messages net.links blocks) (length (block_list blocks))) blocks a b

-- the block with the greatest overhead, of several the one with the least number; task 1 numbers a block, the first
abbrev pub heaviest : Model → Net → List ℕ → ℕ
heaviest m net blocks = first_greatest (overhead m (messages net.links blocks)) 1 (block_list blocks)

-- all blocks but one, ascending
abbrev pub others : ℕ → List ℕ → List ℕ
others h blocks = filter (λ b. not (b == h)) (block_list blocks)

-- the block that is best joined to h: the joining gives the least cost, and of several it is the one with the least number
abbrev pub best_partner : Model → Net → List ℕ → ℕ → ℕ
best_partner m net blocks h = first_least_of (λ b. cost_of m net (joined_to net blocks h b)) 0 (others h blocks)

-- the blocks that are met next
abbrev pub next : Model → Net → List ℕ → List ℕ
next m net blocks = joined_to net blocks (heaviest m net blocks) (best_partner m net blocks (heaviest m net blocks))

-- what is met after these blocks, while more than one block is left, in at most n steps
abbrev pub later : Model → Net → ℕ → List ℕ → List (List ℕ)
later m net zero blocks = []
later m net (suc n) blocks = let q = next m net blocks in let rest = later m net n q in cond (nat_lt 1 (length (block_list blocks))) (q ∷ rest) []

-- every partition that is met, the start first; each step leaves fewer blocks, so that their number suffices for the steps
abbrev pub met : Model → Net → List ℕ → List (List ℕ)
met m net start = start ∷ later m net (length (block_list start)) start

-- the earliest partition met with the least cost
abbrev pub divided : Model → Net → List ℕ → List ℕ
divided m net start = first_least (cost_of m net) start (later m net (length (block_list start)) start)
