-- Placing: each step takes the candidate that can start first, ties to the one earlier in the order, on the lowest
-- processor that lets it start then. Rows stand in the order in which they were placed.
use Rattle.std.specs.Prelude.{ℕ, zero, suc, ◌+◌, ◌-◌, max, Bool, true, false, cond, not, ◌&&◌, ◌||◌, List, [], ◌∷◌, ◌++◌, length, Some, None, Option, ◌==◌, nat_lt}
use Rattle.chains.specs.declared.message.Message.{Message}
use Rattle.chains.specs.Lists.{greatest}
use Rattle.machine.specs.Model.{Model}
use Rattle.schedule.specs.declared.rows.Row.{Row}
use Rattle.schedule.specs.Problems.{Problem}

-- whether a block has a row
abbrev pub is_placed : List Row → ℕ → Bool
is_placed [] b = false
is_placed (r ∷ rows) b = r.block == b || is_placed rows b

-- whether each message to b comes from a block that has a row
abbrev pub is_fed : List Message → List Row → ℕ → Bool
is_fed [] rows b = true
is_fed (m ∷ ms) rows b = (not (m.to == b) || is_placed rows m.from) && is_fed ms rows b

-- a candidate: an unplaced block whose senders are placed
abbrev pub is_candidate : Problem → List Row → ℕ → Bool
is_candidate g rows b = not (is_placed rows b) && is_fed g.messages rows b

-- when a processor is free: at the last finish there
abbrev pub free : List Row → ℕ → ℕ
free rows p = greatest (λ r. cond (r.processor == p) r.finish 0) rows

-- when the data of a message is on processor p: at the sender's finish plus the delay
abbrev pub arrival : Model → List Row → Message → ℕ → ℕ
arrival M rows m p = greatest (λ y. cond (y.block == m.from) (y.finish + M.delay y.processor p m.size) 0) rows

-- when the data of all messages to b is there
abbrev pub data_at : Model → List Message → List Row → ℕ → ℕ → ℕ
data_at M ms rows b p = greatest (λ m. cond (m.to == b) (arrival M rows m p) 0) ms

-- when b can start on p: the latest of the processor's last finish and all arrivals
abbrev pub start_on : Model → Problem → List Row → ℕ → ℕ → ℕ
start_on M g rows b p = max (free rows p) (data_at M g.messages rows b p)

-- the earliest start of b on the processors up to p, with the lowest processor that has it
abbrev pub earliest_upto : Model → Problem → List Row → ℕ → ℕ → ℕ × ℕ
earliest_upto M g rows b zero = (start_on M g rows b 0, 0)
earliest_upto M g rows b (suc p) =
    cond (nat_lt (start_on M g rows b (suc p)) (earliest_upto M g rows b p).0) (start_on M g rows b (suc p), suc p) (earliest_upto M g rows b p)

-- the earliest start of b and its processor
abbrev pub earliest : Model → Problem → List Row → ℕ → ℕ × ℕ
earliest M g rows b = earliest_upto M g rows b (M.processors - 1)

-- the row of b at its earliest start
abbrev pub row_at : Problem → ℕ → ℕ × ℕ → Row
row_at g b at = record { block = b; processor = at.1; start = at.0; finish = at.0 + g.time b }

abbrev pub row_of : Model → Problem → List Row → ℕ → Row
row_of M g rows b = row_at g b (earliest M g rows b)

-- whether a row comes before another: it starts sooner, or at the same time and its block is earlier in the order
abbrev pub comes_before : (ℕ → ℕ → Bool) → Row → Row → Bool
comes_before earlier x y = nat_lt x.start y.start || (x.start == y.start && earlier x.block y.block)

-- the first of what is at hand and one more
abbrev pub first_of_two : (ℕ → ℕ → Bool) → Option Row → Row → Option Row
first_of_two earlier None y = Some y
first_of_two earlier (Some x) y = cond (comes_before earlier y x) (Some y) (Some x)

-- the first of what is at hand and a block's row, if the block is a candidate
abbrev pub first_with : Model → Problem → (ℕ → ℕ → Bool) → List Row → Option Row → ℕ → Option Row
first_with M g earlier rows best b = cond (is_candidate g rows b) (first_of_two earlier best (row_of M g rows b)) best

-- the first of what is at hand and the rows of the candidates among these blocks
abbrev pub first_among : Model → Problem → (ℕ → ℕ → Bool) → List Row → Option Row → List ℕ → Option Row
first_among M g earlier rows best [] = best
first_among M g earlier rows best (b ∷ bs) =
    first_among M g earlier rows (first_with M g earlier rows best b) bs

-- the row that a step adds, where there is a candidate
abbrev pub chosen : Model → Problem → (ℕ → ℕ → Bool) → List Row → Option Row
chosen M g earlier rows = first_among M g earlier rows None g.blocks

-- the rows with one more, where there is one
abbrev pub with_row : List Row → Option Row → List Row
with_row rows None = rows
with_row rows (Some r) = rows ++ (r ∷ [])

-- the rows after n steps
abbrev pub placed : Model → Problem → (ℕ → ℕ → Bool) → ℕ → List Row
placed M g earlier zero = []
placed M g earlier (suc n) = with_row (placed M g earlier n) (chosen M g earlier (placed M g earlier n))

-- a step for each block
abbrev pub placing : Model → Problem → (ℕ → ℕ → Bool) → List Row
placing M g earlier = placed M g earlier (length g.blocks)
