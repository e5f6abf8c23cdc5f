-- What placing keeps at hand beside the rows, and what it must be.
use Rattle.std.specs.Prelude.{◌≡◌, ℕ, ◌+◌, ◌*◌, ◌<◌, ◌≤◌, max, false, cond, List, [], length, Some, None, Option, ◌==◌, slice_index, slice_index_or}
use Rattle.chains.specs.declared.message.Message.{Message}
use Rattle.chains.specs.Lists.{greatest}
use Rattle.fixed_list.specs.Items.{items_of}
use Rattle.machine.specs.Model.{Model}
use Rattle.schedule.specs.declared.board.Board.{Board}
use Rattle.schedule.specs.declared.rows.Row.{Row}
use Rattle.schedule.specs.Problems.{Problem}
use Rattle.schedule.specs.Placing.{is_placed, free, data_at}

-- the rows on a board
abbrev pub laid : Board → List Row
laid board = items_of board.rows

-- how many there are
abbrev pub count : Board → ℕ
count board = length (laid board)

-- when the data of a block is on a processor, as a table has it
abbrev pub arrived_at : List (List ℕ) → ℕ → ℕ → ℕ
arrived_at table b p = slice_index (slice_index_or table b []) p

-- when the data that a row's block sends to b by this message is on p
abbrev pub sent : Model → Row → ℕ → ℕ → Message → ℕ
sent M r b p m = cond (m.to == b) (cond (r.block == m.from) (r.finish + M.delay r.processor p m.size) 0) 0

-- the times before and after on each processor, once what leaves at a row's finish has come too
abbrev pub Arrives : Model → Row → ℕ → List ℕ → List ℕ → Type 0
Arrives M r size before after =
    (p : ℕ) → p < M.processors → slice_index after p ≡ max (slice_index before p) (r.finish + M.delay r.processor p size)

-- the tables before and after, once all that a row's block sends by these messages has come
abbrev pub Receives : Model → Row → List Message → List (List ℕ) → List (List ℕ) → Type 0
Receives M r ms before after =
    (b p : ℕ) → b ≤ 256 → p < M.processors → arrived_at after b p ≡ max (arrived_at before b p) (greatest (sent M r b p) ms)

-- so many rows finish by then: a row takes less than 2 to the power of 40, and waits for no delay above 1,000,000,000
abbrev pub limit : ℕ → ℕ
limit n = n * 2199023255552

-- a row, if there is one, that can come after n rows on P processors
abbrev pub Fitting : ℕ → ℕ → Option Row → Type 0
Fitting P n None = Unit {0}
Fitting P n (Some r) = (r.block ≤ 256) × (r.processor < P) × (r.finish ≤ limit (n + 1))

-- which blocks have a row
abbrev pub Marks : Board → Type 0
Marks board = (b : ℕ) → b ≤ 256 → slice_index_or board.placed b false ≡ is_placed (laid board) b

-- when each processor is free
abbrev pub Frees : Model → Board → Type 0
Frees M board = (p : ℕ) → p < M.processors → slice_index board.free p ≡ free (laid board) p

-- when the data of each block is on each processor
abbrev pub Arrivals : Model → Problem → Board → Type 0
Arrivals M g board = (b p : ℕ) → b ≤ 256 → p < M.processors → arrived_at board.arrivals b p ≡ data_at M g.messages (laid board) b p

-- no number on the board is near its limit
abbrev pub FreeSoon : Model → Board → Type 0
FreeSoon M board = (p : ℕ) → p < M.processors → slice_index board.free p ≤ limit (count board)

abbrev pub ArriveSoon : Model → Board → Type 0
ArriveSoon M board = (b p : ℕ) → b ≤ 256 → p < M.processors → arrived_at board.arrivals b p ≤ limit (count board) + 1000000000
