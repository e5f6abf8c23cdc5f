-- What a checker refuses of a list of rows. Each test goes over all rows before the next, and the first row that it
-- takes is named by its number from 1. Sums are of natural numbers: nothing wraps.
use Rattle.std.specs.Prelude.{◌≡◌, ℕ, ◌+◌, Bool, cond, not, ◌&&◌, ◌||◌, List, [], ◌∷◌, ◌++◌, length, Some, None, Ok, Err, Option, Result, option_map, ◌==◌, nat_eq, nat_lt}
use Rattle.std.specs.List.{list_any}
use Rattle.std.specs.Option.{option_or}
use Rattle.chains.specs.declared.message.Message.{Message}
use Rattle.std.specs.Borrow.{Bor}
use Rattle.machine.specs.Model.{Model}
use Rattle.schedule.specs.declared.rows.Row.{Row}
use Rattle.schedule.specs.Problems.{Problem, length_of}
use Rattle.checking.specs.declared.refusal.CheckRefusal.{CheckRefusal}
use Rattle.checking.specs.declared.refusal.CheckRefusal.TheVariants.{RowCount, Block, Processor, Finish, Overlap, Arrival}

-- a test of a row, which may look at the rows above it
abbrev pub Test : Type 0
Test = List Row → Row → Bool

-- the number of the first row that a test takes, from 1 at the first of all, where some rows are passed already
abbrev pub first_after : Test → List Row → List Row → Option ℕ
first_after takes above [] = None
first_after takes above (r ∷ rows) = cond (takes above r) (Some (length above + 1)) (first_after takes (above ++ (r ∷ [])) rows)

abbrev pub first_row : Test → List Row → Option ℕ
first_row takes rows = first_after takes [] rows

-- what a call of a test may say of a row and the rows above it is what t says
abbrev pub Agrees : (Bor (List Row) → Bor Row → Bool → Type 0) → Test → Type 0
Agrees says t = (above : Bor (List Row)) (row : Bor Row) (b : Bool) → says above row b → b ≡ t above.now row.now

-- the block is not listed, or a row above names it
abbrev pub misnames : List ℕ → Test
misnames blocks above r = not (list_any (λ b. nat_eq b r.block) blocks) || list_any (λ y. nat_eq y.block r.block) above

-- the processor is not there
abbrev pub strays : ℕ → Row → Bool
strays processors r = not (nat_lt r.processor processors)

-- the finish is not the start and the block time
abbrev pub breaks : (ℕ → ℕ) → Row → Bool
breaks time r = not (r.finish == r.start + time r.block)

-- two rows are on one processor, and neither finishes before the other starts or as it starts
abbrev pub overlap : Row → Row → Bool
overlap x y = x.processor == y.processor && (nat_lt x.start y.finish && nat_lt y.start x.finish)

-- a row above overlaps
abbrev pub overlaps : Test
overlaps above r = list_any (λ y. overlap y r) above

-- y is the row of the message's sender, and the message arrives after r starts
abbrev pub comes_late : Model → Row → Message → Row → Bool
comes_late M r m y = y.block == m.from && nat_lt r.start (y.finish + M.delay y.processor r.processor m.size)

-- a message goes to the row's block and arrives after the row starts; its sender's row stands anywhere among the rows
abbrev pub is_awaited : Model → List Row → Row → Message → Bool
is_awaited M rows r m = m.to == r.block && list_any (comes_late M r m) rows

-- some message is awaited
abbrev pub lacks : Model → List Message → List Row → Row → Bool
lacks M ms rows r = list_any (is_awaited M rows r) ms

-- the refusal of the first test that takes a row
abbrev pub row_refusal : Model → Problem → List Row → Option CheckRefusal
row_refusal M g rows =
    option_or (option_map (λ n. Block n) (first_row (misnames g.blocks) rows))
    (option_or (option_map (λ n. Processor n) (first_row (λ above r. strays M.processors r) rows))
    (option_or (option_map (λ n. Finish n) (first_row (λ above r. breaks g.time r) rows))
    (option_or (option_map (λ n. Overlap n) (first_row overlaps rows))
    (option_map (λ n. Arrival n) (first_row (λ above r. lacks M g.messages rows r) rows)))))

-- why rows are refused, where they are
abbrev pub check_refusal : Model → Problem → List Row → Option CheckRefusal
check_refusal M g rows = cond (length rows == length g.blocks) (row_refusal M g rows) (Some (RowCount (length rows)))

-- x, unless something is refused
abbrev pub unless : {X : Type 0} → Option CheckRefusal → X → Result X CheckRefusal
unless None x = Ok x
unless (Some why) x = Err why

-- rows are answered their length where nothing is refused
abbrev pub check_answer : Model → Problem → List Row → Result ℕ CheckRefusal
check_answer M g rows = unless (check_refusal M g rows) (length_of rows)
