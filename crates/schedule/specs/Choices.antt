-- What each step of placing chooses, not how it is searched.
use Rattle.std.specs.Prelude.{◌≡◌, ℕ, ◌+◌, ◌<◌, ◌≤◌, Bool, true, List, ◌∷◌, ◌++◌, ◌≢◌}
use Rattle.chains.specs.declared.message.Message.{Message}
use Rattle.chains.specs.Lists.{In}
use Rattle.machine.specs.Model.{Model}
use Rattle.schedule.specs.declared.rows.Row.{Row}
use Rattle.schedule.specs.Problems.{Problem}

-- a processor is free at a time if no row finishes there later
abbrev pub Free : List Row → ℕ → ℕ → Type 0
Free rows p s = (r : Row) → In r rows → r.processor ≡ p → r.finish ≤ s

-- b has its data on p by a time, as far as its senders have rows: no message to it arrives there later
abbrev pub Arrived : Model → Problem → List Row → ℕ → ℕ → ℕ → Type 0
Arrived M g rows b p s =
    (m : Message) → In m g.messages → m.to ≡ b → (y : Row) → In y rows → y.block ≡ m.from → y.finish + M.delay y.processor p m.size ≤ s

-- b can start on p at a time
pub record Able (M : Model) (g : Problem) (rows : List Row) (b p s : ℕ) : Type 0 where
  pub idle : Free rows p s
  pub arrived : Arrived M g rows b p s

-- a block has a row
pub record Placed (rows : List Row) (b : ℕ) : Type 0 where
  pub row : Row
  pub there : In row rows
  pub is : row.block ≡ b

-- an unplaced block whose senders are placed
pub record Candidate (g : Problem) (rows : List Row) (b : ℕ) : Type 0 where
  pub known : In b g.blocks
  pub unplaced : Placed rows b → ⊥
  pub fed : (m : Message) → In m g.messages → m.to ≡ b → Placed rows m.from

-- what a step adds to the rows above: a candidate, on a processor that exists, when it can start there; no candidate
-- can start sooner on any processor; of those that can start then none is earlier in the order; no lower processor
-- lets it start then
pub record Choice (M : Model) (g : Problem) (earlier : ℕ → ℕ → Bool) (above : List Row) (r : Row) : Type 0 where
  pub candidate : Candidate g above r.block
  pub exists : r.processor < M.processors
  pub able : Able M g above r.block r.processor r.start
  pub unbroken : r.finish ≡ r.start + g.time r.block
  pub least : (b p s : ℕ) → Candidate g above b → p < M.processors → Able M g above b p s → r.start ≤ s
  pub first : (b p : ℕ) → Candidate g above b → p < M.processors → Able M g above b p r.start → earlier b r.block ≢ true
  pub lowest : (p : ℕ) → p < M.processors → Able M g above r.block p r.start → r.processor ≤ p

-- every row is what a step chooses after the rows above it
abbrev pub Chosen : Model → Problem → (ℕ → ℕ → Bool) → List Row → Type 0
Chosen M g earlier rows = (above below : List Row) (r : Row) → rows ≡ above ++ (r ∷ below) → Choice M g earlier above r

-- starts never fall from row to row
abbrev pub NeverFalls : List Row → Type 0
NeverFalls rows = (above below : List Row) (r : Row) → rows ≡ above ++ (r ∷ below) → (y : Row) → In y above → y.start ≤ r.start

-- at every row's start, no block that is earlier in the order and begins later had its data on a free processor
abbrev pub NoneWaits : Model → Problem → (ℕ → ℕ → Bool) → List Row → Type 0
NoneWaits M g earlier rows =
    (above below : List Row) (r x : Row) (p : ℕ) → rows ≡ above ++ (r ∷ below) → In x rows
    → earlier x.block r.block ≡ true → r.start < x.start → p < M.processors
    → Free above p r.start → Arrived M g rows x.block p r.start → ⊥
