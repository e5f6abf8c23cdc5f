-- Valid schedules, and rivals.
use Rattle.std.specs.Prelude.{◌≡◌, ℕ, ◌+◌, ◌<◌, ◌≤◌, ◌⊎◌, List, [], ◌∷◌, map}
use Rattle.chains.specs.declared.message.Message.{Message}
use Rattle.chains.specs.Lists.{In, Apart}
use Rattle.machine.specs.Model.{Model}
use Rattle.schedule.specs.declared.rows.Row.{Row}
use Rattle.schedule.specs.Problems.{Problem}
use Rattle.schedule.specs.Choices.{Placed}

-- one block at a time on a processor: of two rows there, one finishes before the other starts, or as it starts
abbrev pub OneAtATime : List Row → Type 0
OneAtATime [] = Unit {0}
OneAtATime (r ∷ rows) = ((y : Row) → In y rows → y.processor ≡ r.processor → (y.finish ≤ r.start) ⊎ (r.finish ≤ y.start)) × OneAtATime rows

-- A schedule of the blocks on the machine, its rows in any order: every block exactly once, on a processor that
-- exists, for its block time without a break, one block at a time on a processor, and no block before all its data
-- has arrived there.
pub record Valid (M : Model) (g : Problem) (rows : List Row) : Type 0 where
  pub every : (b : ℕ) → In b g.blocks → Placed rows b
  pub only : (r : Row) → In r rows → In r.block g.blocks
  pub once : Apart (map (λ (r : Row). r.block) rows)
  pub exists : (r : Row) → In r rows → r.processor < M.processors
  pub unbroken : (r : Row) → In r rows → r.finish ≡ r.start + g.time r.block
  pub alone : OneAtATime rows
  pub arrived : (m : Message) → In m g.messages → (x y : Row) → In x rows → In y rows → x.block ≡ m.from → y.block ≡ m.to
      → x.finish + M.delay x.processor y.processor m.size ≤ y.start

-- the same machine with data that needs no time
abbrev pub silent : Model → Model
silent M = record { processors = M.processors; delay = λ p q s. 0; startup = M.startup; reading = M.reading; writing = M.writing }

-- a rival: any valid schedule of the blocks when messages take no time; its numbers have no upper limit
abbrev pub Rival : Model → Problem → List Row → Type 0
Rival M g rows = Valid (silent M) g rows
