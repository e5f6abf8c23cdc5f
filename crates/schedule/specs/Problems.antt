-- What scheduling sees of a job: blocks, what each takes, and the messages between them.
use Rattle.std.specs.Prelude.{ℕ, ◌≤◌, List}
use Rattle.chains.specs.declared.message.Message.{Message}
use Rattle.chains.specs.Lists.{In, Apart, greatest}
use Rattle.schedule.specs.declared.rows.Row.{Row}

pub record Problem : Type 0 where
  pub blocks : List ℕ
  pub time : ℕ → ℕ
  pub messages : List Message

-- no block is listed twice, every block takes some time, and messages go between blocks of the list
pub record Sound (g : Problem) : Type 0 where
  pub once : Apart g.blocks
  pub long : (b : ℕ) → In b g.blocks → 1 ≤ g.time b
  pub joins : (m : Message) → In m g.messages → In m.from g.blocks × In m.to g.blocks

-- the length of a schedule: the greatest finish
abbrev pub length_of : List Row → ℕ
length_of rows = greatest (λ r. r.finish) rows
