-- The questions that machines answer: sizes of messages, and processors of rows.
use Rattle.std.specs.Prelude.{ℕ, ◌<◌, ◌≤◌, List, unwrap_or}
use Rattle.std.specs.Result.{result_ok}
use Rattle.chains.specs.declared.message.Message.{Message}
use Rattle.chains.specs.Lists.{In}
use Rattle.machine.specs.Model.{Model, delay_answer}
use Rattle.schedule.specs.declared.rows.Row.{Row}

-- machines answer for every message's size
abbrev pub Answerable : List Message → Type 0
Answerable ms = (m : Message) → In m ms → m.size ≤ 1000000

-- every row is on one of so many processors
abbrev pub Housed : ℕ → List Row → Type 0
Housed processors rows = (r : Row) → In r rows → r.processor < processors

-- a machine by what it answers, with 0 for a delay that it refuses
abbrev pub told : Model → Model
told M = record {
  processors = M.processors;
  delay = λ p q s. unwrap_or (result_ok (delay_answer M p q s)) 0;
  startup = M.startup;
  reading = M.reading;
  writing = M.writing;
}
