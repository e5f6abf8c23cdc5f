-- Reading job words and closing the graph that they stand for.
use Rattle.std.specs.Prelude.{ℕ, List, Ok, Err, Result}
use Rattle.graph.specs.Calls.{Answer}
use Rattle.graph.specs.Refusals as graph
use Rattle.words.specs.declared.refusal.ReadRefusal.{ReadRefusal}
use Rattle.words.specs.Refusals as words
use Rattle.planner.specs.declared.intake_refusal.IntakeRefusal.{IntakeRefusal}
use Rattle.planner.specs.declared.intake_refusal.IntakeRefusal.TheVariants.{Read, Close}
use Rattle.planner.specs.State.{State}
use Rattle.planner.specs.Calls.{close, step}
use Rattle.planner.specs.Reading.{reading}

-- closing's answer, as that of the whole
abbrev pub closing_answer : Answer → Result ℕ IntakeRefusal
closing_answer (Ok n) = Ok n
closing_answer (Err why) = Err (Close why)

-- closing, unless reading was refused
abbrev pub then_close : State → Result ℕ ReadRefusal → State × Result ℕ IntakeRefusal
then_close s (Ok n) = ((step s close).0, closing_answer (step s close).1)
then_close s (Err why) = (s, Err (Read why))

abbrev pub taking_in : State → List ℕ → State × Result ℕ IntakeRefusal
taking_in s ws = then_close (reading s ws).0 (reading s ws).1

-- what a refusal is shown as: that of reading, with the graph's below it where there is one, or that of closing
abbrev pub text_of : IntakeRefusal → List ℕ
text_of (Read why) = words.text_of why
text_of (Close why) = graph.text_of why
