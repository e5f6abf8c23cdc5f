-- A machine near the limit of delays. Assumes nothing.
use Rattle.std.specs.Prelude.{cond, ◌==◌}
use Rattle.machine.specs.Model.{Model}

-- two processors, 999,999,998 from one to the other, and no other times
abbrev pub distant : Model
distant = record {
  processors = 2;
  delay = λ p q _. cond (p == q) 0 999999998;
  startup = 0;
  reading = λ _. 0;
  writing = λ _. 0;
}
