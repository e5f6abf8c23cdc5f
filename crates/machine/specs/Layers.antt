-- The two layers over any machine. Assumes nothing.
use Rattle.std.specs.Prelude.{ℕ, ◌+◌, ◌-◌, min, Bool, cond, ◌&&◌, ◌==◌, nat_le, nat_lt}
use Rattle.machine.specs.Model.{Model}

-- a delay and a wait w, up to 1,000,000,000; a wait above 1,000,000 counts as 1,000,000
abbrev pub lengthened : ℕ → ℕ → ℕ
lengthened w delay = min (delay + min w 1000000) 1000000000

-- m with a wait w before each delay between different processors
abbrev pub waited : ℕ → Model → Model
waited w m = record {
  processors = m.processors;
  delay = λ p q s. cond (p == q) 0 (lengthened w (m.delay p q s));
  startup = m.startup;
  reading = m.reading;
  writing = m.writing;
}

-- whether m has a processor h that can be hidden, so that another is left
abbrev pub hides : ℕ → Model → Bool
hides h m = nat_lt 1 m.processors && nat_lt h m.processors

-- the number in m of a processor p of m without h: one more from h upward
abbrev pub lowered : ℕ → Model → ℕ → ℕ
lowered h m p = cond (hides h m) (cond (nat_le h p) (p + 1) p) p

-- m without its processor h, where it can be hidden, else m
abbrev pub withheld : ℕ → Model → Model
withheld h m = record {
  processors = cond (hides h m) (m.processors - 1) m.processors;
  delay = λ p q s. m.delay (lowered h m p) (lowered h m q) s;
  startup = m.startup;
  reading = m.reading;
  writing = m.writing;
}
