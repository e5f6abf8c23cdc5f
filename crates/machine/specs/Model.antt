-- What a machine means, the laws of every machine, and what a question to a machine is answered. Assumes nothing.
use Rattle.std.specs.Prelude.{◌≡◌, ℕ, ◌<◌, ◌≤◌, cond, Ok, Err, Result, nat_le, nat_lt}
use Rattle.machine.specs.declared.refusal.MachineRefusal.{MachineRefusal}
use Rattle.machine.specs.declared.refusal.MachineRefusal.TheVariants.{NoSuchProcessor, SizeTooLarge}

-- The meaning of a machine: how many processors it has, numbered from 0; the delay from a processor to a processor
-- for a size; the starting time; the reading and the writing time for a size.
-- A delay counts only for processors below `processors`, and a time only for a size of at most 1,000,000.
pub record Model : Type 0 where
  pub processors : ℕ
  pub delay : ℕ → ℕ → ℕ → ℕ
  pub startup : ℕ
  pub reading : ℕ → ℕ
  pub writing : ℕ → ℕ

-- The laws of every machine: 1 to 32 processors; no delay from a processor to itself; no delay above 1,000,000,000;
-- a starting time of at most 100,000; reading and writing times of at most 100,000,000.
pub record Lawful (m : Model) : Type 0 where
  pub some : 1 ≤ m.processors
  pub few : m.processors ≤ 32
  pub still : (p s : ℕ) → p < m.processors → s ≤ 1000000 → m.delay p p s ≡ 0
  pub near : (p q s : ℕ) → p < m.processors → q < m.processors → s ≤ 1000000 → m.delay p q s ≤ 1000000000
  pub prompt : m.startup ≤ 100000
  pub reads : (s : ℕ) → s ≤ 1000000 → m.reading s ≤ 100000000
  pub writes : (s : ℕ) → s ≤ 1000000 → m.writing s ≤ 100000000

-- x, unless the size s is above its limit
abbrev pub sized : {X : Type 0} → ℕ → X → Result X MachineRefusal
sized s x = cond (nat_le s 1000000) (Ok x) (Err SizeTooLarge)

-- x, unless one of n processors is asked for that is not there, the first named first, or the size s is above its limit
abbrev pub asked : {X : Type 0} → ℕ → ℕ → ℕ → ℕ → X → Result X MachineRefusal
asked n p q s x =
    cond (nat_lt p n) (cond (nat_lt q n) (sized s x) (Err (NoSuchProcessor q))) (Err (NoSuchProcessor p))

-- what the question for a delay from p to q for the size s is answered
abbrev pub delay_answer : Model → ℕ → ℕ → ℕ → Result ℕ MachineRefusal
delay_answer m p q s = asked m.processors p q s (m.delay p q s)

-- what the question for the reading time for the size s is answered
abbrev pub reading_answer : Model → ℕ → Result ℕ MachineRefusal
reading_answer m s = sized s (m.reading s)

-- what the question for the writing time for the size s is answered
abbrev pub writing_answer : Model → ℕ → Result ℕ MachineRefusal
writing_answer m s = sized s (m.writing s)
