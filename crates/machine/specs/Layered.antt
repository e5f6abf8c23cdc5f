-- The layers keep the laws of a machine. Assumes nothing.
use Rattle.std.specs.Prelude.{ℕ, ◌<◌, ◌≤◌, ◌==◌, refl}
use Rattle.std.proofs.Common.{arith}
use Rattle.std.proofs.lemmas.Bool.{eq-eqb, cond_both, cond-true}
use Rattle.std.proofs.lemmas.Bool.Decides.{nat_tests}
use Rattle.machine.specs.Layers.{lengthened, waited, lowered, withheld}
use Rattle.machine.specs.Model.{Model, Lawful}

pub waited_lawful : (w : ℕ) (m : Model) → Lawful m → Lawful (waited w m)
waited_lawful w m l = record {
  some = l.some;
  few = l.few;
  still = λ p s _ _. cond-true (p == p) 0 (lengthened w (m.delay p p s)) (eq-eqb p p refl);
  near = λ p q s _ _ _. cond_both (p == q) 0 (lengthened w (m.delay p q s)) (λ x. x ≤ 1000000000) (λ _. omega arith) (λ _. omega arith);
  prompt = l.prompt;
  reads = l.reads;
  writes = l.writes;
}

-- a processor that is left is one of the machine below
pub lowered_lt : (h : ℕ) (m : Model) (p : ℕ) → p < (withheld h m).processors → lowered h m p < m.processors
lowered_lt h m p = grind (arith, nat_tests)

pub withheld_lawful : (h : ℕ) (m : Model) → Lawful m → Lawful (withheld h m)
withheld_lawful h m l =
    let lo : 1 ≤ m.processors = l.some in
    let hi : m.processors ≤ 32 = l.few in record {
      some = grind (arith, nat_tests);
      few = grind (arith, nat_tests);
      still = λ p s hp hs. l.still (lowered h m p) s (lowered_lt h m p hp) hs;
      near = λ p q s hp hq hs. l.near (lowered h m p) (lowered h m q) s (lowered_lt h m p hp) (lowered_lt h m q hq) hs;
      prompt = l.prompt;
      reads = l.reads;
      writes = l.writes;
    }
