-- The greatest delay from one processor, and over all pairs, from the greatest of what the processors answer.
-- Assumes nothing.
use Rattle.std.proofs.Common.{◌≡◌, ℕ, ◌<◌, Ok, Err, Result, MatchResult, sym, arith}
use Rattle.std.proofs.lemmas.Bool.Decides.{nat_tests}
use Rattle.machine.specs.declared.refusal.MachineRefusal.{MachineRefusal}
use Rattle.machine.specs.Greatest.{GreatestOf, GreatestFrom, GreatestDelay, Oversized}
use Rattle.machine.specs.Model.{Model, Lawful, delay_answer}
use Rattle.machine.proofs.Answered.{told}

oversized : (m : Model) (s p q : ℕ) (why : MachineRefusal) → p < m.processors → q < m.processors → Err why ≡ delay_answer m p q s → Oversized s why
oversized m s p q why hp hq e = record { size = grind (arith, nat_tests); reason = grind (arith, nat_tests) }

pub from_one : (m : Model) (n p s : ℕ) (ok : ℕ → ℕ → Type 0) (err : ℕ → MachineRefusal → Type 0) (r : Result ℕ MachineRefusal) → Lawful m → n ≡ m.processors → ((q d : ℕ) → ok q d → Ok d ≡ delay_answer m p q s) → ((q : ℕ) (why : MachineRefusal) → err q why → Err why ≡ delay_answer m p q s) → MatchResult r (λ d. GreatestOf n ok d) (λ why. (q : ℕ) × (q < n) × err q why) → MatchResult r (λ d. GreatestFrom m p s d) (λ why. p < m.processors → Oversized s why)
from_one m n p s ok err (Ok d) l same answered refused g =
    let some = l.some in
    let best = g.reached (omega arith) in
    let at_best = told m.processors p best.0 s d (m.delay p best.0 s) (answered best.0 d best.2) in
    record {
      size = at_best.size;
      bound = λ q hq.
          let one = g.bound q (omega arith) in
          let t = told m.processors p q s one.0 (m.delay p q s) (answered q one.0 one.1) in
          omega (arith, one.2, t.value);
      reached = (best.0, at_best.to, sym at_best.value);
    }
from_one m n p s ok err (Err why) l same answered refused e =
    λ hp. oversized m s p e.0 why hp (omega (arith, e.1)) (refused e.0 why e.2)

pub from_all : (m : Model) (n s : ℕ) (ok : ℕ → ℕ → Type 0) (err : ℕ → MachineRefusal → Type 0) (r : Result ℕ MachineRefusal) → Lawful m → n ≡ m.processors → ((p d : ℕ) → ok p d → GreatestFrom m p s d) → ((p : ℕ) (why : MachineRefusal) → err p why → p < m.processors → Oversized s why) → MatchResult r (λ d. GreatestOf n ok d) (λ why. (p : ℕ) × (p < n) × err p why) → MatchResult r (λ d. GreatestDelay m s d) (λ why. Oversized s why)
from_all m n s ok err (Ok d) l same found refused g =
    let some = l.some in
    let best = g.reached (omega arith) in
    let top = found best.0 d best.2 in
    record {
      size = top.size;
      bound = λ p q hp hq.
          let one = g.bound p (omega arith) in
          let h = (found p one.0 one.1).bound q hq in
          omega (arith, one.2, h);
      reached = (best.0, top.reached.0, omega (arith, best.1), top.reached.1, top.reached.2);
    }
from_all m n s ok err (Err why) l same found refused e =
    refused e.0 why e.2 (omega (arith, e.1))
