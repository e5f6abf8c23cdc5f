use Rattle.std.proofs.Common.{◌≡◌, ℕ, ◌+◌, max, subst, inl, inr, arith, rules}
use Rattle.std.proofs.lemmas.Bool.{cases_lt}
use Rattle.machine.specs.Greatest.{GreatestOf}
use Rattle.machine.proofs.greatest.greatest_of.Goals as goal

-- one more processor, which has x
more : (n : ℕ) (has : ℕ → ℕ → Type 0) (d x m : ℕ) → m ≡ max d x → GreatestOf n has d → (n ≡ 0 → d ≡ 0) → has n x → GreatestOf (n + 1) has m
more n has d x m is g none h = record {
  bound = λ p hp. elim (cases_lt p n) [
    | inl below ↦ let b = g.bound p below in (b.0, b.1, omega (arith, b.2))
    | inr last ↦ (x, let e : n ≡ p = omega arith in subst (λ q. has q x) e h, omega arith)
  ];
  reached = λ _. elim (cases_lt d x) [
    | inl above ↦ (n, omega arith, let e : x ≡ m = omega arith in subst (has n) e h)
    | inr under ↦ elim (cases_lt 0 n) [
      | inl some ↦ let r = g.reached some in (r.0, omega (arith, r.1), let e : d ≡ m = omega arith in subst (has r.0) e r.2)
      | inr first ↦ (n, omega arith, let z : d ≡ 0 = none (omega arith) in let e : x ≡ m = omega arith in subst (has n) e h)
    ]
  ];
}

pub loop-processor-preserved : goal.loop-processor-preserved
loop-processor-preserved g c =
    let i = c.loop-processor.invariant in
    (more c.loop-processor.processor _ c.loop-processor.greatest c.in_ok-answer.field-0 c.max-greatest.result (search rules) i.0 i.1 c.in_ok-answer.ensures, omega arith)
