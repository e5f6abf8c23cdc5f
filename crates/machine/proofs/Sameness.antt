-- To mean the same is to answer alike whatever is asked. Assumes nothing.
use Rattle.std.proofs.Common.{◌≡◌, ℕ, ◌<◌, ◌≤◌, sym, refl, ap, ◌∙◌, inl, inr, arith}
use Rattle.std.proofs.lemmas.Bool.{cases_lt}
use Rattle.std.proofs.lemmas.Bool.Decides.{nat_tests}
use Rattle.machine.specs.Model.{Model, asked, sized}
use Rattle.machine.specs.Same.{Same, Alike, SameLaws}

sized_alike : (s x y : ℕ) → (s ≤ 1000000 → x ≡ y) → sized s x ≡ sized s y
sized_alike s x y h =
    elim (cases_lt 1000000 s) [ inl far ↦ grind (arith, nat_tests) | inr near ↦ ap (sized s) (h near) ]

asked_alike : (n p q s x y : ℕ) → (p < n → q < n → s ≤ 1000000 → x ≡ y) → asked n p q s x ≡ asked n p q s y
asked_alike n p q s x y h =
    elim (cases_lt p n) [
      | inl hp ↦ elim (cases_lt q n) [
        | inl hq ↦ elim (cases_lt 1000000 s) [ inl far ↦ grind (arith, nat_tests) | inr near ↦ ap (asked n p q s) (h hp hq near) ]
        | inr no_q ↦ grind (arith, nat_tests)
      ]
      | inr no_p ↦ grind (arith, nat_tests)
    ]

alike : (m n : Model) → Same m n → (p q s : ℕ) → Alike m n p q s
alike m n e p q s = record {
  processors = e.processors;
  delay = asked_alike m.processors p q s (m.delay p q s) (n.delay p q s) (e.delay p q s) ∙ ap (λ k. asked k p q s (n.delay p q s)) e.processors;
  startup = e.startup;
  reading = sized_alike s (m.reading s) (n.reading s) (e.reading s);
  writing = sized_alike s (m.writing s) (n.writing s) (e.writing s);
}

sized_same : (s x y : ℕ) → sized s x ≡ sized s y → s ≤ 1000000 → x ≡ y
sized_same s x y e h = grind (arith, nat_tests)

asked_same : (k n p q s x y : ℕ) → k ≡ n → asked k p q s x ≡ asked n p q s y → p < k → q < k → s ≤ 1000000 → x ≡ y
asked_same k n p q s x y same e hp hq hs = grind (arith, nat_tests)

same : (m n : Model) → ((p q s : ℕ) → Alike m n p q s) → Same m n
same m n a =
    let equal = (a 0 0 0).processors in record {
      processors = equal;
      delay = λ p q s hp hq hs. asked_same m.processors n.processors p q s (m.delay p q s) (n.delay p q s) equal (a p q s).delay hp hq hs;
      startup = (a 0 0 0).startup;
      reading = λ s hs. sized_same s (m.reading s) (n.reading s) (a 0 0 s).reading hs;
      writing = λ s hs. sized_same s (m.writing s) (n.writing s) (a 0 0 s).writing hs;
    }

reflexive : (m : Model) → Same m m
reflexive m = same m m (λ p q s. record { processors = refl; delay = refl; startup = refl; reading = refl; writing = refl })

symmetric : (m n : Model) → Same m n → Same n m
symmetric m n e =
    same n m (λ p q s.
    let a = alike m n e p q s in
    record { processors = sym a.processors; delay = sym a.delay; startup = sym a.startup; reading = sym a.reading; writing = sym a.writing })

transitive : (l m n : Model) → Same l m → Same m n → Same l n
transitive l m n e f =
    same l n (λ p q s.
    let a = alike l m e p q s in
    let b = alike m n f p q s in
    record { processors = a.processors ∙ b.processors; delay = a.delay ∙ b.delay; startup = a.startup ∙ b.startup; reading = a.reading ∙ b.reading; writing = a.writing ∙ b.writing })

pub same_laws : SameLaws
same_laws = record { alike = alike; same = same; reflexive = reflexive; symmetric = symmetric; transitive = transitive }
