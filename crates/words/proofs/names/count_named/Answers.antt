use Rattle.std.proofs.Common.{◌≡◌, ℕ, ◌+◌, ◌-◌, ◌<◌, ◌≤◌, List, get_or, sym, ap, ◌∙◌, subst, inl, inr, arith}
use Rattle.words.proofs.Counting.{Counted, Bumped, bumped_low, counted_none, counted_step}
use Rattle.words.proofs.names.count_named.Goals as goal
use Rattle.words.proofs.names.count_named.Goals.{then-link-lt1025, else-link-lt1025, else-loop-number-test, then-loop-number-test+else-number-count}

-- the counts after one number more
counted_more : (names : ℕ → ℕ) (E T T' : List ℕ) (n k m : ℕ) → 1 ≤ n → n ≡ k → m ≡ names n → Bumped T T' m → Counted (λ i. names (i + 1)) E T (n - 1) → Counted (λ i. names (i + 1)) E T' k
counted_more names E T T' n k m lo e is step c =
    let b : n - 1 + 1 ≡ n = omega arith in
    subst (Counted (λ i. names (i + 1)) E T') (b ∙ e) (counted_step (λ i. names (i + 1)) E T T' (n - 1) m (ap names b ∙ sym is) step c)

pub loop-number-init : goal.loop-number-init
loop-number-init g c = record { near = omega arith; long = c.told-counts; low = c.requires.low; counted = λ names tells. counted_none (λ i. names (i + 1)) c.args.counts.now c.told-counts }

pub loop-number-preserved : goal.loop-number-preserved
loop-number-preserved g c =
    let n = c.loop-number.number in
    let lo : 1 ≤ n = omega arith in
    let step : Bumped c.loop-number.counts c.if-link-lt1025.counts c.named_by-link.result =
    elim c.if-link-lt1025.branch [
      | then-link-lt1025 w ↦ inl (w.if-link-lt1025.true, w.counts-is)
      | else-link-lt1025 w ↦ inr (w.if-link-lt1025.false, w.counts-is)
    ] in
    let low : (k : ℕ) → k < 1025 → get_or c.if-link-lt1025.counts k 0 ≤ 1023 + n + 1 = bumped_low c.loop-number.counts c.if-link-lt1025.counts c.named_by-link.result (1023 + n) c.loop-number.invariant.long step c.loop-number.invariant.low in
    record {
      near = omega arith;
      long = c.if-link-lt1025.array_long;
      low = λ k l. omega (arith, low k l);
      counted = λ names tells. counted_more names c.args.counts.now c.loop-number.counts c.if-link-lt1025.counts n (n + 1 - 1) c.named_by-link.result lo (omega arith)
          (tells n c.named_by-link.result lo c.loop-number-test.true c.named_by-link.ensures) step (c.loop-number.invariant.counted names tells);
    }

pub returns : goal.returns
returns g c = λ names tells l lt.
    let n = c.loop-number.number in
    let lo : 1 ≤ n = omega arith in
    let all : Counted (λ i. names (i + 1)) c.args.counts.now c.loop-number-test.counts c.args.count =
    elim c.loop-number-test.branch [
      | else-loop-number-test w ↦
          (let e : n - 1 ≡ c.args.count = omega (arith, c.loop-number.invariant.near) in
          subst (λ T. Counted (λ i. names (i + 1)) c.args.counts.now T c.args.count) (sym w.counts-is) (subst (Counted (λ i. names (i + 1)) c.args.counts.now c.loop-number.counts) e (c.loop-number.invariant.counted names tells)))
      | then-loop-number-test+else-number-count w ↦
          counted_more names c.args.counts.now c.loop-number.counts c.loop-number-test.counts n c.args.count w.named_by-link.result lo (omega (arith, c.loop-number.invariant.near))
          (tells n w.named_by-link.result lo w.loop-number-test.true w.named_by-link.ensures)
          (elim w.if-link-lt1025.branch [
            | then-link-lt1025 w' ↦ inl (w'.if-link-lt1025.true, w.counts-is ∙ w'.counts-is)
            | else-link-lt1025 w' ↦ inr (w'.if-link-lt1025.false, w.counts-is ∙ w'.counts-is)
          ])
          (c.loop-number.invariant.counted names tells)
    ] in
    all.1 l lt
