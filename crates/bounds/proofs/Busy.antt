-- No processor idles while a row waits: the work done by then.
use Rattle.std.proofs.Common.{◌≡◌, ℕ, zero, suc, ◌+◌, ◌-◌, ◌*◌, ◌<◌, ◌≤◌, min, max, Bool, cond, ◌⊎◌, List, [], ◌∷◌, map, sym, refl, ap, subst, inl, inr, ⊎_elim, arith}
use Rattle.std.proofs.lemmas.Bool.{cases_lt, eq-eqb, ne_eqb}
use Rattle.chains.specs.Chains.{Step}
use Rattle.chains.specs.Lists.{In, total}
use Rattle.machine.specs.Model.{Model}
use Rattle.schedule.specs.declared.rows.Row.{Row}
use Rattle.schedule.specs.Problems.{Problem}
use Rattle.schedule.specs.Placing.{free}
use Rattle.schedule.specs.Choices.{Arrived, Able, Candidate, Choice}
use Rattle.bounds.proofs.Sums.{sum_to, sum_one, sum_at_least}
use Rattle.bounds.proofs.Greedy.{Greedy}
use Rattle.bounds.proofs.Rising.{split, rising}
use Rattle.bounds.proofs.Starts.{free_le}

abbrev pub blocks_of : List Row → List ℕ
blocks_of rs = map (λ (r : Row). r.block) rs

-- the work that the rows have done by a time
abbrev pub used : List Row → ℕ → ℕ
used rs x = total (λ r. min r.finish x - min r.start x) rs

pub used_mono : (rs : List Row) (x y : ℕ) → x ≤ y → used rs x ≤ used rs y
used_mono [] x y h = omega arith
used_mono (r ∷ rs) x y h = omega (arith, used_mono rs x y h)

free_same : (r : Row) (rs : List Row) → free (r ∷ rs) r.processor ≡ max r.finish (free rs r.processor)
free_same r rs = ap (λ t. max (cond t r.finish 0) (free rs r.processor)) (eq-eqb r.processor r.processor refl)

free_other : (r : Row) (rs : List Row) (p : ℕ) → (p ≡ r.processor → ⊥) → free (r ∷ rs) p ≡ free rs p
free_other r rs p ne =
    let e : free (r ∷ rs) p ≡ max 0 (free rs p) = ap (λ t. max (cond t r.finish 0) (free rs p)) (ne_eqb r.processor p (λ e. ne (sym e))) in
    omega arith

-- what a row adds by S, over what it adds by A, covers what it moves the free time by
more : (A S st fi : ℕ) → A ≤ S → min fi A - min st A ≤ min fi S - min st S
more A S st fi le = omega arith

low : (A S st fi : ℕ) → A ≤ S → st ≤ A → min fi S + (min fi A - min st A) ≤ A + (min fi S - min st S)
low A S st fi le h = omega arith

high : (A S st fi : ℕ) → A ≤ S → A ≤ st → min fi S + (min fi A - min st A) ≤ st + (min fi S - min st S)
high A S st fi le h = omega arith

joined : (A S fi lf u v : ℕ) → A ≤ S → v ≤ u → (min fi S + v ≤ A + u) ⊎ (min fi S + v ≤ lf + u) → min S (max fi lf) - A ≤ (min S lf - A) + (u - v)
joined A S fi lf u v le vu (inl h) = omega arith
joined A S fi lf u v le vu (inr h) = omega arith

gain : (A S st fi lf : ℕ) → A ≤ S → st ≤ max A lf → min S (max fi lf) - A ≤ (min S lf - A) + ((min fi S - min st S) - (min fi A - min st A))
gain A S st fi lf le h =
    joined A S fi lf (min fi S - min st S) (min fi A - min st A) le (more A S st fi le)
    (⊎_elim (λ (l : st < A). inl (low A S st fi le (omega arith))) (λ (l : A ≤ st). ⊎_elim (λ (k : lf < A). inl (low A S st fi le (omega arith))) (λ (k : A ≤ lf). let f = high A S st fi le l in inr (omega arith)) (cases_lt lf A)) (cases_lt st A))

-- b's data is on every processor by A, as far as its senders are in rs
abbrev pub Everywhere : Model → Problem → ℕ → ℕ → List Row → Type 0
Everywhere M g b A rs = (p : ℕ) → p < M.processors → Arrived M g rs b p A

-- b could be placed now, or nothing so far starts after A
abbrev Open : Problem → ℕ → ℕ → List Row → Type 0
Open g b A rs = Candidate g rs b ⊎ ((y : Row) → In y rs → y.start ≤ A)

module _ (M : Model) (g : Problem) (earlier : ℕ → ℕ → Bool) (b A S : ℕ) (A≤S : A ≤ S) where
  able : (rs : List Row) (p : ℕ) → p < M.processors → Everywhere M g b A rs → Able M g rs b p (max A (free rs p))
  able rs p l ev = record { idle = free_le rs p (max A (free rs p)) (omega arith); arrived = λ m i e y j f. omega (arith, ev p l m i e y j f) }

  sender : (x : Row) (rs : List Row) → Choice M g earlier rs x → Everywhere M g b A (x ∷ rs) → Step g.messages x.block b → x.start ≤ A
  sender x rs c ev s = omega (arith, ev x.processor c.exists s.message s.known s.comes x (inl refl) (sym s.leaves), c.unbroken)

  soon : (x : Row) (rs : List Row) → Greedy M g earlier (x ∷ rs) → Everywhere M g b A (x ∷ rs) → Open g b A (x ∷ rs) → x.start ≤ max A (free rs x.processor)
  soon x rs h ev (inr all) = omega (arith, all x (inl refl))
  soon x rs h ev (inl c) =
      ⊎_elim (λ k. h.0.least b x.processor (max A (free rs x.processor)) k h.0.exists (able rs x.processor h.0.exists (λ p l m i e y j. ev p l m i e y (inr j))))
      (λ s. omega (arith, sender x rs h.0 ev s)) (split M g x rs b c)

  open_tail : (x : Row) (rs : List Row) → Greedy M g earlier (x ∷ rs) → Everywhere M g b A (x ∷ rs) → Open g b A (x ∷ rs) → Open g b A rs
  open_tail x rs h ev (inr all) = inr (λ y i. all y (inr i))
  open_tail x rs h ev (inl c) =
      ⊎_elim inl (λ s. inr (λ y i. omega (arith, sender x rs h.0 ev s, rising M g earlier x rs h y i))) (split M g x rs b c)

  abbrev reached : List Row → ℕ → ℕ
  reached rs p = min S (free rs p) - A

  busy : (rs : List Row) → Greedy M g earlier rs → Everywhere M g b A rs → Open g b A rs → used rs A + sum_to M.processors (reached rs) ≤ used rs S
  busy [] h ev o = omega (arith, none M.processors)
    where
      none : (n : ℕ) → sum_to n (reached []) ≤ 0
      none zero = omega arith
      none (suc n) = omega (arith, none n)
  busy (x ∷ rs) h ev o =
      let ev' : Everywhere M g b A rs = λ p l m i e y j. ev p l m i e y (inr j) in
      let before : used rs A + sum_to M.processors (reached rs) ≤ used rs S = busy rs h.1 ev' (open_tail x rs h ev o) in
      let d = (min x.finish S - min x.start S) - (min x.finish A - min x.start A) in
      let here : reached (x ∷ rs) x.processor ≤ reached rs x.processor + d =
      subst (λ (n : ℕ). min S n - A ≤ reached rs x.processor + d) (sym (free_same x rs)) (gain A S x.start x.finish (free rs x.processor) A≤S (soon x rs h ev o)) in
      let rest : sum_to M.processors (reached (x ∷ rs)) ≤ sum_to M.processors (reached rs) + d =
      sum_one M.processors (reached (x ∷ rs)) (reached rs) x.processor d (λ p ne. omega (arith, free_other x rs p ne)) here in
      omega (arith, before, rest, more A S x.start x.finish A≤S)

-- the work done by the start of a row, over that done d earlier
pub waited : (M : Model) (g : Problem) (earlier : ℕ → ℕ → Bool) (r : Row) (rs : List Row) (A d : ℕ) → Greedy M g earlier (r ∷ rs)
    → Everywhere M g r.block A rs → r.start ≡ A + d → used rs A + M.processors * d ≤ used rs r.start
waited M g earlier r rs A d h ev is =
    let S = r.start in
    let le : A ≤ S = omega arith in
    let each : (p : ℕ) → p < M.processors → d ≤ reached M g earlier r.block A S le rs p =
    λ p l. omega (arith, h.0.least r.block p (max A (free rs p)) h.0.candidate l (able M g earlier r.block A S le rs p l ev)) in
    omega (arith, sum_at_least M.processors d (reached M g earlier r.block A S le rs) each, busy M g earlier r.block A S le rs h.1 ev (inl h.0.candidate))
