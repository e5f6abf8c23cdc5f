-- Starts never fall.
use Rattle.std.proofs.Common.{◌≡◌, ℕ, ◌≤◌, Bool, ◌⊎◌, List, [], ◌∷◌, sym, refl, ap, ◌∙◌, subst, inl, inr, ⊎_elim, arith}
use Rattle.std.proofs.lemmas.Bool.{cases_eq}
use Rattle.chains.specs.declared.message.Message.{Message}
use Rattle.chains.specs.Chains.{Step}
use Rattle.chains.specs.Lists.{In}
use Rattle.machine.specs.Model.{Model}
use Rattle.schedule.specs.declared.rows.Row.{Row}
use Rattle.schedule.specs.Problems.{Problem}
use Rattle.schedule.specs.Choices.{Placed, Candidate, Choice}
use Rattle.bounds.specs.Schedules.{StartsRise}
use Rattle.bounds.proofs.Sums.{either}
use Rattle.bounds.proofs.Greedy.{Greedy, turned, turned_alike, placed_in, able_in, greedy_at}

module _ (M : Model) (g : Problem) where
  -- a candidate after r was one before, or r is its sender
  pub split : (r : Row) (rs : List Row) (b : ℕ) → Candidate g (r ∷ rs) b → Candidate g rs b ⊎ Step g.messages r.block b
  split r rs b c =
      let one : (m : Message) → In m g.messages → (m.to ≡ b → Placed rs m.from) ⊎ ((m.to ≡ b) × (m.from ≡ r.block)) =
      λ m i. ⊎_elim
      (λ (e : m.to ≡ b). let p = c.fed m i e in
      ⊎_elim (λ (f : p.row ≡ r). inr (e, sym p.is ∙ ap (λ (x : Row). x.block) f)) (λ j. inl (λ _. record { row = p.row; there = j; is = p.is })) p.there)
      (λ (ne : m.to ≡ b → ⊥). inl (λ e. absurd (ne e)))
      (cases_eq m.to b) in
      ⊎_elim
      (λ all. inl (record { known = c.known; unplaced = λ p. c.unplaced (placed_in rs (r ∷ rs) (λ y i. inr i) b p); fed = all }))
      (λ t. inr (record { message = t.0; known = t.1; leaves = t.2.1; comes = t.2.0 }))
      (either (λ (m : Message). m.to ≡ b → Placed rs m.from) (λ (m : Message). (m.to ≡ b) × (m.from ≡ r.block)) g.messages one)

  module _ (earlier : ℕ → ℕ → Bool) where
    -- a row's start is at least that of the row above
    next : (r q : Row) (rs : List Row) → Choice M g earlier (q ∷ rs) r → Choice M g earlier rs q → q.start ≤ r.start
    next r q rs c d =
        ⊎_elim
        (λ k. d.least r.block r.processor r.start k c.exists (able_in M g rs (q ∷ rs) (λ y i. inr i) r.block r.processor r.start c.able))
        (λ (s : Step g.messages q.block r.block). omega (arith, c.able.arrived s.message s.known s.comes q (inl refl) (sym s.leaves), d.unbroken))
        (split q rs r.block c.candidate)

    pub rising : (r : Row) (rs : List Row) → Greedy M g earlier (r ∷ rs) → (y : Row) → In y rs → y.start ≤ r.start
    rising r [] h y i = absurd i
    rising r (q ∷ rs) h y i =
        let here : q.start ≤ r.start = next r q rs h.0 h.1.0 in
        ⊎_elim (λ (e : y ≡ q). subst (λ (x : Row). x.start ≤ r.start) (sym e) here) (λ j. omega (arith, here, rising q rs h.1 y j)) i

pub starts_rise : StartsRise
starts_rise M g e rows c above below r s y i = rising M g e r (turned above) (greedy_at M g e rows c above below r s) y ((turned_alike above).1 y i)
