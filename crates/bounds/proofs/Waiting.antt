-- No block that is earlier in the order waits while it could run.
use Rattle.std.proofs.Common.{◌≡◌, ℕ, ◌≤◌, Bool, ◌⊎◌, List, [], ◌∷◌, ◌++◌, refl, ap, subst, inl, inr, ⊎_elim, arith}
use Rattle.chains.specs.declared.message.Message.{Message}
use Rattle.chains.specs.Lists.{In}
use Rattle.chains.proofs.Lists.{in_append}
use Rattle.machine.specs.Model.{Model}
use Rattle.schedule.specs.declared.rows.Row.{Row}
use Rattle.schedule.specs.Problems.{Problem}
use Rattle.schedule.specs.Choices.{Able, Placed, Chosen}
use Rattle.bounds.specs.Schedules.{ChosenWaits}
use Rattle.bounds.proofs.Rising.{starts_rise}
use Rattle.bounds.proofs.Valid.{chose, above_in, chose_after, same_row}

-- what does not stand above r starts no earlier
after : (M : Model) (g : Problem) (e : ℕ → ℕ → Bool) (rows : List Row) → Chosen M g e rows → (above below : List Row) (r : Row) → rows ≡ above ++ (r ∷ below)
    → (y : Row) → In y rows → In y above ⊎ (r.start ≤ y.start)
after M g e rows c above below r s y i =
    ⊎_elim inl
    (λ j. ⊎_elim
    (λ (d : y ≡ r). let f : y.start ≡ r.start = ap (λ (w : Row). w.start) d in inr (omega arith))
    (λ k. let t = chose_after M g e rows c above below r s y k in inr (starts_rise M g e rows c t.0.above t.0.below y t.0.parts r t.1))
    j)
    (in_append y above (r ∷ below) (subst (λ (l : List Row). In y l) s i))

pub chosen_waits : ChosenWaits
chosen_waits M g e rows sound c above below r x p s i before later l idle arrived =
    let h = c above below r s in
    let of_x = (chose M g e rows c x i).choice in
    let inside = above_in M g e rows c above below r s in
    let able : Able M g above x.block p r.start = record { idle = idle; arrived = λ m j u y k f. arrived m j u y (inside y k) f } in
    let unplaced : Placed above x.block → ⊥ = λ q.
    let same : q.row ≡ x = same_row M g e rows c rows [] refl q.row x (inside q.row q.there) i q.is in
    let d : q.row.start ≡ x.start = ap (λ (w : Row). w.start) same in
    omega (arith, starts_rise M g e rows c above below r s q.row q.there) in
    let fed : (m : Message) → In m g.messages → m.to ≡ x.block → Placed above m.from = λ m j u.
    let t = chose M g e rows c x i in
    let q = t.choice.candidate.fed m j u in
    let y = q.row in
    let there : In y rows = above_in M g e rows c t.above t.below x t.parts y q.there in
    let f = (chose M g e rows c y there).choice in
    ⊎_elim (λ k. record { row = y; there = k; is = q.is })
    (λ (le : r.start ≤ y.start). absurd (omega (arith, le, f.unbroken, sound.long y.block f.candidate.known, arrived m j u y there q.is)))
    (after M g e rows c above below r s y there) in
    h.first x.block p (record { known = of_x.candidate.known; unplaced = unplaced; fed = fed }) l able before
