-- Chosen rows that leave no block out are a valid schedule.
use Rattle.std.proofs.Common.{◌≡◌, ℕ, ◌+◌, ◌≤◌, Bool, List, [], ◌∷◌, ◌++◌, map, sym, refl, ap, ◌∙◌, subst, inl, inr, ⊎_elim, append_assoc}
use Rattle.chains.specs.declared.message.Message.{Message}
use Rattle.chains.specs.Lists.{In, Apart}
use Rattle.chains.proofs.Lists.{in_left, in_right, of_map}
use Rattle.machine.specs.Model.{Model}
use Rattle.schedule.specs.declared.rows.Row.{Row}
use Rattle.schedule.specs.Problems.{Problem}
use Rattle.schedule.specs.Choices.{Placed, Choice, Chosen}
use Rattle.schedule.specs.Valid.{OneAtATime, Valid}
use Rattle.bounds.specs.Schedules.{ChosenValid}
use Rattle.bounds.proofs.Splits.{split_at}

module _ (M : Model) (g : Problem) (e : ℕ → ℕ → Bool) (rows : List Row) (c : Chosen M g e rows) where
  -- where a row was chosen
  pub record Chose (y : Row) : Type 0 where
    pub above : List Row
    pub below : List Row
    pub parts : rows ≡ above ++ (y ∷ below)
    pub choice : Choice M g e above y

  pub chose : (y : Row) → In y rows → Chose y
  chose y i = let t = split_at y rows i in record { above = t.0; below = t.1; parts = t.2; choice = c t.0 t.1 y t.2 }

  pub above_in : (above below : List Row) (r : Row) → rows ≡ above ++ (r ∷ below) → (y : Row) → In y above → In y rows
  above_in above below r s y i = subst (λ (l : List Row). In y l) (sym s) (in_left y above (r ∷ below) i)

  -- what stands below a row was chosen after it
  pub chose_after : (above rest : List Row) (r : Row) → rows ≡ above ++ (r ∷ rest) → (y : Row) → In y rest → (t : Chose y) × In r t.above
  chose_after above rest r s y i =
      let t = split_at y rest i in
      let mid = above ++ (r ∷ t.0) in
      let parts : rows ≡ mid ++ (y ∷ t.1) = s ∙ ap (λ (l : List Row). above ++ (r ∷ l)) t.2 ∙ sym (append_assoc above (r ∷ t.0) (y ∷ t.1)) in
      (record { above = mid; below = t.1; parts = parts; choice = c mid t.1 y parts }, in_right r above (r ∷ t.0) (inl refl))

  once : (above rest : List Row) → rows ≡ above ++ rest → Apart (map (λ (r : Row). r.block) rest)
  once above [] s = tt
  once above (r ∷ rest) s = (
    λ i. let p = of_map (λ (x : Row). x.block) r.block rest i in
        let t = chose_after above rest r s p.0 p.1 in
        t.0.choice.candidate.unplaced (record { row = r; there = t.1; is = p.2 }),
    once (above ++ (r ∷ [])) rest (s ∙ sym (append_assoc above (r ∷ []) rest)),
  )

  alone : (above rest : List Row) → rows ≡ above ++ rest → OneAtATime rest
  alone above [] s = tt
  alone above (r ∷ rest) s = (
    λ y i f. let t = chose_after above rest r s y i in inr (t.0.choice.able.idle r t.1 (sym f)),
    alone (above ++ (r ∷ [])) rest (s ∙ sym (append_assoc above (r ∷ []) rest)),
  )

  -- a block has one row
  pub same_row : (rest above : List Row) → rows ≡ above ++ rest → (y z : Row) → In y rest → In z rest → y.block ≡ z.block → y ≡ z
  same_row [] above s y z i j f = absurd i
  same_row (q ∷ rest) above s y z i j f =
      let fresh : (w v : Row) → w ≡ q → In v rest → w.block ≡ v.block → ⊥ = λ w v d k u.
      let t = chose_after above rest q s v k in
      t.0.choice.candidate.unplaced (record { row = q; there = t.1; is = ap (λ (x : Row). x.block) (sym d) ∙ u }) in
      ⊎_elim
      (λ (d : y ≡ q). ⊎_elim (λ (u : z ≡ q). d ∙ sym u) (λ k. absurd (fresh y z d k f)) j)
      (λ k. ⊎_elim (λ (u : z ≡ q). absurd (fresh z y u k (sym f))) (λ l. same_row rest (above ++ (q ∷ [])) (s ∙ sym (append_assoc above (q ∷ []) rest)) y z k l f) j)
      i

  arrives : (m : Message) → In m g.messages → (x y : Row) → In x rows → In y rows → x.block ≡ m.from → y.block ≡ m.to
      → x.finish + M.delay x.processor y.processor m.size ≤ y.start
  arrives m k x y i j u v =
      let t = chose y j in
      let p = t.choice.candidate.fed m k (sym v) in
      let same : p.row ≡ x = same_row rows [] refl p.row x (above_in t.above t.below y t.parts p.row p.there) i (p.is ∙ sym u) in
      t.choice.able.arrived m k (sym v) x (subst (λ (z : Row). In z t.above) same p.there) u

  pub valid_from : ((b : ℕ) → In b g.blocks → Placed rows b) → Valid M g rows
  valid_from full = record {
    every = full;
    only = λ r i. (chose r i).choice.candidate.known;
    once = once [] rows refl;
    exists = λ r i. (chose r i).choice.exists;
    unbroken = λ r i. (chose r i).choice.unbroken;
    alone = alone [] rows refl;
    arrived = arrives;
  }

  pub blocks_once : Apart (map (λ (r : Row). r.block) rows)
  blocks_once = once [] rows refl

pub chosen_valid : ChosenValid
chosen_valid M g e rows c full = valid_from M g e rows c full
