-- Chosen rows with the newest first, and what of a choice depends only on which rows stand above.
use Rattle.std.proofs.Common.{◌≡◌, ℕ, Bool, List, [], ◌∷◌, ◌++◌, sym, ◌∙◌, subst, inl, inr, ⊎_elim, append_assoc, append-nil}
use Rattle.chains.specs.Lists.{In}
use Rattle.chains.proofs.Lists.{in_left, in_right, in_append}
use Rattle.machine.specs.Model.{Model}
use Rattle.schedule.specs.declared.rows.Row.{Row}
use Rattle.schedule.specs.Problems.{Problem}
use Rattle.schedule.specs.Choices.{Able, Placed, Candidate, Choice, Chosen}
use Rattle.bounds.proofs.Splits.{not_empty, with_last}

-- the same rows
abbrev pub Alike : List Row → List Row → Type 0
Alike xs ys = ((y : Row) → In y xs → In y ys) × ((y : Row) → In y ys → In y xs)

pub placed_in : (xs ys : List Row) → ((y : Row) → In y xs → In y ys) → (b : ℕ) → Placed xs b → Placed ys b
placed_in xs ys h b p = record { row = p.row; there = h p.row p.there; is = p.is }

pub able_in : (M : Model) (g : Problem) (xs ys : List Row) → ((y : Row) → In y xs → In y ys) → (b p s : ℕ) → Able M g ys b p s → Able M g xs b p s
able_in M g xs ys h b p s a = record { idle = λ r i. a.idle r (h r i); arrived = λ m i e y j. a.arrived m i e y (h y j) }

candidate_in : (g : Problem) (xs ys : List Row) → Alike xs ys → (b : ℕ) → Candidate g xs b → Candidate g ys b
candidate_in g xs ys a b c = record {
  known = c.known;
  unplaced = λ p. c.unplaced (placed_in ys xs a.1 b p);
  fed = λ m i e. placed_in xs ys a.0 m.from (c.fed m i e);
}

pub choice_in : (M : Model) (g : Problem) (e : ℕ → ℕ → Bool) (xs ys : List Row) → Alike xs ys → (r : Row) → Choice M g e xs r → Choice M g e ys r
choice_in M g e xs ys a r c =
    let back : Alike ys xs = (a.1, a.0) in
    record {
      candidate = candidate_in g xs ys a r.block c.candidate;
      exists = c.exists;
      able = able_in M g ys xs a.1 r.block r.processor r.start c.able;
      unbroken = c.unbroken;
      least = λ b p s k l h. c.least b p s (candidate_in g ys xs back b k) l (able_in M g xs ys a.0 b p s h);
      first = λ b p k l h. c.first b p (candidate_in g ys xs back b k) l (able_in M g xs ys a.0 b p r.start h);
      lowest = λ p l h. c.lowest p l (able_in M g xs ys a.0 r.block p r.start h);
    }

-- each row is what a step chooses after the rest
abbrev pub Greedy : Model → Problem → (ℕ → ℕ → Bool) → List Row → Type 0
Greedy M g e [] = Unit {0}
Greedy M g e (r ∷ rs) = Choice M g e rs r × Greedy M g e rs

-- the rows one by one put in front
abbrev onto : List Row → List Row → List Row
onto acc [] = acc
onto acc (r ∷ rows) = onto (r ∷ acc) rows

-- newest first
abbrev pub turned : List Row → List Row
turned rows = onto [] rows

onto_alike : (rows acc done : List Row) → Alike acc done → Alike (onto acc rows) (done ++ rows)
onto_alike [] acc done a =
    (λ y i. in_left y done [] (a.0 y i), λ y i. ⊎_elim (a.1 y) (λ j. absurd j) (in_append y done [] i))
onto_alike (r ∷ rows) acc done a =
    let next : Alike (r ∷ acc) (done ++ (r ∷ [])) = (
      λ y i. ⊎_elim (λ (e : y ≡ r). in_right y done (r ∷ []) (inl e)) (λ j. in_left y done (r ∷ []) (a.0 y j)) i,
      λ y i. ⊎_elim (λ j. inr (a.1 y j)) (λ j. ⊎_elim (λ (e : y ≡ r). inl e) (λ k. absurd k) j) (in_append y done (r ∷ []) i),
    ) in
    let t = onto_alike rows (r ∷ acc) (done ++ (r ∷ [])) next in
    subst (λ (l : List Row). Alike (onto acc (r ∷ rows)) l) (append_assoc done (r ∷ []) rows) t

pub turned_alike : (rows : List Row) → Alike (turned rows) rows
turned_alike rows = onto_alike rows [] [] (λ y i. i, λ y i. i)

module _ (M : Model) (g : Problem) (e : ℕ → ℕ → Bool) where
  -- the rows above any place, newest first, are greedy
  upto : (rows : List Row) → Chosen M g e rows → (mid rest acc done : List Row) → rows ≡ done ++ (mid ++ rest) → Alike acc done → Greedy M g e acc → Greedy M g e (onto acc mid)
  upto rows c [] rest acc done s a h = h
  upto rows c (r ∷ mid) rest acc done s a h =
      let here : Choice M g e acc r = choice_in M g e done acc (a.1, a.0) r (c done (mid ++ rest) r s) in
      let next : Alike (r ∷ acc) (done ++ (r ∷ [])) = onto_alike (r ∷ []) acc done a in
      upto rows c mid rest (r ∷ acc) (done ++ (r ∷ [])) (s ∙ sym (append_assoc done (r ∷ []) (mid ++ rest))) next (here, h)

  pub greedy_at : (rows : List Row) → Chosen M g e rows → (above below : List Row) (r : Row) → rows ≡ above ++ (r ∷ below) → Greedy M g e (r ∷ turned above)
  greedy_at rows c above below r s =
      let a = turned_alike above in
      (choice_in M g e above (turned above) (a.1, a.0) r (c above below r s), upto rows c above (r ∷ below) [] [] s (λ y i. i, λ y i. i) tt)

  pub greedy : (rows : List Row) → Chosen M g e rows → Greedy M g e (turned rows)
  greedy rows c = upto rows c rows [] [] [] (sym (append-nil rows)) (λ y i. i, λ y i. i) tt

  pub chosen_none : Chosen M g e []
  chosen_none above below r s = absurd (not_empty above r below s)

  pub chosen_more : (rows : List Row) (r : Row) → Chosen M g e rows → Choice M g e rows r → Chosen M g e (rows ++ (r ∷ []))
  chosen_more rows r c h above below x s =
      ⊎_elim
      (λ t. subst (λ (l : List Row). Choice M g e l x) t.0 (subst (λ (y : Row). Choice M g e rows y) t.1 h))
      (λ t. c above t.0 x t.1)
      (with_last rows r above below x s)
