-- The best of a reach figure tells whether some chain contains the goal.
use Rattle.std.proofs.Common.{◌≡◌, ℕ, zero, suc, ◌<◌, ◌≤◌, Bool, true, false, ◌||◌, eqb, ◌⊎◌, List, [], ◌∷◌, map, length, get_or, set, replicate, Decides, fold, sym, refl, ap, ◌∙◌, subst, inl, inr, ⊎_elim, arith}
use Rattle.std.proofs.lemmas.List.{length-set, length-replicate, get_or-set_same, get_or-set_other, ext_get_or}
use Rattle.std.proofs.lemmas.Bool.{cases_eq, eqb-true, eq-eqb, or_cases, or_left, or_right, false≢true}
use Rattle.chains.specs.Lists.{In}
use Rattle.chains.specs.Chains.{Follows, ChainFrom, Ordered, Enumerates, chains}
use Rattle.chains.specs.Figures.{BestAtEach, Figure, value_from, value, best_of, best}
use Rattle.chains.specs.Reach.{ReachedAtEach, Reaches, RowsAtEach, reach, reach_row, either_row}
use Rattle.chains.specs.declared.message.Message.{Message}
use Rattle.chains.proofs.Lists.{all_same, place_in}
use Rattle.chains.proofs.Every.{rises}

module _ {V : Type 0} (f : Figure V) (h : V → Bool) (on_better : (a b : V) → h (f.better a b) ≡ (h a || h b)) where
  some : (x : V) (cs : List (List ℕ)) → h (fold f.better x (map (value f) cs)) ≡ true → (h x ≡ true) ⊎ ((c : List ℕ) × In c cs × (h (value f c) ≡ true))
  some x [] e = inl e
  some x (y ∷ cs) e = ⊎_elim
      (λ q. ⊎_elim inl (λ p. inr (y, inl refl, p)) (or_cases (h x) (h (value f y)) (sym (on_better x (value f y)) ∙ q)))
      (λ r. inr (r.0, inr r.1, r.2))
      (some (f.better x (value f y)) cs e)

  keeps : (x : V) (cs : List (List ℕ)) → h x ≡ true → h (fold f.better x (map (value f) cs)) ≡ true
  keeps x [] e = e
  keeps x (y ∷ cs) e = keeps (f.better x (value f y)) cs (on_better x (value f y) ∙ or_left (h x) (h (value f y)) e)

  from : (x : V) (cs : List (List ℕ)) (c : List ℕ) → In c cs → h (value f c) ≡ true → h (fold f.better x (map (value f) cs)) ≡ true
  from x [] c i e = absurd i
  from x (y ∷ cs) c i e = ⊎_elim
      (λ q. keeps (f.better x (value f y)) cs (on_better x (value f y) ∙ or_right (h x) (h (value f y)) (ap (λ z. h (value f z)) (sym q) ∙ e)))
      (λ j. from (f.better x (value f y)) cs c j e) i

  module _ (ms : List Message) (b goal : ℕ) (on_value : (r : List ℕ) → Follows ms b r → Decides (h (value_from f b r)) (In goal (b ∷ r))) where
    on_chain : (c : List ℕ) → ChainFrom ms b c → Decides (h (value f c)) (In goal c)
    on_chain [] z = absurd z
    on_chain (y ∷ r) z = let P : ℕ → Type 0 = λ w. Decides (h (value_from f w r)) (In goal (w ∷ r)) in subst P (sym z.0) (on_value r z.1)

    over : (L : List (List ℕ)) (d : V) → ((c : List ℕ) → In c L → ChainFrom ms b c) → ((c : List ℕ) → ChainFrom ms b c → In c L) → Decides (h (best_of f d (map (value f) L))) (Reaches ms b goal)
    over [] d only every = absurd (every (b ∷ []) (refl, tt))
    over (c ∷ cs) d only every =
        let found : (x : List ℕ) → In x (c ∷ cs) → h (value f x) ≡ true → Reaches ms b goal = λ x i e. record { chain = x; begins = only x i; contains = (on_chain x (only x i)).0 e } in (
          λ e. ⊎_elim (λ q. found c (inl refl) q) (λ r. found r.0 (inr r.1) r.2) (some (value f c) cs e),
          λ r. let t : h (value f r.chain) ≡ true = (on_chain r.chain r.begins).1 r.contains in
              ⊎_elim (λ q. keeps (value f c) cs (ap (λ z. h (value f z)) (sym q) ∙ t)) (λ j. from (value f c) cs r.chain j t) (every r.chain r.begins),
        )

    pub tells : (n : ℕ) → Enumerates ms n b → Decides (h (best f ms n b)) (Reaches ms b goal)
    unfolding best
    tells n all = over (chains ms n b) (f.alone b) all.only all.every

-- a chain's value has the goal exactly where the chain does
pub reach_value : (goal b : ℕ) (r : List ℕ) → Decides (value_from (reach goal) b r) (In goal (b ∷ r))
reach_value goal b [] = (λ e. inl (sym (eqb-true b goal e)), ⊎_elim (λ e. eq-eqb b goal (sym e)) (λ z. absurd z))
reach_value goal b (s ∷ r) =
    let later = reach_value goal s r in
    let rest = value_from (reach goal) s r in (
      λ e. ⊎_elim (λ q. inl (sym (eqb-true b goal q))) (λ q. inr (later.0 q)) (or_cases (eqb b goal) rest e),
      ⊎_elim (λ e. or_left (eqb b goal) rest (eq-eqb b goal (sym e))) (λ i. or_right (eqb b goal) rest (later.1 i)),
    )

-- a row with one entry made true
row_set : (row : List Bool) (b goal : ℕ) → b < length row → Decides (get_or (set row b true) goal false) ((goal ≡ b) ⊎ (get_or row goal false ≡ true))
row_set row b goal l = ⊎_elim
    (λ (e : goal ≡ b). (λ _. inl e, λ _. let P : ℕ → Type 0 = λ w. get_or (set row b true) w false ≡ true in subst P (sym e) (get_or-set_same row b true false l)))
    (λ (n : goal ≡ b → ⊥). let same = get_or-set_other row b goal true false n in (λ e. inr (sym same ∙ e), ⊎_elim (λ e. absurd (n e)) (λ q. same ∙ q)))
    (cases_eq goal b)

module _ (ms : List Message) (order : List ℕ) (o : Ordered ms order) (goal : ℕ) where
  pub row_value : (b : ℕ) (r : List ℕ) → In b order → Follows ms b r → (length (value_from reach_row b r) ≡ 257) × Decides (get_or (value_from reach_row b r) goal false) (In goal (b ∷ r))
  row_value b [] i h =
      let none : List Bool = replicate 257 false in
      let most : b ≤ 256 = (o.blocks b i).1 in
      let long : length none ≡ 257 = length-replicate 257 false in
      let d = row_set none b goal (omega arith) in (
        length-set none b true ∙ long,
        (
          λ e. ⊎_elim inl (λ q. absurd (false≢true (sym (all_same false 257 goal) ∙ q))) (d.0 e),
          ⊎_elim (λ e. d.1 (inl e)) (λ z. absurd z),
        ),
      )
  row_value b (s ∷ r) i h =
      let later = row_value s r (place_in order s (rises ms order o b s h.0).1) h.1 in
      let most : b ≤ 256 = (o.blocks b i).1 in
      let long : length (value_from reach_row s r) ≡ 257 = later.0 in
      let d = row_set (value_from reach_row s r) b goal (omega arith) in (
        length-set (value_from reach_row s r) b true ∙ long,
        (
          λ e. ⊎_elim inl (λ q. inr (later.1.0 q)) (d.0 e),
          ⊎_elim (λ e. d.1 (inl e)) (λ j. d.1 (inr (later.1.1 j))),
        ),
      )

or_false : (x : Bool) → (x || false) ≡ x
or_false true = refl
or_false false = refl

-- entry by entry
pub either_at : (a b : List Bool) (i : ℕ) → get_or (either_row a b) i false ≡ (get_or a i false || get_or b i false)
either_at [] b i = refl
either_at (x ∷ xs) [] i = sym (or_false (get_or (x ∷ xs) i false))
either_at (x ∷ xs) (y ∷ ys) zero = refl
either_at (x ∷ xs) (y ∷ ys) (suc i) = either_at xs ys i

either_long : (a b : List Bool) → length a ≡ length b → length (either_row a b) ≡ length a
either_long [] [] e = refl
either_long [] (y ∷ ys) e = absurd (omega arith)
either_long (x ∷ xs) [] e = refl
either_long (x ∷ xs) (y ∷ ys) e = ap suc (either_long xs ys (omega arith))

pub either_whole : (a b row : List Bool) → length a ≡ length row → length b ≡ length row → ((i : ℕ) → i < length row → get_or row i false ≡ (get_or a i false || get_or b i false)) → row ≡ either_row a b
either_whole a b row p q h = ext_get_or false row (either_row a b) (sym p ∙ sym (either_long a b (p ∙ sym q))) (λ i l. h i l ∙ sym (either_at a b i))

-- what a run of the figure leaves
pub reached_at_each : (ms : List Message) (order : List ℕ) (goal : ℕ) (before after : List Bool) → BestAtEach (reach goal) ms order before after
    → ((b : ℕ) → In b order → Enumerates ms (length order) b) → ReachedAtEach ms order goal before after
reached_at_each ms order goal before after h all = record {
  found = λ b i. let P : Bool → Type 0 = λ x. Decides x (Reaches ms b goal) in
      subst P (sym (h.values b false i)) (tells (reach goal) (λ x. x) (λ x y. refl) ms b goal (λ r _. reach_value goal b r) (length order) (all b i));
  kept = λ b out. h.kept b false out;
}

pub rows_at_each : (ms : List Message) (order : List ℕ) (before after : List (List Bool)) → Ordered ms order → BestAtEach reach_row ms order before after
    → ((b : ℕ) → In b order → Enumerates ms (length order) b) → RowsAtEach ms order before after
rows_at_each ms order before after o h all = record {
  found = λ b goal i. let P : List Bool → Type 0 = λ x. Decides (get_or x goal false) (Reaches ms b goal) in
      subst P (sym (h.values b [] i)) (tells reach_row (λ x. get_or x goal false) (λ x y. either_at x y goal) ms b goal (λ r h. (row_value ms order o goal b r i h).1) (length order) (all b i));
  kept = λ b out. h.kept b [] out;
}
