-- The best of a sum figure is the greatest sum: some chain has it, and none has more.
use Rattle.std.proofs.Common.{◌≡◌, ℕ, ◌+◌, ◌-◌, ◌*◌, ◌^◌, ◌<◌, ◌≤◌, max, ◌⊎◌, List, [], ◌∷◌, map, length, get_or, fold, sym, refl, ap, ◌∙◌, subst, inl, inr, ⊎_elim, arith}
use Rattle.std.proofs.lemmas.Bool.{cases_lt}
use Rattle.chains.specs.Lists.{In, total}
use Rattle.chains.specs.Chains.{Step, Follows, ChainFrom, Ordered, Enumerates, chains, place}
use Rattle.chains.specs.Figures.{BestAtEach, value_from, value, best_of, best}
use Rattle.chains.specs.Sums.{capped, sums, steps_from, steps_total, GreatestFrom, GreatestAtEach, SmallCosts, SmallTimes, cost_in, time_in}
use Rattle.chains.specs.declared.message.Message.{Message}
use Rattle.chains.proofs.Lists.{in_place, place_in}
use Rattle.chains.proofs.Every.{rises, short}

either : (x y : ℕ) → (x ≤ y) ⊎ (y ≤ x)
either x y = ⊎_elim (λ (l : x < y). inl (omega arith)) inr (cases_lt x y)

module _ (v : List ℕ → ℕ) where
  least : (x : ℕ) (cs : List (List ℕ)) → x ≤ fold max x (map v cs)
  least x [] = omega arith
  least x (c ∷ cs) = let l : max x (v c) ≤ fold max (max x (v c)) (map v cs) = least (max x (v c)) cs in omega arith

  bounds : (x : ℕ) (cs : List (List ℕ)) (c : List ℕ) → In c cs → v c ≤ fold max x (map v cs)
  bounds x [] c i = absurd i
  bounds x (y ∷ cs) c i = ⊎_elim
      (λ e. let l : max x (v y) ≤ fold max (max x (v y)) (map v cs) = least (max x (v y)) cs in let q : v c ≡ v y = ap v e in omega arith)
      (λ j. bounds (max x (v y)) cs c j) i

  had : (x : ℕ) (cs : List (List ℕ)) → (fold max x (map v cs) ≡ x) ⊎ ((c : List ℕ) × In c cs × (v c ≡ fold max x (map v cs)))
  had x [] = inl refl
  had x (y ∷ cs) = ⊎_elim
      (λ e. ⊎_elim
      (λ (l : x ≤ v y). inr (y, inl refl, let e' : fold max (max x (v y)) (map v cs) ≡ max x (v y) = e in omega arith))
      (λ (l : v y ≤ x). inl (let e' : fold max (max x (v y)) (map v cs) ≡ max x (v y) = e in omega arith))
      (either x (v y)))
      (λ r. inr (r.0, inr r.1, r.2))
      (had (max x (v y)) cs)

module _ (last : ℕ → ℕ) (each : ℕ → ℕ → ℕ) (ms : List Message) (b n : ℕ) (all : Enumerates ms n b) where
  over : (L : List (List ℕ)) (d : ℕ) → ((c : List ℕ) → In c L → ChainFrom ms b c) → ((c : List ℕ) → ChainFrom ms b c → In c L)
      → GreatestFrom ms b (value (sums last each)) (best_of (sums last each) d (map (value (sums last each)) L))
  over [] d only every = absurd (every (b ∷ []) (refl, tt))
  over (c ∷ cs) d only every =
      let v = value (sums last each) in
      let most : (x : List ℕ) → ChainFrom ms b x → v x ≤ fold max (v c) (map v cs) = λ x h. ⊎_elim
      (λ e. let l : v c ≤ fold max (v c) (map v cs) = least v (v c) cs in let q : v x ≡ v c = ap v e in omega arith)
      (λ j. bounds v (v c) cs x j) (every x h) in
      ⊎_elim
      (λ e. record { chain = c; begins = only c (inl refl); attained = sym e; bound = most })
      (λ r. record { chain = r.0; begins = only r.0 (inr r.1); attained = r.2; bound = most })
      (had v (v c) cs)

  pub best_greatest : GreatestFrom ms b (value (sums last each)) (best (sums last each) ms n b)
  unfolding best
  best_greatest = over (chains ms n b) (capped (last b)) all.only all.every

-- one measure of chains for another
pub greatest_same : (ms : List Message) (b : ℕ) (f g : List ℕ → ℕ) (x : ℕ) → ((r : List ℕ) → Follows ms b r → f (b ∷ r) ≡ g (b ∷ r)) → GreatestFrom ms b f x → GreatestFrom ms b g x
greatest_same ms b f g x same h =
    let on : (c : List ℕ) → ChainFrom ms b c → f c ≡ g c =
    λ c. elim c as (λ c. ChainFrom ms b c → f c ≡ g c) [ [] ↦ λ z. absurd z | y ∷ r ↦ λ z. let P : ℕ → Type 0 = λ w. f (w ∷ r) ≡ g (w ∷ r) in subst P (sym z.0) (same r z.1) ] in
    record {
      chain = h.chain;
      begins = h.begins;
      attained = sym (on h.chain h.begins) ∙ h.attained;
      bound = λ c z. let e : f c ≡ g c = on c z in let l : f c ≤ x = h.bound c z in omega arith;
    }

-- what saturates in between saturates in the end
pub block_value : (time : ℕ → ℕ) (b : ℕ) (r : List ℕ) → value_from (sums time (λ p q. time p)) b r ≡ capped (total time (b ∷ r))
block_value time b [] = omega arith
block_value time b (s ∷ r) =
    let e : value_from (sums time (λ p q. time p)) s r ≡ capped (total time (s ∷ r)) = block_value time s r in
    omega arith

pub step_value : (cost : ℕ → ℕ → ℕ) (b : ℕ) (r : List ℕ) → value_from (sums (λ b. 0) cost) b r ≡ capped (steps_from cost b r)
step_value cost b [] = refl
step_value cost b (s ∷ r) = let e : value_from (sums (λ b. 0) cost) s r ≡ capped (steps_from cost s r) = step_value cost s r in omega arith

module _ (ms : List Message) (order : List ℕ) (o : Ordered ms order) where
  block_small : (time : ℕ → ℕ) → ((b : ℕ) → In b order → time b < 2 ^ 56) → (b : ℕ) (r : List ℕ) → In b order → Follows ms b r → total time (b ∷ r) ≤ (length r + 1) * (2 ^ 56 - 1)
  block_small time small b [] i h = let s : time b < 2 ^ 56 = small b i in omega arith
  block_small time small b (s ∷ r) i h =
      let t : time b < 2 ^ 56 = small b i in
      let more : total time (s ∷ r) ≤ (length r + 1) * (2 ^ 56 - 1) = block_small time small s r (place_in order s (rises ms order o b s h.0).1) h.1 in
      omega arith

  step_small : (cost : ℕ → ℕ → ℕ) → ((p q : ℕ) → Step ms p q → cost p q < 2 ^ 56) → (b : ℕ) (r : List ℕ) → Follows ms b r → steps_from cost b r ≤ length r * (2 ^ 56 - 1)
  step_small cost small b [] h = omega arith
  step_small cost small b (s ∷ r) h =
      let t : cost b s < 2 ^ 56 = small b s h.0 in
      let more : steps_from cost s r ≤ length r * (2 ^ 56 - 1) = step_small cost small s r h.1 in
      omega arith

  -- a chain has at most 256 blocks, so under the bound its sum fits
  pub block_exact : (time : ℕ → ℕ) → ((b : ℕ) → In b order → time b < 2 ^ 56) → (b : ℕ) (r : List ℕ) → In b order → Follows ms b r → capped (total time (b ∷ r)) ≡ total time (b ∷ r)
  block_exact time small b r i h =
      let few : length order ≤ 256 = o.short in
      let l : length r + place order b < length order = short ms order o r b (in_place order b i) h in
      let t : total time (b ∷ r) ≤ (length r + 1) * (2 ^ 56 - 1) = block_small time small b r i h in
      omega arith

  pub step_exact : (cost : ℕ → ℕ → ℕ) → ((p q : ℕ) → Step ms p q → cost p q < 2 ^ 56) → (b : ℕ) (r : List ℕ) → In b order → Follows ms b r → capped (steps_from cost b r) ≡ steps_from cost b r
  step_exact cost small b r i h =
      let few : length order ≤ 256 = o.short in
      let l : length r + place order b < length order = short ms order o r b (in_place order b i) h in
      let t : steps_from cost b r ≤ length r * (2 ^ 56 - 1) = step_small cost small b r h in
      omega arith

  -- what a run of a figure leaves
  pub block_sums_at_each : (m : List ℕ → ℕ) (times before after : List ℕ) → BestAtEach (sums (time_in times) (λ p q. time_in times p)) ms order before after → ((b : ℕ) → In b order → Enumerates ms (length order) b)
      → m ≡ total (time_in times) → GreatestAtEach m (SmallTimes order (time_in times)) ms order before after
  block_sums_at_each m times before after h all is =
      let time : ℕ → ℕ = time_in times in
      let G : (List ℕ → ℕ) → Type 0 = λ f. GreatestAtEach f (SmallTimes order time) ms order before after in
      let fitted : (b : ℕ) → In b order → GreatestFrom ms b (λ l. capped (total time l)) (get_or after b 0) =
      λ b i. let P : ℕ → Type 0 = λ x. GreatestFrom ms b (λ l. capped (total time l)) x in
      subst P (sym (h.values b 0 i))
      (greatest_same ms b (value (sums time (λ p q. time p))) (λ l. capped (total time l)) _ (λ r _. block_value time b r) (best_greatest time (λ p q. time p) ms b (length order) (all b i))) in
      subst G (sym is) (record {
        fitted = fitted;
        exact = λ small b i. greatest_same ms b (λ l. capped (total time l)) (total time) (get_or after b 0) (λ r h. block_exact time small b r i h) (fitted b i);
        kept = λ b out. h.kept b 0 out;
      })

  pub step_sums_at_each : (costs before after : List ℕ) → BestAtEach (sums (λ b. 0) (cost_in costs)) ms order before after → ((b : ℕ) → In b order → Enumerates ms (length order) b)
      → GreatestAtEach (steps_total (cost_in costs)) (SmallCosts ms (cost_in costs)) ms order before after
  step_sums_at_each costs before after h all =
      let cost : ℕ → ℕ → ℕ = cost_in costs in
      let fitted : (b : ℕ) → In b order → GreatestFrom ms b (λ l. capped (steps_total cost l)) (get_or after b 0) =
      λ b i. let P : ℕ → Type 0 = λ x. GreatestFrom ms b (λ l. capped (steps_total cost l)) x in
      subst P (sym (h.values b 0 i))
      (greatest_same ms b (value (sums (λ b. 0) cost)) (λ l. capped (steps_total cost l)) _ (λ r _. step_value cost b r) (best_greatest (λ b. 0) cost ms b (length order) (all b i))) in
      record {
        fitted = fitted;
        exact = λ small b i. greatest_same ms b (λ l. capped (steps_total cost l)) (steps_total cost) (get_or after b 0) (λ r h. step_exact cost small b r i h) (fitted b i);
        kept = λ b out. h.kept b 0 out;
      }
