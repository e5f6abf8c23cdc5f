-- The list of chains from a block has every chain, only chains, and each once.
use Rattle.std.proofs.Common.{◌≡◌, ℕ, zero, suc, ◌+◌, ◌<◌, ◌≤◌, eqb, ◌⊎◌, List, [], ◌∷◌, map, length, sym, refl, ap, ◌∙◌, subst, inl, inr, ⊎_elim, arith}
use Rattle.std.specs.List.{flat_map}
use Rattle.std.proofs.lemmas.Bool.{cases_Bool, eqb-true, eq-eqb, both_ways}
use Rattle.chains.specs.Lists.{In, Apart}
use Rattle.chains.specs.Chains.{Step, Follows, ChainFrom, place, Ordered, has, with_new, successors, rests, chains, Enumerates}
use Rattle.chains.specs.declared.message.Message.{Message}
use Rattle.chains.proofs.Lists.{in_map, of_map, in_joined, of_joined, apart_append, apart_map, has_in, in_has, in_place}

-- a step among the messages after the first is one among all
later : (m : Message) (ms : List Message) (a b : ℕ) → Step ms a b → Step (m ∷ ms) a b
later m ms a b s = record { message = s.message; known = inr s.known; leaves = s.leaves; comes = s.comes }

in_new : (x y : ℕ) (xs : List ℕ) → In y (with_new x xs) → (y ≡ x) ⊎ In y xs
in_new x y xs h = ⊎_elim (λ e. inr (rw e at h)) (λ e. let i : In y (x ∷ xs) = rw e at h in i) (cases_Bool (has x xs))

-- what the list of successors has is a step
pub in_step : (ms : List Message) (b s : ℕ) → In s (successors ms b) → Step ms b s
in_step [] b s h = absurd h
in_step (m ∷ ms) b s h = ⊎_elim
    (λ e. let i : In s (with_new m.to (successors ms b)) = rw e at h in
    ⊎_elim (λ q. record { message = m; known = inl refl; leaves = eqb-true m.from b e; comes = sym q }) (λ i. later m ms b s (in_step ms b s i)) (in_new m.to s (successors ms b) i))
    (λ e. let i : In s (successors ms b) = rw e at h in later m ms b s (in_step ms b s i))
    (cases_Bool (eqb m.from b))

new_has : (x : ℕ) (xs : List ℕ) → In x (with_new x xs)
new_has x xs = ⊎_elim (λ e. rw e (has_in x xs e)) (λ e. rw e (inl refl)) (cases_Bool (has x xs))

new_keeps : (x y : ℕ) (xs : List ℕ) → In y xs → In y (with_new x xs)
new_keeps x y xs i = ⊎_elim (λ e. rw e i) (λ e. rw e (inr i)) (cases_Bool (has x xs))

reached : (ms : List Message) (b : ℕ) (m : Message) → In m ms → m.from ≡ b → In m.to (successors ms b)
reached [] b m h e = absurd h
reached (x ∷ ms) b m h e = ⊎_elim
    (λ t. ⊎_elim
    (λ q. let P : Message → Type 0 = λ y. In y.to (with_new x.to (successors ms b)) in rw t (subst P (sym q) (new_has x.to (successors ms b))))
    (λ i. rw t (new_keeps x.to m.to (successors ms b) (reached ms b m i e))) h)
    (λ t. ⊎_elim
    (λ q. absurd (both_ways (eqb x.from b) t (eq-eqb x.from b (ap (λ y. y.from) (sym q) ∙ e))))
    (λ i. rw t (reached ms b m i e)) h)
    (cases_Bool (eqb x.from b))

-- and each step is in it
pub step_in : (ms : List Message) (b s : ℕ) → Step ms b s → In s (successors ms b)
step_in ms b s t = let P : ℕ → Type 0 = λ x. In x (successors ms b) in subst P t.comes (reached ms b t.message t.known t.leaves)

apart_new : (x : ℕ) (xs : List ℕ) → Apart xs → Apart (with_new x xs)
apart_new x xs a = ⊎_elim (λ e. rw e a) (λ e. rw e (λ i. both_ways (has x xs) e (in_has x xs i), a)) (cases_Bool (has x xs))

pub apart_successors : (ms : List Message) (b : ℕ) → Apart (successors ms b)
apart_successors [] b = tt
apart_successors (m ∷ ms) b = ⊎_elim (λ e. rw e (apart_new m.to (successors ms b) (apart_successors ms b))) (λ e. rw e (apart_successors ms b)) (cases_Bool (eqb m.from b))

same_tail : (b : ℕ) (x y : List ℕ) → b ∷ x ≡ b ∷ y → x ≡ y
same_tail b x y e = cc

same_head : (b c : ℕ) (x y : List ℕ) → b ∷ x ≡ c ∷ y → b ≡ c
same_head b c x y e = cc

cons_nil : (b : ℕ) (x : List ℕ) → [] ≡ b ∷ x → ⊥
cons_nil b x e = let z : ◌≡◌ {A = ℕ} 0 1 = cc in omega arith

module _ (ms : List Message) where
  abbrev fan : ℕ → ℕ → List (List ℕ)
  fan n s = map (λ r. s ∷ r) (rests ms n s)

  only : (n b : ℕ) (r : List ℕ) → In r (rests ms n b) → Follows ms b r
  only zero b r h = ⊎_elim (λ e. let P : List ℕ → Type 0 = Follows ms b in subst P (sym e) tt) (λ h. absurd h) h
  only (suc n) b r h =
      let P : List ℕ → Type 0 = Follows ms b in
      ⊎_elim (λ e. subst P (sym e) tt)
      (λ h. let j = of_joined (fan n) r (successors ms b) h in let m = of_map (λ r. j.0 ∷ r) r (rests ms n j.0) j.2 in
      subst P (sym m.2) (in_step ms b j.0 j.1, only n j.0 m.0 m.1)) h

  -- the list of chains from a block has only such
  pub only_chains : (n b : ℕ) (c : List ℕ) → In c (chains ms n b) → ChainFrom ms b c
  only_chains n b c i =
      let m = of_map (λ (r : List ℕ). b ∷ r) c (rests ms n b) i in
      let P : List ℕ → Type 0 = ChainFrom ms b in
      subst P (sym m.2) (refl, only n b m.0 m.1)

  every : (n b : ℕ) (r : List ℕ) → Follows ms b r → length r ≤ n → In r (rests ms n b)
  every zero b [] h l = inl refl
  every zero b (s ∷ r) h l = absurd (omega arith)
  every (suc n) b [] h l = inl refl
  every (suc n) b (s ∷ r) h l = inr (in_joined (fan n) (s ∷ r) s (successors ms b) (step_in ms b s h.0) (in_map (λ r. s ∷ r) r (rests ms n s) (every n s r h.1 (omega arith))))

  once_fan : (n : ℕ) → ((s : ℕ) → Apart (rests ms n s)) → (ss : List ℕ) → Apart ss → Apart (flat_map (fan n) ss)
  once_fan n each [] a = tt
  once_fan n each (s ∷ ss) a =
      apart_append (fan n s) (flat_map (fan n) ss) (apart_map (λ r. s ∷ r) (same_tail s) (rests ms n s) (each s)) (once_fan n each ss a.1)
      (λ x i j.
      let p = of_map (λ r. s ∷ r) x (rests ms n s) i in
      let q = of_joined (fan n) x ss j in
      let t = of_map (λ r. q.0 ∷ r) x (rests ms n q.0) q.2 in
      let P : ℕ → Type 0 = λ w. In w ss in
      a.0 (subst P (sym (same_head s q.0 p.0 t.0 (sym p.2 ∙ t.2))) q.1))

  once : (n b : ℕ) → Apart (rests ms n b)
  once zero b = (λ h. h, tt)
  once (suc n) b = (
    λ h. let j = of_joined (fan n) [] (successors ms b) h in let m = of_map (λ r. j.0 ∷ r) [] (rests ms n j.0) j.2 in cons_nil j.0 m.0 m.2,
    once_fan n (once n) (successors ms b) (apart_successors ms b),
  )

  module _ (order : List ℕ) (ordered : Ordered ms order) where
    -- a step goes to a later place of the order
    pub rises : (a b : ℕ) → Step ms a b → (place order a < place order b) × (place order b < length order)
    rises a b s =
        let h = ordered.forward s.message s.known in
        let P : ℕ → Type 0 = λ x. (place order x < place order b) × (place order b < length order) in
        let Q : ℕ → Type 0 = λ x. (place order s.message.from < place order x) × (place order x < length order) in
        subst P s.leaves (subst Q s.comes h)

    -- so a chain has no more steps than the order has places after its first block
    pub short : (r : List ℕ) (b : ℕ) → place order b < length order → Follows ms b r → length r + place order b < length order
    short [] b l h = omega arith
    short (s ∷ r) b l h =
        let e = rises b s h.0 in
        let e0 : place order b < place order s = e.0 in
        let less : length r + place order s < length order = short r s e.1 h.1 in
        omega arith

    pub enumerates : (b : ℕ) → In b order → Enumerates ms (length order) b
    enumerates b i =
        let n = length order in
        let every' : (c : List ℕ) → ChainFrom ms b c → In c (chains ms n b) =
        λ c. elim c as (λ c. ChainFrom ms b c → In c (chains ms n b)) [
          | [] ↦ λ h. absurd h
          | x ∷ r ↦ λ h. let P : ℕ → Type 0 = λ w. In (w ∷ r) (chains ms n b) in let m : length r + place order b < n = short r b (in_place order b i) h.1 in
              subst P (sym h.0) (in_map (λ r. b ∷ r) r (rests ms n b) (every n b r h.1 (omega arith)))
        ] in
        record {
          only = λ c h. let m = of_map (λ r. b ∷ r) c (rests ms n b) h in let P : List ℕ → Type 0 = ChainFrom ms b in subst P (sym m.2) (refl, only n b m.0 m.1);
          every = every';
          once = apart_map (λ r. b ∷ r) (same_tail b) (rests ms n b) (once n b);
        }
