-- Reach over steps is reflexive and transitive, and goes upward in a processing order.
use Rattle.std.proofs.Common.{◌≡◌, ℕ, ◌≤◌, Bool, true, List, [], ◌∷◌, Decides, refl, ap, subst, inl, inr, ⊎_elim, arith}
use Rattle.chains.specs.declared.message.Message.{Message}
use Rattle.chains.specs.Chains.{Step, Follows, ChainFrom, place, Ordered}
use Rattle.chains.specs.Reach.{Reaches}
use Rattle.chains.specs.Lists.{In}
use Rattle.chains.proofs.Lists.{place_in}
use Rattle.partition.proofs.Convexity.{step_up}
use Rattle.partition.proofs.Rejoined.{Reaching}

module _ (ms : List Message) (order : List ℕ) (ordered : Ordered ms order) where
  step_to : (y z : ℕ) → Step ms y z → In z order
  step_to y z s = place_in order z (step_up ms order ordered y z s).1

  -- places never fall along a chain
  along : (r : List ℕ) (x y : ℕ) → Follows ms x r → In y (x ∷ r) → place order x ≤ place order y
  along [] x y f i = ⊎_elim (λ (e : y ≡ x). omega (arith, ap (place order) e)) (λ j. absurd j) i
  along (s ∷ r) x y f i = ⊎_elim (λ (e : y ≡ x). omega (arith, ap (place order) e)) (λ j. omega (arith, (step_up ms order ordered x s f.0).0, along r s y f.1 j)) i

  module _ (reach : ℕ → ℕ → Bool) (decides : (a b : ℕ) → In a order → Decides (reach a b) (Reaches ms a b)) where
    itself : (a : ℕ) → In a order → reach a a ≡ true
    itself a i = (decides a a i).1 (record { chain = a ∷ []; begins = (refl, tt); contains = inl refl })

    -- the chain of what is reached, behind its first block
    record Onward (b c : ℕ) : Type 0 where
      rest : List ℕ
      follows : Follows ms b rest
      holds : In c (b ∷ rest)

    onward : (b c : ℕ) → Reaches ms b c → Onward b c
    onward b c q = go q.chain q.begins q.contains
      where
        go : (l : List ℕ) → ChainFrom ms b l → In c l → Onward b c
        go [] h i = absurd h
        go (x ∷ r) h i = record { rest = r; follows = h.1; holds = subst (λ k. In c (k ∷ r)) h.0 i }

    steps : (a b c : ℕ) → In a order → Step ms a b → reach b c ≡ true → reach a c ≡ true
    steps a b c i s t =
        let o = onward b c ((decides b c (step_to a b s)).0 t) in
        (decides a c i).1 (record { chain = a ∷ b ∷ o.rest; begins = (refl, (s, o.follows)); contains = inr o.holds })

    through : (r : List ℕ) (x b c : ℕ) → In x order → Follows ms x r → In b (x ∷ r) → reach b c ≡ true → reach x c ≡ true
    through [] x b c ix f i t = ⊎_elim (λ (e : b ≡ x). subst (λ k. reach k c ≡ true) e t) (λ j. absurd j) i
    through (s ∷ r) x b c ix f i t =
        ⊎_elim (λ (e : b ≡ x). subst (λ k. reach k c ≡ true) e t) (λ j. steps x s c ix f.0 (through r s b c (step_to x s f.0) f.1 j t)) i

    step_from : (y z : ℕ) → Step ms y z → In y order
    step_from y z s = let u = step_up ms order ordered y z s in place_in order y (omega (arith, u.0, u.1))

    pub reaching : Reaching ms order reach
    reaching = record {
      itself = itself;
      steps = λ a b c s t. steps a b c (step_from a b s) s t;
      upward = λ a b i t. let o = onward a b ((decides a b i).0 t) in along o.rest a b o.follows o.holds;
      joins = λ a b c i t u. let o = onward a b ((decides a b i).0 t) in through o.rest a b c i o.follows o.holds u;
    }
