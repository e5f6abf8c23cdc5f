-- A partition with a processing order is acyclic and convex.
use Rattle.std.proofs.Common.{ℕ, ◌<◌, List, [], ◌∷◌, ◌++◌, length, subst, arith}
use Rattle.chains.specs.declared.message.Message.{Message}
use Rattle.chains.specs.Chains.{Step, Follows, place, Ordered}
use Rattle.partition.specs.Blocks.{Convex}

module _ (ms : List Message) (order : List ℕ) (ordered : Ordered ms order) where
  -- a step goes to a later place
  pub step_up : (y z : ℕ) → Step ms y z → (place order y < place order z) × (place order z < length order)
  step_up y z s =
      let m = ordered.forward s.message s.known in
      subst (λ k. (place order k < place order z) × (place order z < length order)) s.leaves (subst (λ k. (place order s.message.from < place order k) × (place order k < length order)) s.comes m)

  last_in : (via : List ℕ) (x b : ℕ) → Follows ms x (via ++ b ∷ []) → place order x < place order b
  last_in [] x b f = (step_up x b f.0).0
  last_in (v ∷ via) x b f = omega (arith, (step_up x v f.0).0, last_in via v b f.1)

  pub ordered_convex : Convex ms
  ordered_convex b via c = omega (arith, last_in via b b c.1)
