-- Chain figures, their laws, and the best over all chains.
use Rattle.std.specs.Prelude.{◌≡◌, ℕ, List, [], ◌∷◌, map, length, fold, slice_index_or}
use Rattle.chains.specs.Lists.{In}
use Rattle.chains.specs.Chains.{chains}
use Rattle.chains.specs.declared.message.Message.{Message}

-- a chain figure: the value of a block alone, a value extended back over the step from p to q, and the better of two
pub record Figure (V : Type 0) : Type 0 where
  pub alone : ℕ → V
  pub extended : ℕ → ℕ → V → V
  pub better : V → V → V

-- the better of two depends on neither order nor grouping, and extending it gives the better of the two extended
pub record Laws {V : Type 0} (f : Figure V) : Type 0 where
  pub comm : (a b : V) → f.better a b ≡ f.better b a
  pub assoc : (a b c : V) → f.better (f.better a b) c ≡ f.better a (f.better b c)
  pub distributes : (p q : ℕ) (a b : V) → f.extended p q (f.better a b) ≡ f.better (f.extended p q a) (f.extended p q b)

-- the value of the chain of b and what follows it
abbrev pub value_from : {V : Type 0} → Figure V → ℕ → List ℕ → V
value_from f b [] = f.alone b
value_from f b (s ∷ rest) = f.extended b s (value_from f s rest)

-- the value of a chain; that of no block at all is never asked for
abbrev pub value : {V : Type 0} → Figure V → List ℕ → V
value f [] = f.alone 0
value f (b ∷ rest) = value_from f b rest

-- the better of all values of a list; d where there is none
abbrev pub best_of : {V : Type 0} → Figure V → V → List V → V
best_of f d [] = d
best_of f d (v ∷ vs) = fold f.better v vs

-- the best over the chains of at most n steps that begin with b
unfoldable pub best : {V : Type 0} → Figure V → List Message → ℕ → ℕ → V
best f ms n b = best_of f (f.alone b) (map (value f) (chains ms n b))

-- what a run leaves in a list with an entry for each block number: the best over all chains at each block of
-- the order, and at every other entry what stood there before
pub record BestAtEach {V : Type 0} (f : Figure V) (ms : List Message) (order : List ℕ) (before after : List V) : Type 0 where
  pub values : (b : ℕ) (d : V) → In b order → slice_index_or after b d ≡ best f ms (length order) b
  pub kept : (b : ℕ) (d : V) → (In b order → ⊥) → slice_index_or after b d ≡ slice_index_or before b d
