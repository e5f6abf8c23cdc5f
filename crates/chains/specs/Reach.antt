-- Whether a chain from one block contains another.
use Rattle.std.specs.Prelude.{◌≡◌, ℕ, zero, suc, Bool, true, false, ◌||◌, List, [], ◌∷◌, replicate, Decides, ◌==◌, slice_index_or, slice_set, refl}
use Rattle.std.proofs.Common.{ap, ap₂}
use Rattle.chains.specs.Lists.{In}
use Rattle.chains.specs.Chains.{ChainFrom}
use Rattle.chains.specs.Figures.{Figure, Laws}
use Rattle.chains.specs.declared.message.Message.{Message}

-- some chain that begins with b contains the goal
pub record Reaches (ms : List Message) (b goal : ℕ) : Type 0 where
  pub chain : List ℕ
  pub begins : ChainFrom ms b chain
  pub contains : In goal chain

-- whether a chain contains the goal; better is "one of the two does"
abbrev pub reach : ℕ → Figure Bool
reach goal = record { alone = λ b. (b == goal); extended = λ p q v. (p == goal) || v; better = ◌||◌ }

-- entry by entry, whether one of the two rows has it
abbrev pub either_row : List Bool → List Bool → List Bool
either_row [] ys = ys
either_row (x ∷ xs) [] = x ∷ xs
either_row (x ∷ xs) (y ∷ ys) = (x || y) ∷ either_row xs ys

-- the same for all goals at once: a row with an entry for each block number
abbrev pub reach_row : Figure (List Bool)
reach_row = record { alone = λ b. slice_set (replicate 257 false) b true; extended = λ p q v. slice_set v p true; better = either_row }

-- what a run leaves: at each block of the order whether it reaches the goal, and at every other entry what stood there before
pub record ReachedAtEach (ms : List Message) (order : List ℕ) (goal : ℕ) (before after : List Bool) : Type 0 where
  pub found : (b : ℕ) → In b order → Decides (slice_index_or after b false) (Reaches ms b goal)
  pub kept : (b : ℕ) → (In b order → ⊥) → slice_index_or after b false ≡ slice_index_or before b false

-- the same for rows: at each block of the order a row that says of every number whether the block reaches it
pub record RowsAtEach (ms : List Message) (order : List ℕ) (before after : List (List Bool)) : Type 0 where
  pub found : (b goal : ℕ) → In b order → Decides (slice_index_or (slice_index_or after b []) goal false) (Reaches ms b goal)
  pub kept : (b : ℕ) → (In b order → ⊥) → slice_index_or after b [] ≡ slice_index_or before b []

or_comm : (a b : Bool) → (a || b) ≡ (b || a)
or_comm true true = refl
or_comm true false = refl
or_comm false true = refl
or_comm false false = refl

or_assoc : (a b c : Bool) → ((a || b) || c) ≡ (a || (b || c))
or_assoc true b c = refl
or_assoc false b c = refl

or_over : (e a b : Bool) → (e || (a || b)) ≡ ((e || a) || (e || b))
or_over true a b = refl
or_over false a b = refl

pub reach_laws : (goal : ℕ) → Laws (reach goal)
reach_laws goal = record { comm = or_comm; assoc = or_assoc; distributes = λ p q a b. or_over (p == goal) a b }

row_comm : (a b : List Bool) → either_row a b ≡ either_row b a
row_comm [] [] = refl
row_comm [] (y ∷ ys) = refl
row_comm (x ∷ xs) [] = refl
row_comm (x ∷ xs) (y ∷ ys) = ap₂ (λ z zs. z ∷ zs) (or_comm x y) (row_comm xs ys)

row_assoc : (a b c : List Bool) → either_row (either_row a b) c ≡ either_row a (either_row b c)
row_assoc [] b c = refl
row_assoc (x ∷ xs) [] c = refl
row_assoc (x ∷ xs) (y ∷ ys) [] = refl
row_assoc (x ∷ xs) (y ∷ ys) (z ∷ zs) = ap₂ (λ w ws. w ∷ ws) (or_assoc x y z) (row_assoc xs ys zs)

row_over : (p : ℕ) (a b : List Bool) → slice_set (either_row a b) p true ≡ either_row (slice_set a p true) (slice_set b p true)
row_over p [] b = refl
row_over zero (x ∷ xs) [] = refl
row_over (suc p) (x ∷ xs) [] = refl
row_over zero (x ∷ xs) (y ∷ ys) = refl
row_over (suc p) (x ∷ xs) (y ∷ ys) = ap (λ ws. (x || y) ∷ ws) (row_over p xs ys)

pub row_laws : Laws reach_row
row_laws = record { comm = row_comm; assoc = row_assoc; distributes = λ p q a b. row_over p a b }
