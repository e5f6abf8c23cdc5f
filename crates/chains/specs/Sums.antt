-- Sums along a chain, of its blocks or of its steps, as u64 holds them; and what a greatest sum is.
use Rattle.std.specs.Prelude.{◌≡◌, ℕ, ◌+◌, ◌-◌, ◌*◌, ◌^◌, ◌<◌, ◌≤◌, min, max, List, [], ◌∷◌, slice_index}
use Rattle.chains.specs.Chains.{ChainFrom, Step}
use Rattle.chains.specs.Lists.{In}
use Rattle.std.proofs.Common.{arith}
use Rattle.chains.specs.Figures.{Figure, Laws}
use Rattle.chains.specs.declared.message.Message.{Message}

-- no more than a u64 holds
abbrev pub capped : ℕ → ℕ
capped n = min (2 ^ 64 - 1) n

-- the sum of what the first block of a chain adds at each step, and of what its last block adds, no more than fits;
-- the greater is better
abbrev pub sums : (ℕ → ℕ) → (ℕ → ℕ → ℕ) → Figure ℕ
sums last each = record { alone = λ b. capped (last b); extended = λ p q v. capped (each p q + v); better = max }

-- the time of a block in a table of block times
abbrev pub time_in : List ℕ → ℕ → ℕ
time_in times b = slice_index times b

-- the cost of the step from p to q in a table with 257 costs for each sender; 0 past the table's end
abbrev pub cost_in : List ℕ → ℕ → ℕ → ℕ
cost_in costs p q = slice_index costs (p * 257 + q)

-- the sum of the step costs of the chain of b and what follows it
abbrev pub steps_from : (ℕ → ℕ → ℕ) → ℕ → List ℕ → ℕ
steps_from cost b [] = 0
steps_from cost b (s ∷ rest) = cost b s + steps_from cost s rest

-- the sum of the step costs of a chain
abbrev pub steps_total : (ℕ → ℕ → ℕ) → List ℕ → ℕ
steps_total cost [] = 0
steps_total cost (b ∷ rest) = steps_from cost b rest

-- x is the greatest of f over the chains that begin with b: one of them has it, and none has more
pub record GreatestFrom (ms : List Message) (b : ℕ) (f : List ℕ → ℕ) (x : ℕ) : Type 0 where
  pub chain : List ℕ
  pub begins : ChainFrom ms b chain
  pub attained : f chain ≡ x
  pub bound : (c : List ℕ) → ChainFrom ms b c → f c ≤ x

-- what a run leaves: at each block of the order the greatest measure of a chain from it, no more than fits, and
-- where the parts are small the greatest measure itself; at every other entry what stood there before
pub record GreatestAtEach (measure : List ℕ → ℕ) (small : Type 0) (ms : List Message) (order before after : List ℕ) : Type 0 where
  pub fitted : (b : ℕ) → In b order → GreatestFrom ms b (λ c. capped (measure c)) (slice_index after b)
  pub exact : small → (b : ℕ) → In b order → GreatestFrom ms b measure (slice_index after b)
  pub kept : (b : ℕ) → (In b order → ⊥) → slice_index after b ≡ slice_index before b

-- so small that the sum of 256 of them fits a u64
abbrev pub SmallTimes : List ℕ → (ℕ → ℕ) → Type 0
SmallTimes order time = (b : ℕ) → In b order → time b < 2 ^ 56

abbrev pub SmallCosts : List Message → (ℕ → ℕ → ℕ) → Type 0
SmallCosts ms cost = (p q : ℕ) → Step ms p q → cost p q < 2 ^ 56

pub sum_laws : (last : ℕ → ℕ) (each : ℕ → ℕ → ℕ) → Laws (sums last each)
sum_laws last each = record { comm = λ a b. omega arith; assoc = λ a b c. omega arith; distributes = λ p q a b. omega arith }
