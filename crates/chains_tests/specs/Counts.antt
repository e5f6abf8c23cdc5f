-- The number of chains as a figure: every chain has the value 1, and better adds.
use Rattle.std.specs.Prelude.{◌≡◌, ℕ, ◌+◌, ◌%◌, ◌^◌, List, length, slice_index, refl}
use Rattle.std.proofs.Common.{arith}
use Rattle.chains.specs.Lists.{In}
use Rattle.chains.specs.Chains.{chains}
use Rattle.chains.specs.declared.message.Message.{Message}
use Rattle.chains.specs.Figures.{Figure, Laws}

abbrev pub counts : Figure ℕ
counts = record { alone = λ b. 1; extended = λ p q v. v; better = λ a b. (a + b) % 2 ^ 64 }

pub count_laws : Laws counts
count_laws = record { comm = λ a b. omega arith; assoc = λ a b c. omega arith; distributes = λ p q a b. refl }

-- what a run leaves: at each block of the order how many chains begin with it, modulo 2^64, and at every other entry
-- what stood there before
pub record CountedAtEach (ms : List Message) (order before after : List ℕ) : Type 0 where
  pub found : (b : ℕ) → In b order → slice_index after b ≡ length (chains ms (length order) b) % 2 ^ 64
  pub kept : (b : ℕ) → (In b order → ⊥) → slice_index after b ≡ slice_index before b
