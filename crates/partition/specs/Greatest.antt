-- What levels, critical paths, delay chains and step costs are: none is greater, and one is as great.
use Rattle.std.specs.Prelude.{◌≡◌, ℕ, ◌<◌, ◌≤◌, List, length}
use Rattle.chains.specs.declared.message.Message.{Message}
use Rattle.chains.specs.Chains.{ChainFrom, Step}
use Rattle.chains.specs.Lists.{In, total}
use Rattle.chains.specs.Sums.{GreatestFrom}
use Rattle.machine.specs.Model.{Model}
use Rattle.partition.specs.Costs.{level}

-- every block's level is the greatest sum of block times over the chains that begin with it: one has it, and none has more
abbrev pub LevelsGreatest : (ℕ → ℕ) → List Message → List ℕ → Type 0
LevelsGreatest time ms blocks = (b : ℕ) → In b blocks → GreatestFrom ms b (total time) (level time ms (length blocks) b)

-- x is the greatest of f over the chains that begin with one of the blocks: one of them has it, and none has more; where
-- there is no block, it is 0
pub record GreatestOver (ms : List Message) (blocks : List ℕ) (f : List ℕ → ℕ) (x : ℕ) : Type 0 where
  pub attained : 0 < length blocks → (b : ℕ) × (c : List ℕ) × In b blocks × ChainFrom ms b c × (f c ≡ x)
  pub bound : (b : ℕ) (c : List ℕ) → In b blocks → ChainFrom ms b c → f c ≤ x
  pub none : length blocks ≡ 0 → x ≡ 0

-- x is the greatest delay of a message from a to b between any two processors: none of them has more, and where there is
-- such a message, one has it; where there is none, x is 0
pub record GreatestStep (m : Model) (ms : List Message) (a b x : ℕ) : Type 0 where
  pub bound : (y : Message) → In y ms → y.from ≡ a → y.to ≡ b → (p q : ℕ) → p < m.processors → q < m.processors → m.delay p q y.size ≤ x
  pub attained : Step ms a b → (y : Message) × (p : ℕ) × (q : ℕ) × In y ms × (y.from ≡ a) × (y.to ≡ b) × (p < m.processors) × (q < m.processors) × (m.delay p q y.size ≡ x)
  pub none : (Step ms a b → ⊥) → x ≡ 0
