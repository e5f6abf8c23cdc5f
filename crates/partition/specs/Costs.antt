-- What a partition costs on a machine: work, levels, critical path, delay chain and cost.
use Rattle.std.specs.Prelude.{◌≡◌, ℕ, zero, suc, ◌*◌, ◌≤◌, max, cond, ◌&&◌, List, length, ◌==◌}
use Rattle.chains.specs.declared.message.Message.{Message}
use Rattle.chains.specs.Chains.{chains, has}
use Rattle.chains.specs.Lists.{total, greatest}
use Rattle.chains.specs.Sums.{cost_in, steps_total}
use Rattle.machine.specs.Model.{Model}

-- the work: all block times together
abbrev pub work : (ℕ → ℕ) → List ℕ → ℕ
work time blocks = total time blocks

-- the level of block b: the greatest sum of block times over the chains that begin with it, which have at most n steps
abbrev pub level : (ℕ → ℕ) → List Message → ℕ → ℕ → ℕ
level time ms n b = greatest (total time) (chains ms n b)

-- the critical path: the greatest level
abbrev pub critical_path : (ℕ → ℕ) → List Message → List ℕ → ℕ
critical_path time ms blocks = greatest (level time ms (length blocks)) blocks

-- the greatest of f over the numbers below n
abbrev pub greatest_below : ℕ → (ℕ → ℕ) → ℕ
greatest_below zero f = 0
greatest_below (suc n) f = max (f n) (greatest_below n f)

-- the greatest delay for a size over all pairs of processors
abbrev pub farthest : Model → ℕ → ℕ
farthest m size = greatest_below m.processors (λ p. greatest_below m.processors (λ q. m.delay p q size))

-- what a step from a to b costs: the largest delay over all messages from a to b and all pairs of processors
abbrev pub step_cost : Model → List Message → ℕ → ℕ → ℕ
step_cost m ms a b = greatest (λ x. cond (x.from == a && x.to == b) (farthest m x.size) 0) ms

-- the delay of block b: the greatest sum of step costs over the chains that begin with it, which have at most n steps
abbrev pub delay_from : Model → List Message → ℕ → ℕ → ℕ
delay_from m ms n b = greatest (steps_total (step_cost m ms)) (chains ms n b)

-- the delay chain: the greatest sum of step costs over chains
abbrev pub delay_chain : Model → List Message → List ℕ → ℕ
delay_chain m ms blocks = greatest (λ b. greatest (steps_total (step_cost m ms)) (chains ms (length blocks) b)) blocks

-- the cost: the larger of P times the critical path, and the work
abbrev pub cost : Model → (ℕ → ℕ) → List Message → List ℕ → ℕ
cost m time ms blocks = max (m.processors * critical_path time ms blocks) (work time blocks)

-- at a block's number f of it, at any other 0
abbrev pub at_blocks : (ℕ → ℕ) → List ℕ → ℕ → ℕ
at_blocks f blocks b = cond (has b blocks) (f b) 0

-- at a block's number its level, at any other 0
abbrev pub level_at : (ℕ → ℕ) → List Message → List ℕ → ℕ → ℕ
level_at time ms blocks b = cond (has b blocks) (level time ms (length blocks) b) 0

abbrev pub delay_at : Model → List Message → List ℕ → ℕ → ℕ
delay_at m ms blocks = at_blocks (delay_from m ms (length blocks)) blocks

-- a table of step costs with 257 places for each sender
pub record AtEachStep (cost : ℕ → ℕ → ℕ) (table : List ℕ) : Type 0 where
  pub long : length table ≡ 66049
  pub holds : (a b : ℕ) → a ≤ 256 → b ≤ 256 → cost_in table a b ≡ cost a b
