-- The greatest delay of a machine for a size. Assumes nothing.
use Rattle.std.specs.Prelude.{◌≡◌, ℕ, ◌<◌, ◌≤◌}
use Rattle.machine.specs.declared.refusal.MachineRefusal.{MachineRefusal}
use Rattle.machine.specs.declared.refusal.MachineRefusal.TheVariants.{SizeTooLarge}
use Rattle.machine.specs.Model.{Model}

-- d is the greatest of what n processors have, where `has p x` says that p has x: each has at most d, and one has d
pub record GreatestOf (n : ℕ) (has : ℕ → ℕ → Type 0) (d : ℕ) : Type 0 where
  pub bound : (p : ℕ) → p < n → (x : ℕ) × has p x × (x ≤ d)
  pub reached : 0 < n → (p : ℕ) × (p < n) × has p d

-- d is the greatest delay from the processor p for the size s, which is within its limit
pub record GreatestFrom (m : Model) (p s d : ℕ) : Type 0 where
  pub size : s ≤ 1000000
  pub bound : (q : ℕ) → q < m.processors → m.delay p q s ≤ d
  pub reached : (q : ℕ) × (q < m.processors) × (m.delay p q s ≡ d)

-- d is the greatest delay between any two processors for the size s, which is within its limit: none is above it, and two have it
pub record GreatestDelay (m : Model) (s d : ℕ) : Type 0 where
  pub size : s ≤ 1000000
  pub bound : (p q : ℕ) → p < m.processors → q < m.processors → m.delay p q s ≤ d
  pub reached : (p : ℕ) × (q : ℕ) × (p < m.processors) × (q < m.processors) × (m.delay p q s ≡ d)

-- the size s is above its limit, and is refused for that
pub record Oversized (s : ℕ) (why : MachineRefusal) : Type 0 where
  pub size : 1000000 < s
  pub reason : why ≡ SizeTooLarge
