-- When two machines mean the same. Assumes nothing.
use Rattle.std.specs.Prelude.{◌≡◌, ℕ, ◌<◌, ◌≤◌}
use Rattle.machine.specs.Model.{Model, delay_answer, reading_answer, writing_answer}

-- m and n mean the same: as many processors, and equal times for every question within range
pub record Same (m n : Model) : Type 0 where
  pub processors : m.processors ≡ n.processors
  pub delay : (p q s : ℕ) → p < m.processors → q < m.processors → s ≤ 1000000 → m.delay p q s ≡ n.delay p q s
  pub startup : m.startup ≡ n.startup
  pub reading : (s : ℕ) → s ≤ 1000000 → m.reading s ≡ n.reading s
  pub writing : (s : ℕ) → s ≤ 1000000 → m.writing s ≡ n.writing s

-- m and n answer alike whatever is asked of the processors p and q and the size s, refusals included
pub record Alike (m n : Model) (p q s : ℕ) : Type 0 where
  pub processors : m.processors ≡ n.processors
  pub delay : delay_answer m p q s ≡ delay_answer n p q s
  pub startup : m.startup ≡ n.startup
  pub reading : reading_answer m s ≡ reading_answer n s
  pub writing : writing_answer m s ≡ writing_answer n s

-- To mean the same is to answer alike whatever is asked, and is an equivalence.
pub record SameLaws : Type 0 where
  pub alike : (m n : Model) → Same m n → (p q s : ℕ) → Alike m n p q s
  pub same : (m n : Model) → ((p q s : ℕ) → Alike m n p q s) → Same m n
  pub reflexive : (m : Model) → Same m m
  pub symmetric : (m n : Model) → Same m n → Same n m
  pub transitive : (l m n : Model) → Same l m → Same m n → Same l n
