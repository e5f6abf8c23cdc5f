-- What an answer of a machine tells. Assumes nothing.
use Rattle.std.proofs.Common.{◌≡◌, ℕ, ◌<◌, ◌≤◌, Ok, arith}
use Rattle.std.proofs.lemmas.Bool.Decides.{nat_tests}
use Rattle.machine.specs.Model.{Model, Lawful, asked, delay_answer}

-- what is told of two processors of n and a size is told of those in range
pub record Told {X : Type 0} (n p q s : ℕ) (x y : X) : Type 0 where
  pub from : p < n
  pub to : q < n
  pub size : s ≤ 1000000
  pub value : x ≡ y

pub told : {X : Type 0} (n p q s : ℕ) (x y : X) → Ok x ≡ asked n p q s y → Told n p q s x y
told n p q s x y e = record {
  from = grind (arith, nat_tests);
  to = grind (arith, nat_tests);
  size = grind (arith, nat_tests);
  value = grind (arith, nat_tests);
}

-- a delay that is told is within the law
pub told_le : (m : Model) (p q s d : ℕ) → Lawful m → Ok d ≡ delay_answer m p q s → d ≤ 1000000000
told_le m p q s d l e =
    let t = told m.processors p q s d (m.delay p q s) e in
    let h = l.near p q s t.from t.to t.size in omega (arith, h, t.value)
