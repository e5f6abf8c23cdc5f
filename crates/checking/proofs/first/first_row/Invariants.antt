use Rattle.std.proofs.Common.{◌≡◌, take, drop}
use Rattle.checking.specs.Checking.{Test, Agrees, first_after, first_row}
use Rattle.checking.proofs.first.first_row.Given as goal

abbrev pub invariant-loop-i : goal.invariant-loop-i
invariant-loop-i g l = (t : Test) → Agrees (λ above row b. goal.F-post g l.takes above row b) t
    → first_after t (take l.i l.rows) (drop l.i l.rows) ≡ first_row t l.rows
