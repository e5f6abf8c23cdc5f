-- Each kind of order keeps the laws of an order.
use Rattle.std.specs.Prelude.{◌≡◌, true}
use Rattle.std.proofs.Common.{arith}
use Rattle.std.proofs.lemmas.Bool.Decides.{nat_tests}
use Rattle.schedule.specs.declared.priority.Standing.{Standing}
use Rattle.schedule.specs.Orders.{Order, Lawful, no_worse, refined}

-- where the second decides between equals, its laws and those of the first are enough
refined_transitive : (first second : Order) → Lawful first → Lawful second → (x y z : Standing) → no_worse (refined first second x y) ≡ true → no_worse (refined first second y z) ≡ true
    → no_worse (refined first second x z) ≡ true
refined_transitive first second f s x y z p q =
    let xy = f.exchange x y in
    let yz = f.exchange y z in
    let xz = f.exchange x z in
    let a = f.transitive x y z in
    let b = f.transitive y z x in
    let d = f.transitive z x y in
    let e = s.transitive x y z in
    grind (arith, nat_tests)

pub refined_lawful : (first second : Order) → Lawful first → Lawful second → Lawful (refined first second)
refined_lawful first second f s = record {
  itself = λ x. let a = f.itself x in let b = s.itself x in grind (arith, a, b);
  exchange = λ x y. let a = f.exchange x y in let b = s.exchange x y in grind (arith, a, b);
  transitive = λ x y z p q. refined_transitive first second f s x y z p q;
}
