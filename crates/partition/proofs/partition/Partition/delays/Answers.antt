use Rattle.std.proofs.Common.{◌≡◌, ℕ, List, subst, rules}
use Rattle.machine.specs.Model.{Model}
use Rattle.partition.specs.Named.{delay_of}
use Rattle.partition.specs.Times.{AtEach}
use Rattle.partition.specs.declared.partition.Partition.{Partition}
use Rattle.partition.proofs.partition.Partition.delays.Goals as goal

-- the delays of a partition are those of an equal one
moved : (m : Model) (p q : Partition) (table : List ℕ) → p ≡ q → AtEach (delay_of m p) table → AtEach (delay_of m q) table
moved m p q table e at = subst (λ (r : Partition). AtEach (delay_of m r) table) e at

pub returns : goal.returns
returns g c = search (rules, moved)
