-- What is known of a problem as it is lent.
use Rattle.std.proofs.Common.{ℕ, ◌<◌, ◌≤◌, length, arith}
use Rattle.chains.specs.declared.message.Message.{Message}
use Rattle.chains.specs.Chains.{place}
use Rattle.chains.specs.Lists.{In}
use Rattle.chains.proofs.Lists.{place_in, once_apart}
use Rattle.schedule.specs.declared.problem.Problem.{Problem}
use Rattle.schedule.specs.Problems.{Sound}
use Rattle.schedule.specs.Seen.{seen}

-- a number with a place in the order is a block's
listed_low : (p : Problem) (b : ℕ) → place p.order.now b < length p.order.now → b ≤ 256
listed_low p b l = (p.numbered b (place_in p.blocks.now b (p.known b l))).1

pub to_low : (p : Problem) (m : Message) → In m p.messages.now → m.to ≤ 256
to_low p m i = listed_low p m.to (p.forward m i).1

pub from_low : (p : Problem) (m : Message) → In m p.messages.now → m.from ≤ 256
from_low p m i = listed_low p m.from (omega (arith, (p.forward m i).0, (p.forward m i).1))

-- a problem as it is lent is sound
pub sound : (p : Problem) → Sound (seen p)
sound p = record {
  once = once_apart p.blocks.now p.once;
  long = p.long;
  joins = λ m i.
      let to = (p.forward m i).1 in
      let from : place p.order.now m.from < length p.order.now = omega (arith, (p.forward m i).0, to) in
      (place_in p.blocks.now m.from (p.known m.from from), place_in p.blocks.now m.to (p.known m.to to));
}
