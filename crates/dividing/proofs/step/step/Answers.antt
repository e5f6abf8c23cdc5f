use Rattle.std.proofs.Common.{◌<◌, length, arith}
use Rattle.partition.specs.Blocks.{block_list}
use Rattle.partition.specs.declared.partition.Partition.{Partition}
use Rattle.joining.proofs.Leading.{order_counted}
use Rattle.dividing.specs.Views.{blocks_of}
use Rattle.dividing.proofs.Stepping.{heavy_known, partner_some, both_known, next_met}
use Rattle.dividing.proofs.step.step.Goals as goal

several : (p : Partition) → 1 < length p.order.now → 1 < length (block_list (blocks_of p))
several p more = omega (arith, order_counted p)

pub best_partner-requires : goal.best_partner-requires
best_partner-requires g c =
    let m = g.M.Machine.meaning c.args.machine.now in
    let p = c.args.partition.now in
    record { known = heavy_known m p (several p c.if-partition-le1.false) c.of-reach.result.partition c.of-reach.ensures c.heaviest-heavy.result c.heaviest-heavy.ensures }

pub returns-then-partition-le1 : goal.returns-then-partition-le1
returns-then-partition-le1 g c = omega (arith, order_counted c.args.partition.now, c.if-partition-le1.true)

pub returns-in_err-choice : goal.returns-in_err-choice
returns-in_err-choice g c =
    let m = g.M.Machine.meaning c.args.machine.now in
    let p = c.args.partition.now in
    absurd (partner_some m p (several p c.if-partition-le1.false) c.of-reach.result.partition c.of-reach.ensures c.heaviest-heavy.result c.heaviest-heavy.ensures
    c.in_err-choice.ensures)

pub returns-in_err-joined : goal.returns-in_err-joined
returns-in_err-joined g c =
    let m = g.M.Machine.meaning c.args.machine.now in
    let p = c.args.partition.now in
    absurd (both_known m p (several p c.if-partition-le1.false) c.of-reach.result.partition c.of-reach.ensures c.heaviest-heavy.result c.heaviest-heavy.ensures
    c.in_ok-choice.choice c.in_ok-choice.ensures c.in_err-joined.ensures)

pub returns : goal.returns
returns g c =
    let m = g.M.Machine.meaning c.args.machine.now in
    let p = c.args.partition.now in
    next_met m p (several p c.if-partition-le1.false) c.of-reach.result.partition c.of-reach.ensures c.heaviest-heavy.result c.heaviest-heavy.ensures
    c.in_ok-choice.choice c.in_ok-joined.joined c.in_ok-choice.ensures c.in_ok-joined.ensures
