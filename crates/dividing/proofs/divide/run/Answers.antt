use Rattle.std.proofs.Common.{cond, ltb, sym, ap, subst}
use Rattle.dividing.specs.Choosing.{cheaper}
use Rattle.dividing.specs.Kept.{Kept}
use Rattle.dividing.specs.Views.{net_of, blocks_of}
use Rattle.dividing.specs.declared.divided.Divided.{Divided}
use Rattle.dividing.proofs.Running.{running_start, running_more, running_done, falls}
use Rattle.dividing.proofs.Viewing.{view_fit}
use Rattle.dividing.proofs.divide.run.Goals as goal

pub loop-next-init : goal.loop-next-init
loop-next-init g c =
    let p = c.args.partition.now in
    running_start (g.M.Machine.meaning c.args.machine.now) (net_of p) (blocks_of p) _ c.cost.result c.held_apart.ensures.tables c.held_apart.ensures.partition c.cost.ensures

pub after-requires : goal.after-requires
after-requires g c = record { sorted = c.loop-next.invariant.stands.sorted }

pub loop-next-smaller : goal.loop-next-smaller
loop-next-smaller g c =
    let p = c.args.partition.now in
    let now = c.loop-next.present in
    falls (g.M.Machine.meaning c.args.machine.now) (net_of p) (view_fit p) (blocks_of p) now.joined (cheaper c.loop-next.kept now) c.loop-next.invariant c.in-Some.next c.in-Some.ensures

pub loop-next-preserved : goal.loop-next-preserved
loop-next-preserved g c =
    let p = c.args.partition.now in
    let now = c.loop-next.present in
    let next = c.in-Some.next in
    running_more (g.M.Machine.meaning c.args.machine.now) (net_of p) (view_fit p) (blocks_of p) now.joined (cheaper c.loop-next.kept now) c.loop-next.invariant next c.in-Some.ensures
    _ (ap (λ (k : Divided). cond (ltb next.cost k.cost) next k) c.cheaper.ensures)

pub returns : goal.returns
returns g c =
    let p = c.args.partition.now in
    let m = g.M.Machine.meaning c.args.machine.now in
    let now = c.loop-next.present in
    subst (Kept m (net_of p) (blocks_of p)) (sym c.cheaper-2.ensures)
    (running_done m (net_of p) (view_fit p) (blocks_of p) now.joined (cheaper c.loop-next.kept now) c.loop-next.invariant c.in_default.ensures)
