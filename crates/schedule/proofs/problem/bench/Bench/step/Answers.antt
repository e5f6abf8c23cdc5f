use Rattle.std.proofs.Common.{sym, ◌∙◌, subst}
use Rattle.schedule.specs.Boards.{count, Fitting}
use Rattle.schedule.specs.Seen.{seen, earlier_in}
use Rattle.schedule.proofs.Benches.{shown}
use Rattle.schedule.proofs.Choosing.{chosen_fits}
use Rattle.schedule.proofs.problem.bench.Bench.step.Goals as goal

pub add_row-requires-clause-fits : goal.add_row-requires-clause-fits
add_row-requires-clause-fits g c =
    let b = c.args.self.now in
    let M = g.M.Machine.meaning b.machine.now in
    let p = b.problem.now in
    let e = earlier_in (g.O.Priority.meaning b.priority.now) p in
    subst (Fitting M.processors (count b.board)) (sym c.choose.ensures ∙ c.in-Some.is) (chosen_fits M (seen p) e b.board (shown b) (g.met.M.Machine.lawful b.machine.now).some (λ x i. ((p.numbered x i).1, p.brief x i)))
