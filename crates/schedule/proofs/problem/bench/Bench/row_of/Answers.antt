use Rattle.std.proofs.Common.{ℕ, ap, arith}
use Rattle.schedule.specs.Seen.{seen}
use Rattle.schedule.proofs.Benches.{shown}
use Rattle.schedule.proofs.Choosing.{earliest_known}
use Rattle.schedule.proofs.problem.bench.Bench.row_of.Goals as goal

pub earliest-start-requires : goal.earliest-start-requires
earliest-start-requires g c = (c.args.self.now.problem.now.numbered _ c.requires).1

pub bounds-self-block : goal.bounds-self-block
bounds-self-block g c = omega (arith, c.args.self.now.problem.now.numbered _ c.requires)

pub overflow_add-result : goal.overflow_add-result
overflow_add-result g c =
    let b = c.args.self.now in
    let M = g.M.Machine.meaning b.machine.now in
    let p = b.problem.now in
    let known = earliest_known M (seen p) b.board (shown b) (g.met.M.Machine.lawful b.machine.now).some c.args.block (p.numbered _ c.requires).1 in
    let start = ap (λ (x : ℕ × ℕ). x.0) c.earliest-start.ensures in
    omega (arith, b.few, p.brief _ c.requires, known.0, start)
