use Rattle.std.proofs.Common.{ℕ, false, replicate, refl}
use Rattle.schedule.specs.Seen.{seen}
use Rattle.schedule.proofs.Boarding.{empty_shows}
use Rattle.schedule.proofs.problem.bench.Bench.new.Goals as goal

pub invariant_of-result : goal.invariant_of-result
invariant_of-result g c =
    let few = (g.met.M.Machine.lawful c.args.machine.now).few in
    let s = empty_shows (g.M.Machine.meaning c.args.machine.now) (seen c.args.problem.now) few (record { rows = c.new.result; placed = replicate 257 false; free = replicate {A = ℕ} 32 0; arrivals = replicate 257 (replicate {A = ℕ} 32 0); length = 0 }) c.new.ensures refl refl refl refl in
    record { few = s.few; wide = s.wide; all = s.all; marks = s.marks; frees = s.frees; arrived = s.arrived; last = s.last; free_soon = s.free_soon; arrive_soon = s.arrive_soon }
