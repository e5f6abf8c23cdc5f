use Rattle.std.proofs.Common.{sym}
use Rattle.schedule.specs.Seen.{standing_in}
use Rattle.schedule.proofs.problem.bench.Bench.is_earlier.Goals as goal

pub returns : goal.returns
returns g c = c.is_earlier.ensures (standing_in c.args.self.now.problem.now) (sym c.standing.ensures) (sym c.standing-2.ensures)
