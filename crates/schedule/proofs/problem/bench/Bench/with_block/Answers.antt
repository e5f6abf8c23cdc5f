use Rattle.std.proofs.Common.{arith}
use Rattle.schedule.proofs.problem.bench.Bench.with_block.Goals as goal

pub bounds-self-block : goal.bounds-self-block
bounds-self-block g c = omega (arith, c.args.self.now.problem.now.numbered _ c.requires.listed)

pub bounds-fed-block : goal.bounds-fed-block
bounds-fed-block g c = omega (arith, c.args.self.now.problem.now.numbered _ c.requires.listed)
