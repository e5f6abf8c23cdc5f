use Rattle.bounds.proofs.Partitions.{bound_after_dividing}
use Rattle.bounds.proofs.bounds.bound_after_dividing.Goals as goal

pub returns : goal.returns
returns c = bound_after_dividing
