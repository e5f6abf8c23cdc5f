use Rattle.bounds.proofs.Bounding.{bound_two}
use Rattle.bounds.proofs.bounds.bound_two.Goals as goal

pub returns : goal.returns
returns c = bound_two
