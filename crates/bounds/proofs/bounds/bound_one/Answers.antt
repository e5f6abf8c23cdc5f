use Rattle.bounds.proofs.Bounding.{bound_one}
use Rattle.bounds.proofs.bounds.bound_one.Goals as goal

pub returns : goal.returns
returns c = bound_one
