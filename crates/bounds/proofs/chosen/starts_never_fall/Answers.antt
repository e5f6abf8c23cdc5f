use Rattle.bounds.proofs.Rising.{starts_rise}
use Rattle.bounds.proofs.chosen.starts_never_fall.Goals as goal

pub returns : goal.returns
returns c = starts_rise
