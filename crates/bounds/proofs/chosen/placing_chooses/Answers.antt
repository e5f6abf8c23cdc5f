use Rattle.bounds.proofs.Placed.{placing_chooses}
use Rattle.bounds.proofs.chosen.placing_chooses.Goals as goal

pub returns : goal.returns
returns c = placing_chooses
