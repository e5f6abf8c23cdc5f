use Rattle.bounds.proofs.Bounding.{placing_stands}
use Rattle.bounds.proofs.bounds.placing_stands.Goals as goal

pub returns : goal.returns
returns c = placing_stands
