use Rattle.bounds.proofs.Explained.{lengths_explained}
use Rattle.bounds.proofs.bounds.lengths_explained.Goals as goal

pub returns : goal.returns
returns c = lengths_explained
