use Rattle.bounds.proofs.Fitting.{chains_fit}
use Rattle.bounds.proofs.rivals.chains_fit.Goals as goal

pub returns : goal.returns
returns c = chains_fit
