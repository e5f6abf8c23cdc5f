use Rattle.bounds.proofs.Fitting.{work_fits}
use Rattle.bounds.proofs.rivals.work_fits.Goals as goal

pub returns : goal.returns
returns c = work_fits
