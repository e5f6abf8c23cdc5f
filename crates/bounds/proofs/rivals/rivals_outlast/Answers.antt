use Rattle.bounds.proofs.Fitting.{rivals_outlast, valid_rival}
use Rattle.bounds.proofs.rivals.rivals_outlast.Goals as goal

pub returns : goal.returns
returns c = record { outlast = rivals_outlast; itself = valid_rival }
