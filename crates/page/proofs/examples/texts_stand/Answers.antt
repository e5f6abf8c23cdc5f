use Rattle.std.proofs.Common.{refl}
use Rattle.std.specs.Fmt.{digits}
use Rattle.page.proofs.examples.texts_stand.Goals as goal

pub returns : goal.returns
unfolding digits
returns c = record { rows = refl; faults = refl }
