use Rattle.std.proofs.Common.{refl}
use Rattle.checking.proofs.examples.four_blocks_checked.Goals as goal

pub returns : goal.returns
returns c = record { accepted = refl; too_soon = refl }
