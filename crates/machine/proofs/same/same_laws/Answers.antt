use Rattle.machine.proofs.Sameness.{same_laws}
use Rattle.machine.proofs.same.same_laws.Goals as goal

pub returns : goal.returns
returns c = same_laws
