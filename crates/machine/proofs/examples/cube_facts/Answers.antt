use Rattle.machine.proofs.Worked.{cube_example}
use Rattle.machine.proofs.examples.cube_facts.Goals as goal

pub returns : goal.returns
returns c = cube_example
