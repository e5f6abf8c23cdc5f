use Rattle.bounds.proofs.Worked.{four_blocks_are_near}
use Rattle.bounds.proofs.examples.four_blocks_are_near.Goals as goal

pub returns : goal.returns
returns c = four_blocks_are_near
