use Rattle.bounds.proofs.Waiting.{chosen_waits}
use Rattle.bounds.proofs.chosen.no_earlier_block_waits.Goals as goal

pub returns : goal.returns
returns c = chosen_waits
