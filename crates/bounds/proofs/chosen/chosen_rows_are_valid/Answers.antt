use Rattle.bounds.proofs.Valid.{chosen_valid}
use Rattle.bounds.proofs.chosen.chosen_rows_are_valid.Goals as goal

pub returns : goal.returns
returns c = chosen_valid
