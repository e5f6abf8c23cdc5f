use Rattle.bounds.proofs.Partitions.{sorted_processed}
use Rattle.bounds.proofs.bounds.blocks_can_be_processed.Goals as goal

pub returns : goal.returns
returns c = sorted_processed
