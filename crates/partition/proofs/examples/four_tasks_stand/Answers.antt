use Rattle.std.proofs.Common.{refl}
use Rattle.partition.proofs.examples.four_tasks_stand.Goals as goal

pub returns : goal.returns
returns c = record { quiet = refl; chain = refl; handled = refl; first = refl; first_cost = refl; second_cost = refl; third_cost = refl; last_cost = refl; whole = refl; back = refl; whole_cost = refl }
