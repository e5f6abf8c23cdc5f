use Rattle.std.proofs.Common.{take}
use Rattle.partition.specs.Costs.{step_cost, AtEachStep}
use Rattle.partition.proofs.partition.with_crossings.WithCrossings.step_costs.Given as goal

-- the costs by the messages so far
abbrev pub invariant-loop-message : goal.invariant-loop-message
invariant-loop-message g l = AtEachStep (step_cost (g.M.Machine.meaning l.machine) (take l.message-index l.message-items)) l.table
