use Rattle.partition.proofs.Summing.{Adding}
use Rattle.partition.proofs.partition.times.add_tasks.Given as goal

abbrev pub invariant-loop-task : goal.invariant-loop-task
invariant-loop-task l = Adding l.initial.table l.tasks l.blocks l.table l.task-iterator.a.rest.now l.task-iterator.b.rest.now
