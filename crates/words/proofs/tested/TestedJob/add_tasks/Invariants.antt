use Rattle.std.proofs.Common.{◌≡◌, ◌+◌, ◌-◌, ◌≤◌}
use Rattle.graph.specs.Of.{net_of}
use Rattle.words.specs.Reading.{task_count, with_tasks}
use Rattle.words.proofs.tested.TestedJob.add_tasks.Given as goal

abbrev pub invariant-loop-task : goal.invariant-loop-task
invariant-loop-task l = record {
  near : l.task ≤ task_count l.self.job.words.now + 1;
  net : net_of l.graph ≡ with_tasks l.self.job.words.now (l.task - 1);
}
