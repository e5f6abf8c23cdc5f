use Rattle.std.proofs.Common.{◌+◌, ◌-◌, ◌≤◌}
use Rattle.words.specs.Reading.{word, task_count, newest_place}
use Rattle.words.proofs.Naming.{Noted}
use Rattle.words.proofs.names.name_by_tasks.Given as goal

abbrev pub invariant-loop-task : goal.invariant-loop-task
invariant-loop-task l = record {
  near : l.task ≤ task_count l.job.words.now + 1;
  noted : Noted (λ t. word l.job.words.now (newest_place t)) l.senders (l.task - 1);
}
