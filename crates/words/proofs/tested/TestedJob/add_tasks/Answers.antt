use Rattle.std.proofs.Common.{◌+◌, ◌-◌, arith}
use Rattle.words.specs.Reading.{task_count}
use Rattle.words.proofs.Reading.{task_added}
use Rattle.words.proofs.tested.TestedJob.add_tasks.Goals as goal

pub loop-task-preserved : goal.loop-task-preserved
loop-task-preserved c =
    let job = c.args.self.now.job in
    record {
      near = omega arith;
      net = task_added job.words.now c.loop-task.task (c.loop-task.task + 1 - 1) _ _ _ _ c.args.self.now.timely job.few_tasks (omega arith) (omega arith) (omega arith) c.time.ensures c.loop-task.invariant.net c.add_task.ensures;
    }

pub returns-2 : goal.returns-2
returns-2 c =
    let job = c.args.self.now.job in
    task_added job.words.now c.loop-task.task (task_count job.words.now) _ _ _ _ c.args.self.now.timely job.few_tasks (omega arith) (omega arith) (omega (arith, c.loop-task.invariant.near)) c.time.ensures c.loop-task.invariant.net c.add_task.ensures
