use Rattle.std.proofs.Common.{◌≡◌, ℕ, List, subst, inl, inr, ⊎_elim, rules}
use Rattle.chains.specs.Lists.{In}
use Rattle.partition.proofs.Summing.{blocks_low, task_known, task_fits, task_more, task_last}
use Rattle.partition.proofs.partition.times.add_tasks.Goals as goal

pub loop-task-init : goal.loop-task-init
loop-task-init c =
    let p = c.requires in
    let low = blocks_low _ c.args.blocks.now p.few p.all p.least in
    let all : c.into_iter-task-iterator.result.b.rest.now ≡ c.args.blocks.now = search rules in
    record { long = search rules; low = λ x i. low x (subst (λ (bs : List ℕ). In x bs) all i); holds = search rules }

pub add_at-requires : goal.add_at-requires
add_at-requires c =
    let p = c.requires in
    let s = c.in-Some.ensures.steps in
    record {
      known = task_known _ p.room _ p.few _ p.timed _ _ _ _ _ c.loop-task.invariant _ _ _ s.0 s.1 c.from.ensures;
      fits = task_fits _ p.room _ p.few _ p.timed _ _ _ _ _ c.loop-task.invariant _ _ _ s.0 s.1 c.from.ensures;
    }

pub loop-task-preserved : goal.loop-task-preserved
loop-task-preserved c =
    let p = c.requires in
    let s = c.in-Some.ensures.steps in
    task_more _ p.room _ p.few _ p.timed _ _ _ _ _ c.loop-task.invariant _ _ _ s.0 s.1 c.from.ensures _ c.add_at.ensures

pub returns : goal.returns
returns c = task_last _ _ _ _ _ _ c.loop-task.invariant (⊎_elim (λ s. inl s.1.0) (λ s. inr s.1.0) c.in-None.ensures.steps)
