use Rattle.std.proofs.Common.{◌≡◌, ℕ, ◌+◌, ◌-◌, ◌<◌, ◌≤◌, List, set, sym, ap, ◌∙◌, subst, arith}
use Rattle.std.proofs.lemmas.List.{get_or-replicate, length-replicate}
use Rattle.words.specs.Reading.{word, task_count, newest_place}
use Rattle.words.proofs.Naming.{Noted, noted_hit}
use Rattle.words.proofs.names.name_by_tasks.Goals as goal

-- the table after one task more
noted_more : (f : ℕ → ℕ) (T : List ℕ) (t k m : ℕ) → 1 ≤ t → t ≡ k → m ≡ f t → m < 1025 → Noted f T (t - 1) → Noted f (set T m t) k
noted_more f T t k m lo e is lt c =
    let b : t - 1 + 1 ≡ t = omega arith in
    subst (Noted f (set T m t)) e (subst (λ j. Noted f (set T m j) j) b (noted_hit f T (t - 1) m (ap f b ∙ sym is) lt c))

pub loop-task-init : goal.loop-task-init
loop-task-init c = record { near = omega arith; noted = (length-replicate {A = ℕ} 1025 0, λ k l. get_or-replicate 1025 k 0 0 l) }

pub loop-task-preserved : goal.loop-task-preserved
loop-task-preserved c =
    let ws = c.args.job.now.words.now in
    let t = c.loop-task.task in
    let in_table : c.newest.result < 1025 = omega (arith, c.requires.there t (omega arith) (omega arith), c.args.job.now.few_links) in
    record { near = omega arith; noted = noted_more (λ k. word ws (newest_place k)) c.loop-task.senders t (t + 1 - 1) _ (omega arith) (omega arith) c.newest.ensures in_table c.loop-task.invariant.noted }

pub returns-2-clause-names : goal.returns-2-clause-names
returns-2-clause-names c =
    let ws = c.args.job.now.words.now in
    let t = c.loop-task.task in
    let e : t ≡ task_count ws = omega (arith, c.loop-task.invariant.near) in
    let in_table : c.newest.result < 1025 = omega (arith, c.requires.there t (omega arith) (omega arith), c.args.job.now.few_links) in
    let all = noted_more (λ k. word ws (newest_place k)) c.loop-task.senders t (task_count ws) c.newest.result (omega arith) e c.newest.ensures in_table c.loop-task.invariant.noted in
    all.1
