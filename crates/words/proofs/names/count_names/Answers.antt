use Rattle.std.proofs.Common.{rules, ◌≡◌, ℕ, ◌+◌, ◌<◌, ◌≤◌, eqb, get_or, replicate, ap, arith}
use Rattle.std.proofs.lemmas.List.{get_or-replicate}
use Rattle.graph.specs.Tables.{count_below}
use Rattle.graph.proofs.Tables.{count_bound}
use Rattle.words.specs.Reading.{word, newest_place, next_place}
use Rattle.words.proofs.names.count_names.Goals as goal

zeros : (k : ℕ) → k < 1025 → get_or (replicate {A = ℕ} 1025 0) k 0 ≡ 0
zeros k l = get_or-replicate 1025 k 0 0 l

pub count_named-requires-clause-low : goal.count_named-requires-clause-low
count_named-requires-clause-low c = λ k l. let z : get_or (replicate {A = ℕ} 1025 0) k 0 ≤ 1024 = omega (arith, zeros k l) in z

pub count_named-requires-2-clause-low : goal.count_named-requires-2-clause-low
count_named-requires-2-clause-low c = λ l lt.
    let ws = c.args.job.now.words.now in
    let a = c.count_named.ensures (λ t. word ws (newest_place t)) (λ k x lo hi p. search rules) l lt in
    omega (arith, a, zeros l lt, count_bound (λ (i : ℕ). eqb (word ws (newest_place (i + 1))) l) c.task_count.result)

pub returns : goal.returns
returns c = λ l lt.
    let ws = c.args.job.now.words.now in
    let a = c.count_named.ensures (λ t. word ws (newest_place t)) (λ k x lo hi p. search rules) l lt in
    let b = c.count_named-2.ensures (λ k. word ws (next_place ws k)) (λ k x lo hi p. search rules) l lt in
    omega (arith, a, b, zeros l lt, ap (count_below (λ i. eqb (word ws (newest_place (i + 1))) l)) c.task_count.ensures.value, ap (count_below (λ i. eqb (word ws (next_place ws (i + 1))) l)) c.link_count.ensures.value)
