-- What the tests of a list of words leave known, and the graph that is made of it.
use Rattle.std.proofs.Common.{◌≡◌, ℕ, zero, suc, ◌+◌, ◌-◌, ◌<◌, ◌≤◌, Bool, true, false, not, eqb, ltb, List, length, Some, None, Ok, Err, Option, sym, refl, ap, ◌∙◌, arith}
use Rattle.std.proofs.lemmas.Bool.{not-false, ltb-false, leb-false, eqb-true, cond-false, lt-leb, not_from_true}
use Rattle.graph.specs.Net.{Net}
use Rattle.graph.specs.Calls.{Answer, first_of, settle, is_time, task_rows, link_rows, with_task, add_step, link_step}
use Rattle.graph.specs.Walks.{least}
use Rattle.graph.proofs.Walks.{least_none}
use Rattle.words.specs.Words.{word_count}
use Rattle.words.specs.Reading.{word, task_count, link_count, time_place, receiver_place, size_place, newest_missing, next_not_older, not_named_once, time_refused, form_rows, list_rows, verdict, sender_of, with_tasks, with_links, link_refusal, first_refused}
use Rattle.words.specs.Lists.{Named, Timely}
use Rattle.words.proofs.Building.{tasks_built, none_refused}
use Rattle.words.proofs.Checking.{row_none}

pub verdict_ok : {R : Type 0} → (o : Option R) → Ok tt ≡ verdict o → o ≡ None
verdict_ok None e = refl
verdict_ok (Some why) e = cc

pub verdict_err : {R : Type 0} → (o : Option R) (why : R) → Err why ≡ verdict o → o ≡ Some why
verdict_err None why e = cc
verdict_err (Some w) why e = cc

-- words of the right form
pub record Formed (ws : List ℕ) : Type 0 where
  pub three : 3 ≤ length ws
  pub edition : word ws 0 ≡ 1
  pub long : length ws ≡ word_count (task_count ws) (link_count ws)

pub formed : (ws : List ℕ) → first_of (form_rows ws) ≡ None → Formed ws
formed ws e =
    let a = row_none (ltb (length ws) 3) _ _ e in
    let b = row_none (not (eqb (word ws 0) 1)) _ _ a.1 in
    let c = row_none (ltb 256 (task_count ws)) _ _ b.1 in
    let d = row_none (ltb 1024 (link_count ws)) _ _ c.1 in
    let f = row_none (not (eqb (length ws) (word_count (task_count ws) (link_count ws)))) _ _ d.1 in
    record {
      three = ltb-false _ _ a.0;
      edition = eqb-true _ _ (not-false _ b.0);
      long = eqb-true _ _ (not-false _ f.0);
    }

-- a test that holds at no number
nowhere : (test : ℕ → Bool) (n : ℕ) → not (eqb (least test n) 0) ≡ false → (t : ℕ) → 1 ≤ t → t ≤ n → test t ≡ false
nowhere test n e t lo hi = least_none test n (eqb-true _ _ (not-false _ e)) t lo hi

pub record Listed (ws : List ℕ) : Type 0 where
  pub named : Named ws
  pub timely : Timely ws

pub listed : (ws : List ℕ) → first_of (list_rows ws) ≡ None → Listed ws
listed ws e =
    let a = row_none (not (eqb (least (newest_missing ws) (task_count ws)) 0)) _ _ e in
    let b = row_none (not (eqb (least (next_not_older ws) (link_count ws)) 0)) _ _ a.1 in
    let c = row_none (not (eqb (least (not_named_once ws) (link_count ws)) 0)) _ _ b.1 in
    let d = row_none (not (eqb (least (time_refused ws) (task_count ws)) 0)) _ _ c.1 in
    record {
      named = record {
        there = λ t lo hi. ltb-false _ _ (nowhere (newest_missing ws) (task_count ws) a.0 t lo hi);
        older = λ l lo hi. leb-false _ _ (nowhere (next_not_older ws) (link_count ws) b.0 l lo hi);
        once = λ l lo hi. eqb-true _ _ (not-false _ (nowhere (not_named_once ws) (link_count ws) c.0 l lo hi));
      };
      timely = λ t lo hi. not-false _ (nowhere (time_refused ws) (task_count ws) d.0 t lo hi);
    }

-- a task that is allowed is added
adds : (net : Net) (time : ℕ) → is_time time ≡ true → length net.tasks < 256 → (add_step net time).0 ≡ with_task net time
adds net time ok room =
    let none : first_of (task_rows net time) ≡ None = cond-false _ _ _ (not_from_true _ ok) ∙ cond-false _ _ _ (lt-leb 256 _ room) in
    ap (λ o. (settle net o (with_task net time, length net.tasks + 1)).0) none

pub task_added : (ws : List ℕ) (t k v : ℕ) (net net' : Net) (r : Answer) → Timely ws → task_count ws ≤ 256 → 1 ≤ t → t ≤ task_count ws → t ≡ k → v ≡ word ws (time_place t) → net ≡ with_tasks ws (t - 1)
    → (net', r) ≡ add_step net v → net' ≡ with_tasks ws k
task_added ws zero k v net net' r timely few lo hi ek ev en step = absurd (omega arith)
task_added ws (suc i) k v net net' r timely few lo hi ek ev en step =
    let back : suc i - 1 ≡ i = omega arith in
    let was : net ≡ with_tasks ws i = en ∙ ap (with_tasks ws) back in
    ap (λ (p : Net × Answer). p.0) step
    ∙ adds net v (ap is_time ev ∙ timely (suc i) lo hi) (omega (arith, ap (λ (m : Net). length m.tasks) was, tasks_built ws i))
    ∙ ap (λ m. with_task m v) was ∙ ap (with_task (with_tasks ws i)) ev ∙ ap (with_tasks ws) ek

pub link_added : (ws : List ℕ) (l k s r z : ℕ) (net net' : Net) (a : Answer) → first_refused ws (link_count ws) ≡ None → 1 ≤ l → l ≤ link_count ws → l ≡ k
    → s ≡ sender_of ws l → r ≡ word ws (receiver_place ws l) → z ≡ word ws (size_place ws l) → net ≡ with_links ws (l - 1) → (net', a) ≡ link_step net s r z → net' ≡ with_links ws k
link_added ws zero k s r z net net' a allowed lo hi ek es er ez en step = absurd (omega arith)
link_added ws (suc i) k s r z net net' a allowed lo hi ek es er ez en step =
    let l = suc i in
    let back : l - 1 ≡ i = omega arith in
    let was : net ≡ with_links ws i = en ∙ ap (with_links ws) back in
    let none : link_refusal ws l ≡ None = none_refused ws (link_count ws) l allowed lo hi in
    let go : (link_step (with_links ws i) (sender_of ws l) (word ws (receiver_place ws l)) (word ws (size_place ws l))).0 ≡ with_links ws l =
    ap (λ o. (settle (with_links ws i) o (with_links ws l, length (with_links ws i).links + 1)).0)
    (ap (λ k. first_of (link_rows (with_links ws k) (sender_of ws l) (word ws (receiver_place ws l)) (word ws (size_place ws l)))) (sym back) ∙ none) in
    ap (λ (p : Net × Answer). p.0) step
    ∙ ap (λ m. (link_step m s r z).0) was
    ∙ ap (λ k. (link_step (with_links ws i) k r z).0) es
    ∙ ap (λ k. (link_step (with_links ws i) (sender_of ws l) k z).0) er
    ∙ ap (λ k. (link_step (with_links ws i) (sender_of ws l) (word ws (receiver_place ws l)) k).0) ez
    ∙ go ∙ ap (with_links ws) ek
