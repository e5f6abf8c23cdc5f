use Rattle.std.proofs.Common.{rules, ◌≡◌, ℕ, Bool, not, eqb, List, [], ◌∷◌, get_or, Ok, Err, ap, ◌∙◌, subst, arith}
use Rattle.graph.specs.declared.records.Refusal.TheVariants.{TimeOutOfRange}
use Rattle.graph.specs.Calls.{first_of}
use Rattle.words.specs.declared.refusal.ReadRefusal.{ReadRefusal}
use Rattle.words.specs.declared.refusal.ReadRefusal.TheVariants.{WrongPointer, NotNamedOnce, Refused}
use Rattle.words.specs.Reading.{task_count, link_count, newest_place, next_place, receiver_place, time_place, newest_missing, next_not_older, not_named_once, time_refused, at_first, list_rows, verdict}
use Rattle.words.proofs.Verdicts.{first_passes, first_refuses}
use Rattle.words.proofs.checks.check_lists.Goals as goal

-- the rows from the second on
abbrev fourth : List ℕ → List (Bool × ReadRefusal)
fourth ws = at_first (time_refused ws) (task_count ws) (λ t. Refused (time_place t) TimeOutOfRange) ∷ []

abbrev third : List ℕ → List (Bool × ReadRefusal)
third ws = at_first (not_named_once ws) (link_count ws) (λ l. NotNamedOnce (receiver_place ws l)) ∷ fourth ws

abbrev second : List ℕ → List (Bool × ReadRefusal)
second ws = at_first (next_not_older ws) (link_count ws) (λ l. WrongPointer (next_place ws l)) ∷ third ws

module _ (test : ℕ → Bool) (why : ℕ → ReadRefusal) (n m : ℕ) (e : n ≡ m) (rows : List (Bool × ReadRefusal)) where
  passed : Ok tt ≡ verdict (first_of (at_first test n why ∷ [])) → verdict (first_of rows) ≡ verdict (first_of (at_first test m why ∷ rows))
  passed h = first_passes _ _ (first_of rows) (subst (λ k. Ok tt ≡ verdict (first_of (at_first test k why ∷ []))) e h)

  refused : (y : ReadRefusal) → Err y ≡ verdict (first_of (at_first test n why ∷ [])) → Err y ≡ verdict (first_of (at_first test m why ∷ rows))
  refused y h = first_refuses _ _ y (first_of rows) (subst (λ k. Err y ≡ verdict (first_of (at_first test k why ∷ []))) e h)

pub returns-in_err-refuse_first : goal.returns-in_err-refuse_first
returns-in_err-refuse_first c =
    let ws = c.args.job.now.words.now in
    let h : Err c.in_err-refuse_first.field-0.0 ≡ verdict (first_of (list_rows ws)) =
    refused (newest_missing ws) (λ t. WrongPointer (newest_place t)) _ _ c.task_count-tasks.ensures.value (second ws) _
    (c.in_err-refuse_first.ensures (newest_missing ws) (λ t. WrongPointer (newest_place t)) (λ k x lo hi p. search rules) (λ k x lo hi p. search rules)) in
    search rules

pub returns-in_err-refuse_first-2 : goal.returns-in_err-refuse_first-2
returns-in_err-refuse_first-2 c =
    let ws = c.args.job.now.words.now in
    let h : Err c.in_err-refuse_first-2.field-0.0 ≡ verdict (first_of (list_rows ws)) =
    refused (next_not_older ws) (λ l. WrongPointer (next_place ws l)) _ _ c.link_count-links.ensures.value (third ws) _
    (c.in_err-refuse_first-2.ensures (next_not_older ws) (λ l. WrongPointer (next_place ws l)) (λ k x lo hi p. search rules) (λ k x lo hi p. search rules))
    ∙ passed (newest_missing ws) (λ t. WrongPointer (newest_place t)) _ _ c.task_count-tasks.ensures.value (second ws) (c.in_ok-refuse_first.ensures (newest_missing ws) (λ t. WrongPointer (newest_place t)) (λ k x lo hi p. search rules) (λ k x lo hi p. search rules)) in
    search rules

pub returns-in_err-refuse_first-3 : goal.returns-in_err-refuse_first-3
returns-in_err-refuse_first-3 c =
    let ws = c.args.job.now.words.now in
    let h : Err c.in_err-refuse_first-3.field-0.0 ≡ verdict (first_of (list_rows ws)) =
    refused (not_named_once ws) (λ l. NotNamedOnce (receiver_place ws l)) _ _ c.link_count-links.ensures.value (fourth ws) _
    (c.in_err-refuse_first-3.ensures (not_named_once ws) (λ l. NotNamedOnce (receiver_place ws l))
    (λ k x lo hi p. let q : x ≡ not (eqb (get_or c.count_names-counts.result k 0) 1) = search rules in q ∙ ap (λ v. not (eqb v 1)) (c.count_names-counts.ensures k (omega arith))) (λ k x lo hi p. search rules))
    ∙ passed (next_not_older ws) (λ l. WrongPointer (next_place ws l)) _ _ c.link_count-links.ensures.value (third ws) (c.in_ok-refuse_first-2.ensures (next_not_older ws) (λ l. WrongPointer (next_place ws l)) (λ k x lo hi p. search rules) (λ k x lo hi p. search rules))
    ∙ passed (newest_missing ws) (λ t. WrongPointer (newest_place t)) _ _ c.task_count-tasks.ensures.value (second ws) (c.in_ok-refuse_first.ensures (newest_missing ws) (λ t. WrongPointer (newest_place t)) (λ k x lo hi p. search rules) (λ k x lo hi p. search rules)) in
    search rules

pub returns : goal.returns
returns c =
    let ws = c.args.job.now.words.now in
    subst (λ n. c.refuse_first-4.result ≡ verdict (first_of (at_first (time_refused ws) n (λ t. Refused (time_place t) TimeOutOfRange) ∷ []))) c.task_count-tasks.ensures.value
    (c.refuse_first-4.ensures (time_refused ws) (λ t. Refused (time_place t) TimeOutOfRange) (λ k x lo hi p. search rules) (λ k x lo hi p. search rules))
    ∙ passed (not_named_once ws) (λ l. NotNamedOnce (receiver_place ws l)) _ _ c.link_count-links.ensures.value (fourth ws) (c.in_ok-refuse_first-3.ensures (not_named_once ws) (λ l. NotNamedOnce (receiver_place ws l))
    (λ k x lo hi p. let q : x ≡ not (eqb (get_or c.count_names-counts.result k 0) 1) = search rules in q ∙ ap (λ v. not (eqb v 1)) (c.count_names-counts.ensures k (omega arith))) (λ k x lo hi p. search rules))
    ∙ passed (next_not_older ws) (λ l. WrongPointer (next_place ws l)) _ _ c.link_count-links.ensures.value (third ws) (c.in_ok-refuse_first-2.ensures (next_not_older ws) (λ l. WrongPointer (next_place ws l)) (λ k x lo hi p. search rules) (λ k x lo hi p. search rules))
    ∙ passed (newest_missing ws) (λ t. WrongPointer (newest_place t)) _ _ c.task_count-tasks.ensures.value (second ws) (c.in_ok-refuse_first.ensures (newest_missing ws) (λ t. WrongPointer (newest_place t)) (λ k x lo hi p. search rules) (λ k x lo hi p. search rules))
