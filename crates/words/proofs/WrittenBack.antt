-- Words that are accepted are written back equal.
use Rattle.std.proofs.Common.{◌≡◌, ℕ, zero, suc, ◌+◌, ◌-◌, ◌*◌, ◌/◌, ◌%◌, ◌<◌, ◌≤◌, eqb, List, [], ◌∷◌, ◌++◌, length, get_or, set, sym, refl, ap, ◌∙◌, ⊎_elim, add-one, arith}
use Rattle.std.specs.List.{flat_map}
use Rattle.std.proofs.lemmas.List.{length-append, get_or_append_left, get_or-append-add, get_or_push, ext_get_or, length_push, get_or-set_same, get_or-set_other, set_past, get_or_past}
use Rattle.std.proofs.lemmas.Bool.{cases_eq, cases_lt}
use Rattle.graph.specs.declared.records.Link.{Link}
use Rattle.graph.specs.declared.records.Task.{Task}
use Rattle.graph.specs.Net.{Net, no_task, no_link, newest_of, Headed}
use Rattle.graph.specs.Calls.{first_of, with_newest}
use Rattle.graph.proofs.Threads.{headed_link}
use Rattle.words.specs.Words.{task_words, link_words, words_of, word_count}
use Rattle.words.specs.Reading.{word, task_count, link_count, time_place, newest_place, receiver_place, size_place, next_place, latest, sender_of, with_tasks, with_links, graph_read, form_rows, list_rows}
use Rattle.words.specs.Lists.{Named}
use Rattle.words.specs.RoundTrips.{WrittenBack}
use Rattle.words.proofs.Pieces.{length_pieces, getD_pieces}
use Rattle.words.proofs.Building.{tasks_built, tasks_stay, links_built, no_links_yet, or_else_none}
use Rattle.words.proofs.Pointers.{newest_built, newest_right, next_right}
use Rattle.words.proofs.Reading.{Formed, formed, listed}
use Rattle.words.proofs.Senders.{sender_known}

-- the words of a graph, by place
module _ (net : Net) where
  abbrev n : ℕ
  n = length net.tasks

  tasks_long : length (flat_map task_words net.tasks) ≡ 2 * n
  tasks_long = length_pieces task_words 2 (λ _. refl) net.tasks

  links_long : length (flat_map link_words net.links) ≡ 3 * length net.links
  links_long = length_pieces link_words 3 (λ _. refl) net.links

  pub length_words : length (words_of net) ≡ word_count n (length net.links)
  length_words = omega (arith, length-append (flat_map task_words net.tasks) (flat_map link_words net.links), tasks_long, links_long)

  past : (m k : ℕ) → k ≡ 3 + m → get_or (words_of net) k 0 ≡ get_or (flat_map task_words net.tasks ++ flat_map link_words net.links) m 0
  past m k e = let q : k ≡ suc (suc (suc m)) = omega arith in ap (λ j. get_or (words_of net) j 0) q

  pub word_of_task : (i r k : ℕ) → i < n → r < 2 → k ≡ 3 + (2 * i + r) → get_or (words_of net) k 0 ≡ get_or (task_words (get_or net.tasks i no_task)) r 0
  word_of_task i r k l m e =
      past (2 * i + r) k e
      ∙ get_or_append_left (flat_map task_words net.tasks) (flat_map link_words net.links) 0 (2 * i + r) (omega (arith, tasks_long))
      ∙ getD_pieces task_words 2 (λ _. refl) net.tasks i r no_task l m

  pub word_of_link : (j r k : ℕ) → j < length net.links → r < 3 → k ≡ 3 + (2 * n + (3 * j + r)) → get_or (words_of net) k 0 ≡ get_or (link_words (get_or net.links j no_link)) r 0
  word_of_link j r k l m e =
      let q : 2 * n + (3 * j + r) ≡ length (flat_map task_words net.tasks) + (3 * j + r) = omega (arith, tasks_long) in
      past (2 * n + (3 * j + r)) k e
      ∙ ap (λ x. get_or (flat_map task_words net.tasks ++ flat_map link_words net.links) x 0) q
      ∙ get_or-append-add (flat_map task_words net.tasks) (flat_map link_words net.links) (3 * j + r) 0
      ∙ getD_pieces link_words 3 (λ _. refl) net.links j r no_link l m

-- a link of the graph that the words stand for
abbrev made : List ℕ → ℕ → Link
made ws j = record { sender = sender_of ws (suc j); receiver = word ws (receiver_place ws (suc j)); size = word ws (size_place ws (suc j)); next = newest_of (with_links ws j).links (sender_of ws (suc j)) }

pub link_made : (ws : List ℕ) (l j : ℕ) → j < l → get_or (with_links ws l).links j no_link ≡ made ws j
link_made ws zero j h = absurd (omega arith)
link_made ws (suc l) j h =
    ⊎_elim
    (λ (same : j ≡ l). get_or_push (with_links ws l).links (made ws l) no_link j (links_built ws l ∙ sym same) ∙ ap (made ws) (sym same))
    (λ (ne : j ≡ l → ⊥). get_or_append_left (with_links ws l).links (made ws l ∷ []) no_link j (omega (arith, links_built ws l)) ∙ link_made ws l j (omega arith))
    (cases_eq j l)

-- times stay as they were added
task_time : (ws : List ℕ) (t i : ℕ) → i < t → (get_or (with_tasks ws t).tasks i no_task).time ≡ word ws (time_place (suc i))
task_time ws zero i h = absurd (omega arith)
task_time ws (suc t) i h =
    let x : Task = record { time = word ws (time_place (suc t)); newest = 0 } in
    ⊎_elim
    (λ (same : i ≡ t). ap (λ (y : Task). y.time) (get_or_push (with_tasks ws t).tasks x no_task i (tasks_built ws t ∙ sym same)) ∙ ap (λ k. word ws (time_place (suc k))) (sym same))
    (λ (ne : i ≡ t → ⊥). ap (λ (y : Task). y.time) (get_or_append_left (with_tasks ws t).tasks (x ∷ []) no_task i (omega (arith, tasks_built ws t))) ∙ task_time ws t i (omega arith))
    (cases_eq i t)

keeps_time : (tasks : List Task) (k i m : ℕ) → (get_or (set tasks k (with_newest (get_or tasks k no_task) m)) i no_task).time ≡ (get_or tasks i no_task).time
keeps_time tasks k i m =
    let y = with_newest (get_or tasks k no_task) m in
    ⊎_elim
    (λ (same : i ≡ k). ⊎_elim
    (λ (lt : k < length tasks). ap (λ j. (get_or (set tasks k y) j no_task).time) same ∙ ap (λ (x : Task). x.time) (get_or-set_same tasks k y no_task lt) ∙ ap (λ j. (get_or tasks j no_task).time) (sym same))
    (λ (ge : length tasks ≤ k). ap (λ (ts : List Task). (get_or ts i no_task).time) (set_past tasks k y ge))
    (cases_lt k (length tasks)))
    (λ (ne : i ≡ k → ⊥). ap (λ (x : Task). x.time) (get_or-set_other tasks k i y no_task ne))
    (cases_eq i k)

pub time_made : (ws : List ℕ) (l i : ℕ) → i < task_count ws → (get_or (with_links ws l).tasks i no_task).time ≡ word ws (time_place (suc i))
time_made ws zero i h = task_time ws (task_count ws) i h
time_made ws (suc l) i h = keeps_time (with_links ws l).tasks (sender_of ws (suc l) - 1) i _ ∙ time_made ws l i h

no_newest : (ws : List ℕ) (t i : ℕ) → (get_or (with_tasks ws t).tasks i no_task).newest ≡ 0
no_newest ws zero i = refl
no_newest ws (suc t) i =
    let x : Task = record { time = word ws (time_place (suc t)); newest = 0 } in
    ⊎_elim
    (λ (lt : i < t). ap (λ (y : Task). y.newest) (get_or_append_left (with_tasks ws t).tasks (x ∷ []) no_task i (omega (arith, tasks_built ws t))) ∙ no_newest ws t i)
    (λ (ge : t ≤ i). ⊎_elim
    (λ (same : i ≡ t). ap (λ (y : Task). y.newest) (get_or_push (with_tasks ws t).tasks x no_task i (tasks_built ws t ∙ sym same)))
    (λ (ne : i ≡ t → ⊥). ap (λ (y : Task). y.newest) (get_or_past ((with_tasks ws t).tasks ++ x ∷ []) i no_task (omega (arith, length_push (with_tasks ws t).tasks x, tasks_built ws t))))
    (cases_eq i t))
    (cases_lt i t)

-- each task names its newest link
pub headed_made : (ws : List ℕ) (l : ℕ) → ((k : ℕ) → 1 ≤ k → k ≤ l → (1 ≤ sender_of ws k) × (sender_of ws k ≤ task_count ws)) → Headed (with_links ws l).tasks (with_links ws l).links
headed_made ws zero known i lt = no_newest ws (task_count ws) i ∙ sym (ap (λ (ls : List Link). newest_of ls (i + 1)) (no_links_yet ws (task_count ws)))
headed_made ws (suc l) known i lt =
    let k = known (suc l) (omega arith) (omega arith) in
    let s = sender_of ws (suc l) in
    let lo : 1 ≤ s = k.0 in
    headed_link (with_links ws l).tasks (with_links ws l).links (made ws l) (s - 1) _ (omega (arith, k.1, tasks_stay ws l)) (omega arith) refl (headed_made ws l (λ j a b. known j a (omega arith))) i lt

module _ (ws : List ℕ) (f : Formed ws) (named : Named ws) where
  abbrev net : Net
  net = graph_read ws

  known : (k : ℕ) → 1 ≤ k → k ≤ link_count ws → (1 ≤ sender_of ws k) × (sender_of ws k ≤ task_count ws)
  known = sender_known ws named

  nt : length net.tasks ≡ task_count ws
  nt = tasks_stay ws (link_count ws)

  nl : length net.links ≡ link_count ws
  nl = links_built ws (link_count ws)

  newest_is : (i : ℕ) → i < task_count ws → (get_or net.tasks i no_task).newest ≡ word ws (newest_place (suc i))
  newest_is i l =
      headed_made ws (link_count ws) known i (omega (arith, nt)) ∙ ap (newest_of net.links) (add-one i) ∙ newest_built ws (link_count ws) (suc i) ∙ newest_right ws named (suc i) (omega arith) (omega arith)

  next_is : (j : ℕ) → j < link_count ws → (made ws j).next ≡ word ws (next_place ws (suc j))
  next_is j l =
      let back : j ≡ suc j - 1 = omega arith in
      newest_built ws j (sender_of ws (suc j)) ∙ ap (latest (λ k. eqb (sender_of ws k) (sender_of ws (suc j)))) back ∙ next_right ws named (suc j) (omega arith) (omega arith)

  of_task : (i r k : ℕ) → i < task_count ws → r < 2 → k ≡ 3 + (2 * i + r) → get_or (words_of net) k 0 ≡ get_or ws k 0
  of_task i zero k l m e =
      let q : time_place (suc i) ≡ k = omega arith in
      word_of_task net i 0 k (omega (arith, nt)) m e ∙ time_made ws (link_count ws) i l ∙ ap (word ws) q
  of_task i (suc zero) k l m e =
      let q : newest_place (suc i) ≡ k = omega arith in
      word_of_task net i 1 k (omega (arith, nt)) m e ∙ newest_is i l ∙ ap (word ws) q
  of_task i (suc (suc r)) k l m e = absurd (omega arith)

  of_link : (j r k : ℕ) → j < link_count ws → r < 3 → k ≡ 3 + (2 * task_count ws + (3 * j + r)) → get_or (words_of net) k 0 ≡ get_or ws k 0
  of_link j zero k l m e =
      let q : receiver_place ws (suc j) ≡ k = omega arith in
      word_of_link net j 0 k (omega (arith, nl)) m (omega (arith, nt)) ∙ ap (λ (x : Link). x.receiver) (link_made ws (link_count ws) j l) ∙ ap (word ws) q
  of_link j (suc zero) k l m e =
      let q : size_place ws (suc j) ≡ k = omega arith in
      word_of_link net j 1 k (omega (arith, nl)) m (omega (arith, nt)) ∙ ap (λ (x : Link). x.size) (link_made ws (link_count ws) j l) ∙ ap (word ws) q
  of_link j (suc (suc zero)) k l m e =
      let q : next_place ws (suc j) ≡ k = omega arith in
      word_of_link net j 2 k (omega (arith, nl)) m (omega (arith, nt)) ∙ ap (λ (x : Link). x.next) (link_made ws (link_count ws) j l) ∙ next_is j l ∙ ap (word ws) q
  of_link j (suc (suc (suc r))) k l m e = absurd (omega arith)

  at_place : (k : ℕ) → k < length ws → get_or (words_of net) k 0 ≡ get_or ws k 0
  at_place zero l = sym f.edition
  at_place (suc zero) l = nt
  at_place (suc (suc zero)) l = nl
  at_place (suc (suc (suc k))) l =
      let long : length ws ≡ word_count (task_count ws) (link_count ws) = f.long in
      ⊎_elim
      (λ (low : k < 2 * task_count ws). of_task (k / 2) (k % 2) (suc (suc (suc k))) (omega arith) (omega arith) (omega arith))
      (λ (high : 2 * task_count ws ≤ k).
      let d = k - 2 * task_count ws in
      of_link (d / 3) (d % 3) (suc (suc (suc k))) (omega arith) (omega arith) (omega arith))
      (cases_lt k (2 * task_count ws))

  pub same_words : words_of net ≡ ws
  same_words =
      let n : length (words_of net) ≡ length ws = length_words net ∙ omega (arith, f.long, nt, nl) in
      ext_get_or 0 (words_of net) ws n (λ k l. at_place k (omega arith))

pub written_back : (ws : List ℕ) → WrittenBack ws
written_back ws e =
    let a = or_else_none (first_of (form_rows ws)) _ e in
    let b = or_else_none (first_of (list_rows ws)) _ a.1 in
    same_words ws (formed ws a.0) (listed ws b.0).named
