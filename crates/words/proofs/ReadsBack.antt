-- The words of a graph are accepted, and stand for that graph.
use Rattle.std.proofs.Common.{◌≡◌, ℕ, zero, suc, ◌+◌, ◌-◌, ◌<◌, ◌≤◌, Bool, true, false, cond, not, eqb, List, [], ◌∷◌, ◌++◌, length, get_or, take, None, sym, refl, ap, ◌∙◌, subst, ap₂, ⊎_elim, add-one, arith}
use Rattle.std.proofs.lemmas.List.{take_more, take_all, ext_get_or}
use Rattle.std.proofs.lemmas.Bool.{both_ways, cases_eq, cases_lt, cases_Bool, eq-eqb, eqb-true, cond-false, and_from, le-leb, le-ltb, lt-leb, not_from_true}
use Rattle.graph.specs.declared.records.Link.{Link}
use Rattle.graph.specs.declared.records.Task.{Task}
use Rattle.graph.specs.Net.{Net, no_task, no_link, newest_of, linked, Sound}
use Rattle.graph.specs.Calls.{first_of, is_time}
use Rattle.graph.specs.Tables.{count_below}
use Rattle.graph.specs.Walks.{least}
use Rattle.graph.proofs.LastOfs.{last_more_hit, last_more_miss}
use Rattle.graph.proofs.Tables.{count_hit, count_miss}
use Rattle.graph.proofs.Walks.{least_more}
use Rattle.words.specs.Words.{words_of, word_count}
use Rattle.words.specs.Reading.{word, task_count, link_count, time_place, newest_place, receiver_place, size_place, next_place, form_rows, list_rows, newest_missing, next_not_older, not_named_once, time_refused, times_named, latest, naming_task, naming_link, sender_of, with_links, graph_read, link_refusal, or_else, first_refused}
use Rattle.words.specs.Lists.{Named}
use Rattle.words.specs.RoundTrips.{ReadsBack}
use Rattle.words.proofs.Building.{tasks_stay, no_links_yet, fault_none}
use Rattle.words.proofs.Checking.{passes}
use Rattle.words.proofs.Senders.{latest_hit, latest_miss, latest_bound, latest_from, latest_holds, later_link, sender_task, sender_link, sender_known}
use Rattle.words.proofs.WrittenBack.{length_words, word_of_task, word_of_link, time_made, headed_made}

-- counts of one and of none
count_none : (p : ℕ → Bool) (n : ℕ) → ((j : ℕ) → j < n → p j ≡ true → ⊥) → count_below p n ≡ 0
count_none p zero h = refl
count_none p (suc n) h =
    let step = ap (count_below p) (add-one n) in
    ⊎_elim
    (λ t. absurd (h n (omega arith) t))
    (λ t. omega (arith, step, count_miss p n t, count_none p n (λ j l. h j (omega arith))))
    (cases_Bool (p n))

count_once : (p : ℕ → Bool) (n i : ℕ) → i < n → p i ≡ true → ((j : ℕ) → j < n → p j ≡ true → j ≡ i) → count_below p n ≡ 1
count_once p zero i l y h = absurd (omega arith)
count_once p (suc n) i l y h =
    let step = ap (count_below p) (add-one n) in
    ⊎_elim
    (λ t.
    let same : n ≡ i = h n (omega arith) t in
    omega (arith, step, count_hit p n t, count_none p n (λ j m z. let q : j ≡ i = h j (omega arith) z in omega arith)))
    (λ t. ⊎_elim
    (λ (same : i ≡ n). absurd (both_ways _ t (subst (λ k. p k ≡ true) same y)))
    (λ (ne : i ≡ n → ⊥). omega (arith, step, count_miss p n t, count_once p n i (omega arith) y (λ j m z. h j (omega arith) z)))
    (cases_eq i n))
    (cases_Bool (p n))

least_nowhere : (p : ℕ → Bool) (n : ℕ) → ((t : ℕ) → 1 ≤ t → t ≤ n → p t ≡ false) → least p n ≡ 0
least_nowhere p zero h = refl
least_nowhere p (suc n) h = least_more p n (least_nowhere p n (λ t lo hi. h t lo (omega arith))) (h (suc n) (omega arith) (omega arith))

module _ (net : Net) (sound : Sound net.tasks net.links) (few_tasks : length net.tasks ≤ 256) (few_links : length net.links ≤ 1024) where
  abbrev ws : List ℕ
  ws = words_of net

  abbrev tasks : List Task
  tasks = net.tasks

  abbrev links : List Link
  links = net.links

  abbrev n : ℕ
  n = length tasks

  abbrev e : ℕ
  e = length links

  -- the sender of link l, and whether it is s
  abbrev sender : ℕ → ℕ
  sender l = (get_or links (l - 1) no_link).sender

  abbrev by : ℕ → ℕ → Bool
  by s k = eqb (sender k) s

  newest_latest : (s i : ℕ) → i ≤ e → newest_of (take i links) s ≡ latest (by s) i
  newest_latest s zero h = refl
  newest_latest s (suc i) h =
      let lt : i < e = omega arith in
      let back : suc i - 1 ≡ i = omega arith in
      let step : newest_of (take (suc i) links) s ≡ newest_of (take (i + 1) links) s = ap (λ k. newest_of (take k links) s) (sym (add-one i)) in
      let read : by s (suc i) ≡ eqb (get_or links i no_link).sender s = ap (λ k. eqb (get_or links k no_link).sender s) back in
      ⊎_elim
      (λ t. step ∙ last_more_hit (λ l. eqb l.sender s) links i no_link lt (sym read ∙ t) ∙ add-one i ∙ sym (latest_hit (by s) i t))
      (λ t. step ∙ last_more_miss (λ l. eqb l.sender s) links i no_link lt (sym read ∙ t) ∙ newest_latest s i (omega arith) ∙ sym (latest_miss (by s) i t))
      (cases_Bool (by s (suc i)))

  whole : take e links ≡ links
  whole = take_all e links (omega arith)

  -- the words, by task and by link
  time_word : (t : ℕ) → 1 ≤ t → t ≤ n → word ws (time_place t) ≡ (get_or tasks (t - 1) no_task).time
  time_word t lo hi = word_of_task net (t - 1) 0 (time_place t) (omega arith) (omega arith) (omega arith)

  newest_word : (t : ℕ) → 1 ≤ t → t ≤ n → word ws (newest_place t) ≡ latest (by t) e
  newest_word t lo hi =
      let back : t - 1 + 1 ≡ t = omega arith in
      word_of_task net (t - 1) 1 (newest_place t) (omega arith) (omega arith) (omega arith)
      ∙ sound.headed (t - 1) (omega arith) ∙ ap (newest_of links) back ∙ ap (λ (ls : List Link). newest_of ls t) (sym whole) ∙ newest_latest t e (omega arith)

  receiver_word : (l : ℕ) → 1 ≤ l → l ≤ e → word ws (receiver_place ws l) ≡ (get_or links (l - 1) no_link).receiver
  receiver_word l lo hi = word_of_link net (l - 1) 0 (receiver_place ws l) (omega arith) (omega arith) (omega arith)

  size_word : (l : ℕ) → 1 ≤ l → l ≤ e → word ws (size_place ws l) ≡ (get_or links (l - 1) no_link).size
  size_word l lo hi = word_of_link net (l - 1) 1 (size_place ws l) (omega arith) (omega arith) (omega arith)

  next_word : (l : ℕ) → 1 ≤ l → l ≤ e → word ws (next_place ws l) ≡ latest (by (sender l)) (l - 1)
  next_word l lo hi =
      word_of_link net (l - 1) 2 (next_place ws l) (omega arith) (omega arith) (omega arith) ∙ sound.threaded (l - 1) (omega arith) ∙ newest_latest (sender l) (l - 1) (omega arith)

  sender_range : (l : ℕ) → 1 ≤ l → l ≤ e → (1 ≤ sender l) × (sender l ≤ n)
  sender_range l lo hi = let j = sound.joined (l - 1) (omega arith) in (j.0, j.1)

  -- what a pointer to l says of l's sender
  pointed : (s i l : ℕ) → latest (by s) i ≡ l → 1 ≤ l → sender l ≡ s
  pointed s i l q lo = let h = latest_holds (by s) i (λ z. omega (arith, q, z)) in ap sender (sym q) ∙ eqb-true _ _ h

  -- the next link of the same sender after l
  record Follower (l : ℕ) : Type 0 where
    link : ℕ
    lo : 1 ≤ link
    hi : link ≤ e
    same : sender link ≡ sender l
    names : latest (by (sender l)) (link - 1) ≡ l

  follower : (l m : ℕ) → 1 ≤ l → m ≤ e → l < latest (by (sender l)) m → Follower l
  follower l zero lo hi q = absurd (omega arith)
  follower l (suc m) lo hi q =
      let s = sender l in
      ⊎_elim
      (λ t. ⊎_elim
      (λ (up : l < latest (by s) m). follower l m lo (omega arith) up)
      (λ (low : latest (by s) m ≤ l).
      let top = latest_hit (by s) m t in
      let from = latest_from (by s) m l lo (omega arith) (eq-eqb _ _ refl) in
      let back : suc m - 1 ≡ m = omega arith in
      record { link = suc m; lo = omega arith; hi = hi; same = eqb-true _ _ t; names = ap (latest (by s)) back ∙ omega arith })
      (cases_lt l (latest (by s) m)))
      (λ t. follower l m lo (omega arith) (omega (arith, latest_miss (by s) m t)))
      (cases_Bool (by s (suc m)))

  abbrev by_task : ℕ → ℕ → Bool
  by_task l i = eqb (word ws (newest_place (i + 1))) l

  abbrev by_link : ℕ → ℕ → Bool
  by_link l j = eqb (word ws (next_place ws (j + 1))) l

  -- a task that names l is its sender, and l is the last of that sender
  named_by_task : (l i : ℕ) → 1 ≤ l → i < n → by_task l i ≡ true → (i + 1 ≡ sender l) × (latest (by (sender l)) e ≡ l)
  named_by_task l i lo h t =
      let q : latest (by (i + 1)) e ≡ l = sym (newest_word (i + 1) (omega arith) (omega arith)) ∙ eqb-true _ _ t in
      let s : sender l ≡ i + 1 = pointed (i + 1) e l q lo in
      (sym s, ap (λ k. latest (by k) e) s ∙ q)

  -- a link that names l has its sender, and comes right after it
  named_by_link : (l j : ℕ) → 1 ≤ l → j < e → by_link l j ≡ true → (sender l ≡ sender (j + 1)) × (latest (by (sender l)) j ≡ l)
  named_by_link l j lo h t =
      let back : j + 1 - 1 ≡ j = omega arith in
      let q : latest (by (sender (j + 1))) (j + 1 - 1) ≡ l = sym (next_word (j + 1) (omega arith) (omega arith)) ∙ eqb-true _ _ t in
      let s : sender l ≡ sender (j + 1) = pointed (sender (j + 1)) (j + 1 - 1) l q lo in
      (s, ap (λ k. latest (by k) j) s ∙ ap (latest (by (sender (j + 1)))) (sym back) ∙ q)

  once : (l : ℕ) → 1 ≤ l → l ≤ e → times_named ws l ≡ 1
  once l lo hi =
      let s = sender l in
      let r = sender_range l lo hi in
      let s1 : 1 ≤ s = r.0 in
      let s2 : s ≤ n = r.1 in
      let up : l ≤ latest (by s) e = latest_from (by s) e l lo hi (eq-eqb _ _ refl) in
      ⊎_elim
      (λ (last : latest (by s) e ≡ l).
      let back : s - 1 + 1 ≡ s = omega arith in
      let a = count_once (by_task l) n (s - 1) (omega arith) (eq-eqb _ _ (ap (λ k. word ws (newest_place k)) back ∙ newest_word s s1 s2 ∙ last))
      (λ j m t. let q : j + 1 ≡ s = (named_by_task l j lo m t).0 in omega arith) in
      let b = count_none (by_link l) e (λ j m t.
      let q = named_by_link l j lo m t in
      let low : l ≤ j = subst (λ x. x ≤ j) q.1 (latest_bound (by s) j) in
      let high : j + 1 ≤ latest (by s) e = latest_from (by s) e (j + 1) (omega arith) (omega arith) (eq-eqb _ _ (sym q.0)) in
      omega arith) in
      omega arith)
      (λ (ne : latest (by s) e ≡ l → ⊥).
      let f = follower l e lo (omega arith) (omega arith) in
      let k = f.link in
      let k1 : 1 ≤ k = f.lo in
      let k2 : k ≤ e = f.hi in
      let back : k - 1 + 1 ≡ k = omega arith in
      let reads : word ws (next_place ws (k - 1 + 1)) ≡ l = ap (λ x. word ws (next_place ws x)) back ∙ next_word k k1 k2 ∙ ap (λ x. latest (by x) (k - 1)) f.same ∙ f.names in
      let after : l ≤ k - 1 = subst (λ x. x ≤ k - 1) f.names (latest_bound (by s) (k - 1)) in
      let a = count_none (by_task l) n (λ j m t. ne (named_by_task l j lo m t).1) in
      let b = count_once (by_link l) e (k - 1) (omega arith) (eq-eqb _ _ reads) (λ j m t.
      let q = named_by_link l j lo m t in
      let low : l ≤ j = subst (λ x. x ≤ j) q.1 (latest_bound (by s) j) in
      ⊎_elim
      (λ (lt : j < k - 1).
      let c : j + 1 ≤ latest (by s) (k - 1) = latest_from (by s) (k - 1) (j + 1) (omega arith) (omega arith) (eq-eqb _ _ (sym q.0)) in
      absurd (omega (arith, f.names)))
      (λ (ge : k - 1 ≤ j). ⊎_elim
      (λ (same : j ≡ k - 1). same)
      (λ (other : j ≡ k - 1 → ⊥).
      let c : k ≤ latest (by s) j = latest_from (by s) j k k1 (omega arith) (eq-eqb _ _ f.same) in
      absurd (omega (arith, q.1)))
      (cases_eq j (k - 1)))
      (cases_lt j (k - 1))) in
      omega arith)
      (cases_eq (latest (by s) e) l)

  pub named : Named ws
  named = record {
    there = λ t lo hi. subst (λ x. x ≤ e) (sym (newest_word t lo hi)) (latest_bound (by t) e);
    older = λ l lo hi. omega (arith, next_word l lo hi, latest_bound (by (sender l)) (l - 1));
    once = once;
  }

  -- the senders that the words lead to are those of the links
  sender_from : (f l : ℕ) → e < f + l → 1 ≤ l → l ≤ e → sender_of ws l ≡ sender l
  sender_from zero l d lo hi = absurd (omega arith)
  sender_from (suc f) l d lo hi =
      ⊎_elim
      (λ (z : naming_task ws l ≡ 0).
      let k = later_link ws named l lo hi z in
      let m = naming_link ws l in
      let up : l < m = k.2 in
      let q : latest (by (sender m)) (m - 1) ≡ l = sym (next_word m k.0 k.1) ∙ k.3 in
      sender_link ws named l lo hi z ∙ sender_from f m (omega arith) k.0 k.1 ∙ sym (pointed (sender m) (m - 1) l q lo))
      (λ (nz : naming_task ws l ≡ 0 → ⊥).
      let u = naming_task ws l in
      let uh : u ≤ n = latest_bound (λ t. eqb (word ws (newest_place t)) l) n in
      let holds : word ws (newest_place u) ≡ l = eqb-true _ _ (latest_holds (λ t. eqb (word ws (newest_place t)) l) n nz) in
      let q : latest (by u) e ≡ l = sym (newest_word u (omega arith) uh) ∙ holds in
      sender_task ws named l lo hi nz ∙ sym (pointed u e l q lo))
      (cases_eq (naming_task ws l) 0)

  sender_right : (l : ℕ) → 1 ≤ l → l ≤ e → sender_of ws l ≡ sender l
  sender_right l lo hi = sender_from (suc e) l (omega arith) lo hi

  same_link : (a b : Link) → a.sender ≡ b.sender → a.receiver ≡ b.receiver → a.size ≡ b.size → a.next ≡ b.next → a ≡ b
  same_link a b p q r s =
      ap (λ x. let k : Link = record { sender = x; receiver = a.receiver; size = a.size; next = a.next } in k) p
      ∙ ap (λ x. let k : Link = record { sender = b.sender; receiver = x; size = a.size; next = a.next } in k) q
      ∙ ap (λ x. let k : Link = record { sender = b.sender; receiver = b.receiver; size = x; next = a.next } in k) r
      ∙ ap (λ x. let k : Link = record { sender = b.sender; receiver = b.receiver; size = b.size; next = x } in k) s

  -- linking the first l links makes the first l links
  links_right : (l : ℕ) → l ≤ e → (with_links ws l).links ≡ take l links
  links_right zero h = no_links_yet ws (task_count ws)
  links_right (suc l) h =
      let lt : l < e = omega arith in
      let back : suc l - 1 ≡ l = omega arith in
      let x = get_or links l no_link in
      let ih = links_right l (omega arith) in
      let s : sender_of ws (suc l) ≡ x.sender = sender_right (suc l) (omega arith) h ∙ ap (λ k. (get_or links k no_link).sender) back in
      let r = receiver_word (suc l) (omega arith) h ∙ ap (λ k. (get_or links k no_link).receiver) back in
      let z = size_word (suc l) (omega arith) h ∙ ap (λ k. (get_or links k no_link).size) back in
      let nx = ap (λ (ls : List Link). newest_of ls (sender_of ws (suc l))) ih ∙ ap (newest_of (take l links)) s ∙ sym (sound.threaded l lt) in
      ap₂ (λ (ls : List Link) (k : Link). ls ++ k ∷ []) ih (same_link _ x s r z nx)
      ∙ sym (take_more links l no_link lt) ∙ ap (λ k. take k links) (add-one l)

  link_allowed : (l : ℕ) → 1 ≤ l → l ≤ e → link_refusal ws l ≡ None
  link_allowed l lo hi =
      let j = sound.joined (l - 1) (omega arith) in
      let s = sender_right l lo hi in
      let r = receiver_word l lo hi in
      let free : linked (with_links ws (l - 1)).links (sender l) (get_or links (l - 1) no_link).receiver ≡ 0 =
      ap (λ (ls : List Link). linked ls (sender l) (get_or links (l - 1) no_link).receiver) (links_right (l - 1) (omega arith)) ∙ sound.single (l - 1) (omega arith) in
      sym (fault_none ws l few_links lo hi (sender_known ws named l lo hi) (sender l) (get_or links (l - 1) no_link).receiver (sym s) (sym r) (λ z. omega (arith, j.2)) j.3 (sound.unlooped (l - 1) (omega arith))
      (get_or links (l - 1) no_link).size 0 (sym (size_word l lo hi)) (sound.sized (l - 1) (omega arith)) (sym free) refl)

  all_allowed : (l : ℕ) → l ≤ e → first_refused ws l ≡ None
  all_allowed zero h = refl
  all_allowed (suc l) h = passes ws l (all_allowed l (omega arith)) (link_allowed (suc l) (omega arith) h)

  form_passes : first_of (form_rows ws) ≡ None
  form_passes =
      let long : length ws ≡ word_count n e = length_words net in
      cond-false _ _ _ (le-ltb (length ws) 3 (omega arith))
      ∙ cond-false _ _ _ (le-ltb 256 n few_tasks) ∙ cond-false _ _ _ (le-ltb 1024 e few_links)
      ∙ cond-false _ _ _ (not_from_true _ (eq-eqb _ _ long))

  row_clear : {X : Type 0} (x y : X) (test : ℕ → Bool) (k : ℕ) → ((t : ℕ) → 1 ≤ t → t ≤ k → test t ≡ false) → cond (not (eqb (least test k) 0)) x y ≡ y
  row_clear x y test k h = cond-false _ x y (not_from_true _ (eq-eqb _ _ (least_nowhere test k h)))

  lists_pass : first_of (list_rows ws) ≡ None
  lists_pass =
      row_clear _ _ (newest_missing ws) n (λ t lo hi. le-ltb e _ (named.there t lo hi))
      ∙ row_clear _ _ (next_not_older ws) e (λ l lo hi. lt-leb l _ (named.older l lo hi))
      ∙ row_clear _ _ (not_named_once ws) e (λ l lo hi. not_from_true _ (eq-eqb _ _ (once l lo hi)))
      ∙ row_clear _ _ (time_refused ws) n (λ t lo hi.
      let k = sound.timed (t - 1) (omega arith) in
      not_from_true _ (ap is_time (time_word t lo hi) ∙ and_from _ _ (le-leb 1 _ k.0) (le-leb _ 1000000 k.1)))

  same_task : (a b : Task) → a.time ≡ b.time → a.newest ≡ b.newest → a ≡ b
  same_task a b p q =
      ap (λ x. let k : Task = record { time = x; newest = a.newest } in k) p ∙ ap (λ x. let k : Task = record { time = b.time; newest = x } in k) q

  same_tasks : (graph_read ws).tasks ≡ tasks
  same_tasks =
      ext_get_or no_task (graph_read ws).tasks tasks (tasks_stay ws e) (λ i l.
      let lt : i < n = omega (arith, tasks_stay ws e) in
      let back : suc i - 1 ≡ i = omega arith in
      same_task _ _
      (time_made ws e i lt ∙ time_word (suc i) (omega arith) (omega arith) ∙ ap (λ k. (get_or tasks k no_task).time) back)
      (headed_made ws e (sender_known ws named) i l ∙ ap (λ (ls : List Link). newest_of ls (i + 1)) (links_right e (omega arith) ∙ whole) ∙ sym (sound.headed i lt)))

  pub reads_back : ReadsBack net
  reads_back = record {
    accepted =
        ap (λ o. or_else o (or_else (first_of (list_rows ws)) (first_refused ws (link_count ws)))) form_passes ∙ ap (λ o. or_else o (first_refused ws (link_count ws))) lists_pass ∙ all_allowed e (omega arith);
    same = ap₂ (λ (ts : List Task) (ls : List Link). let k : Net = record { tasks = ts; links = ls } in k) same_tasks (links_right e (omega arith) ∙ whole);
  }
