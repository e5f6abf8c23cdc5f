-- In whose list each link stands, where every link is named once.
use Rattle.std.proofs.Common.{◌≡◌, ℕ, zero, suc, ◌+◌, ◌-◌, ◌<◌, ◌≤◌, Bool, true, false, eqb, List, length, get_or, set, sym, refl, ap, ◌∙◌, subst, ⊎_elim, add-one, arith, length-set}
use Rattle.std.proofs.lemmas.List.{get_or-set_same, get_or-set_other}
use Rattle.std.proofs.lemmas.Bool.{both_ways, cases_eq, cases_lt, cases_Bool, eq-eqb, ne_eqb, eqb-true, cond-true, cond-false}
use Rattle.graph.specs.Tables.{count_below}
use Rattle.graph.proofs.Tables.{count_hit, count_miss}
use Rattle.words.specs.Reading.{word, task_count, link_count, newest_place, next_place, latest, naming_task, naming_link, owner, sender_of}
use Rattle.words.specs.Lists.{Named}

-- the greatest number that passes
module _ (p : ℕ → Bool) where
  pub latest_hit : (n : ℕ) → p (suc n) ≡ true → latest p (suc n) ≡ suc n
  latest_hit n t = cond-true _ _ _ t

  pub latest_miss : (n : ℕ) → p (suc n) ≡ false → latest p (suc n) ≡ latest p n
  latest_miss n t = cond-false _ _ _ t

  pub latest_bound : (n : ℕ) → latest p n ≤ n
  latest_bound zero = omega arith
  latest_bound (suc n) = ⊎_elim (λ t. omega (arith, latest_hit n t)) (λ t. omega (arith, latest_miss n t, latest_bound n)) (cases_Bool (p (suc n)))

  pub latest_from : (n t : ℕ) → 1 ≤ t → t ≤ n → p t ≡ true → t ≤ latest p n
  latest_from zero t lo hi y = absurd (omega arith)
  latest_from (suc n) t lo hi y =
      ⊎_elim (λ h. omega (arith, latest_hit n h))
      (λ h. ⊎_elim
      (λ (e : t ≡ suc n). absurd (both_ways _ h (subst (λ k. p k ≡ true) e y)))
      (λ (ne : t ≡ suc n → ⊥). omega (arith, latest_miss n h, latest_from n t lo (omega arith) y))
      (cases_eq t (suc n)))
      (cases_Bool (p (suc n)))

  pub latest_holds : (n : ℕ) → (latest p n ≡ 0 → ⊥) → p (latest p n) ≡ true
  latest_holds zero nz = absurd (nz refl)
  latest_holds (suc n) nz =
      ⊎_elim (λ h. rw (latest_hit n h) h) (λ h. rw (latest_miss n h) (latest_holds n (λ z. nz (latest_miss n h ∙ z)))) (cases_Bool (p (suc n)))

-- counts of what passes
count_some : (p : ℕ → Bool) (n i : ℕ) → i < n → p i ≡ true → 1 ≤ count_below p n
count_some p zero i l y = absurd (omega arith)
count_some p (suc n) i l y =
    let step = add-one n in
    ⊎_elim
    (λ h. omega (arith, ap (count_below p) step, count_hit p n h))
    (λ h. ⊎_elim
    (λ (e : i ≡ n). absurd (both_ways _ h (subst (λ k. p k ≡ true) e y)))
    (λ (ne : i ≡ n → ⊥). omega (arith, ap (count_below p) step, count_miss p n h, count_some p n i (omega arith) y))
    (cases_eq i n))
    (cases_Bool (p n))

count_two : (p : ℕ → Bool) (n i j : ℕ) → i < j → j < n → p i ≡ true → p j ≡ true → 2 ≤ count_below p n
count_two p zero i j l m y z = absurd (omega arith)
count_two p (suc n) i j l m y z =
    let step = add-one n in
    ⊎_elim
    (λ h. omega (arith, ap (count_below p) step, count_hit p n h, count_some p n i (omega arith) y))
    (λ h. ⊎_elim
    (λ (e : j ≡ n). absurd (both_ways _ h (subst (λ k. p k ≡ true) e z)))
    (λ (ne : j ≡ n → ⊥). omega (arith, ap (count_below p) step, count_miss p n h, count_two p n i j l (omega arith) y z))
    (cases_eq j n))
    (cases_Bool (p n))

count_finds : (p : ℕ → Bool) (n : ℕ) → 1 ≤ count_below p n → (i : ℕ) × (i < n) × (p i ≡ true)
count_finds p zero h = absurd (omega arith)
count_finds p (suc n) h =
    let step = ap (count_below p) (add-one n) in
    ⊎_elim
    (λ t. (n, omega arith, t))
    (λ t. let r = count_finds p n (omega (arith, step, count_miss p n t)) in let l : r.0 < n = r.1 in (r.0, omega arith, r.2))
    (cases_Bool (p n))

-- where the count over the numbers from 1 is at most one, what passes is the latest
only_latest : (p : ℕ → Bool) (n t : ℕ) → count_below (λ i. p (i + 1)) n ≤ 1 → 1 ≤ t → t ≤ n → p t ≡ true → latest p n ≡ t
only_latest p n t few lo hi y =
    let m = latest p n in
    let ge : t ≤ m = latest_from p n t lo hi y in
    let le : m ≤ n = latest_bound p n in
    let at : (k : ℕ) → 1 ≤ k → p k ≡ true → p (k - 1 + 1) ≡ true = λ k l z. let e : k - 1 + 1 ≡ k = omega arith in ap p e ∙ z in
    ⊎_elim
    (λ (e : m ≡ t). e)
    (λ (ne : m ≡ t → ⊥).
    let two = count_two (λ i. p (i + 1)) n (t - 1) (m - 1) (omega arith) (omega arith) (at t lo y) (at m (omega arith) (latest_holds p n (omega arith))) in
    absurd (omega arith))
    (cases_eq m t)

module _ (ws : List ℕ) (named : Named ws) where
  abbrev n : ℕ
  n = task_count ws

  abbrev e : ℕ
  e = link_count ws

  abbrev by_task : ℕ → ℕ → Bool
  by_task l t = eqb (word ws (newest_place t)) l

  abbrev by_link : ℕ → ℕ → Bool
  by_link l k = eqb (word ws (next_place ws k)) l

  -- a task is the only one to name its newest link
  pub one_task : (t l : ℕ) → 1 ≤ l → l ≤ e → 1 ≤ t → t ≤ n → word ws (newest_place t) ≡ l → naming_task ws l ≡ t
  one_task t l lo hi tl th y = only_latest (by_task l) n t (omega (arith, named.once l lo hi)) tl th (eq-eqb _ _ y)

  -- a link is the only one to name its next link
  pub one_link : (k l : ℕ) → 1 ≤ l → l ≤ e → 1 ≤ k → k ≤ e → word ws (next_place ws k) ≡ l → naming_link ws l ≡ k
  one_link k l lo hi kl kh y = only_latest (by_link l) e k (omega (arith, named.once l lo hi)) kl kh (eq-eqb _ _ y)

  back : (k : ℕ) → 1 ≤ k → k - 1 + 1 ≡ k
  back k l = omega arith

  pub no_task_too : (k l : ℕ) → 1 ≤ l → l ≤ e → 1 ≤ k → k ≤ e → word ws (next_place ws k) ≡ l → naming_task ws l ≡ 0
  no_task_too k l lo hi kl kh y =
      let m = naming_task ws l in
      ⊎_elim
      (λ (z : m ≡ 0). z)
      (λ (nz : m ≡ 0 → ⊥).
      let mh : m ≤ n = latest_bound (by_task l) n in
      let a = count_some (λ i. by_task l (i + 1)) n (m - 1) (omega arith) (ap (by_task l) (back m (omega arith)) ∙ latest_holds (by_task l) n nz) in
      let b = count_some (λ j. by_link l (j + 1)) e (k - 1) (omega arith) (ap (by_link l) (back k kl) ∙ eq-eqb _ _ y) in
      absurd (omega (arith, named.once l lo hi)))
      (cases_eq m 0)

  -- a link that no task names is named by a later link
  pub later_link : (l : ℕ) → 1 ≤ l → l ≤ e → naming_task ws l ≡ 0 → (1 ≤ naming_link ws l) × (naming_link ws l ≤ e) × (l < naming_link ws l) × (word ws (next_place ws (naming_link ws l)) ≡ l)
  later_link l lo hi z =
      let none : count_below (λ i. by_task l (i + 1)) n ≡ 0 =
      ⊎_elim
      (λ (c : count_below (λ i. by_task l (i + 1)) n < 1). omega arith)
      (λ (c : 1 ≤ count_below (λ i. by_task l (i + 1)) n).
      let f = count_finds (λ i. by_task l (i + 1)) n c in
      let fl : f.0 < n = f.1 in
      absurd (omega (arith, latest_from (by_task l) n (f.0 + 1) (omega arith) (omega arith) f.2)))
      (cases_lt (count_below (λ i. by_task l (i + 1)) n) 1) in
      let g = count_finds (λ j. by_link l (j + 1)) e (omega (arith, named.once l lo hi)) in
      let gl : g.0 < e = g.1 in
      let k = g.0 + 1 in
      let is : naming_link ws l ≡ k = one_link k l lo hi (omega arith) (omega arith) (eqb-true _ _ g.2) in
      let read : word ws (next_place ws (naming_link ws l)) ≡ l = ap (λ x. word ws (next_place ws x)) is ∙ eqb-true _ _ g.2 in
      let older : word ws (next_place ws k) < k = named.older k (omega arith) (omega arith) in
      let at_k : word ws (next_place ws k) ≡ l = eqb-true _ _ g.2 in
      (omega arith, omega arith, omega arith, read)

  -- going back long enough is all that matters
  owner_same : (f g l : ℕ) → 1 ≤ l → l ≤ e → e < f + l → e < g + l → owner ws f l ≡ owner ws g l
  owner_same zero g l lo hi a b = absurd (omega arith)
  owner_same (suc f) zero l lo hi a b = absurd (omega arith)
  owner_same (suc f) (suc g) l lo hi a b =
      ⊎_elim
      (λ (z : naming_task ws l ≡ 0).
      let k = later_link l lo hi z in
      let up : l < naming_link ws l = k.2 in
      cond-true _ _ _ (eq-eqb _ _ z) ∙ owner_same f g (naming_link ws l) k.0 k.1 (omega arith) (omega arith) ∙ sym (cond-true _ _ _ (eq-eqb _ _ z)))
      (λ (nz : naming_task ws l ≡ 0 → ⊥). cond-false _ _ _ (ne_eqb _ _ nz) ∙ sym (cond-false _ _ _ (ne_eqb _ _ nz)))
      (cases_eq (naming_task ws l) 0)

  owner_more : (f l : ℕ) → 1 ≤ l → l ≤ e → e < f + l → owner ws f l ≡ sender_of ws l
  owner_more f l lo hi a = owner_same f e l lo hi a (omega arith)

  -- the sender of a link that a task names
  pub sender_task : (l : ℕ) → 1 ≤ l → l ≤ e → (naming_task ws l ≡ 0 → ⊥) → sender_of ws l ≡ naming_task ws l
  sender_task l lo hi nz = sym (owner_more (suc e) l lo hi (omega arith)) ∙ cond-false _ _ _ (ne_eqb _ _ nz)

  -- the sender of a link that a link names
  pub sender_link : (l : ℕ) → 1 ≤ l → l ≤ e → naming_task ws l ≡ 0 → sender_of ws l ≡ sender_of ws (naming_link ws l)
  sender_link l lo hi z =
      let k = later_link l lo hi z in
      sym (owner_more (suc e) l lo hi (omega arith)) ∙ cond-true _ _ _ (eq-eqb _ _ z) ∙ owner_more e (naming_link ws l) k.0 k.1 (omega (arith, k.0))

  pub newest_sender : (t l : ℕ) → 1 ≤ l → l ≤ e → 1 ≤ t → t ≤ n → word ws (newest_place t) ≡ l → sender_of ws l ≡ t
  newest_sender t l lo hi tl th y =
      let is = one_task t l lo hi tl th y in sender_task l lo hi (λ z. omega (arith, is, z)) ∙ is

  pub next_sender : (k l : ℕ) → 1 ≤ l → l ≤ e → 1 ≤ k → k ≤ e → word ws (next_place ws k) ≡ l → sender_of ws l ≡ sender_of ws k
  next_sender k l lo hi kl kh y = sender_link l lo hi (no_task_too k l lo hi kl kh y) ∙ ap (sender_of ws) (one_link k l lo hi kl kh y)

  -- a sender is a task
  owner_known : (f l : ℕ) → 1 ≤ l → l ≤ e → e < f + l → (1 ≤ owner ws f l) × (owner ws f l ≤ n)
  owner_known zero l lo hi a = absurd (omega arith)
  owner_known (suc f) l lo hi a =
      ⊎_elim
      (λ (z : naming_task ws l ≡ 0).
      let k = later_link l lo hi z in
      subst (λ v. (1 ≤ v) × (v ≤ n)) (sym (cond-true _ _ _ (eq-eqb _ _ z))) (owner_known f (naming_link ws l) k.0 k.1 (omega (arith, k.2))))
      (λ (nz : naming_task ws l ≡ 0 → ⊥).
      let b = latest_bound (by_task l) n in
      subst (λ v. (1 ≤ v) × (v ≤ n)) (sym (cond-false _ _ _ (ne_eqb _ _ nz))) (omega arith, b))
      (cases_eq (naming_task ws l) 0)

  pub sender_known : (l : ℕ) → 1 ≤ l → l ≤ e → (1 ≤ sender_of ws l) × (sender_of ws l ≤ n)
  sender_known l lo hi = owner_known e l lo hi (omega arith)

  -- the table of senders, when the links above `done` have handed theirs on
  pub record Handed (T : List ℕ) (done : ℕ) : Type 0 where
    pub long : length T ≡ 1025
    pub bound : done ≤ e
    pub tasks : (l : ℕ) → 1 ≤ l → l ≤ e → (naming_task ws l ≡ 0 → ⊥) → get_or T l 0 ≡ sender_of ws l
    pub links : (l : ℕ) → 1 ≤ l → l ≤ e → naming_task ws l ≡ 0 → done < naming_link ws l → get_or T l 0 ≡ sender_of ws l

  pub handed_none : (T : List ℕ) → length T ≡ 1025 → e ≤ 1024 → ((l : ℕ) → 1 ≤ l → l < 1025 → get_or T l 0 ≡ naming_task ws l) → Handed T e
  handed_none T long few is = record {
    long = long;
    bound = omega arith;
    tasks = λ l lo hi nz. is l lo (omega arith) ∙ sym (sender_task l lo hi nz);
    links = λ l lo hi z lt. let k = later_link l lo hi z in absurd (omega (arith, k.1));
  }

  -- what stands at a link whose turn it is
  pub handed_at : (T : List ℕ) (k : ℕ) → 1 ≤ k → Handed T k → get_or T k 0 ≡ sender_of ws k
  handed_at T k lo h =
      ⊎_elim
      (λ (z : naming_task ws k ≡ 0). let m = later_link k lo h.bound z in h.links k lo h.bound z m.2)
      (λ (nz : naming_task ws k ≡ 0 → ⊥). h.tasks k lo h.bound nz)
      (cases_eq (naming_task ws k) 0)

  pub handed_more : (T : List ℕ) (k x : ℕ) → 1 ≤ k → e ≤ 1024 → word ws (next_place ws k) ≡ x → Handed T k → Handed (set T x (get_or T k 0)) (k - 1)
  handed_more T k x lo few y h =
      let hi : k ≤ e = h.bound in
      let older : word ws (next_place ws k) < k = named.older k lo hi in
      let v = get_or T k 0 in
      let at : get_or T k 0 ≡ sender_of ws k = handed_at T k lo h in
      let other : (l : ℕ) → (l ≡ x → ⊥) → get_or (set T x v) l 0 ≡ get_or T l 0 = λ l ne. get_or-set_other T x l v 0 ne in
      let here : (l : ℕ) → l ≡ x → 1 ≤ l → l ≤ e → get_or (set T x v) l 0 ≡ sender_of ws l = λ l same ll lh.
      let read : get_or (set T x v) l 0 ≡ v = rw same (get_or-set_same T x v 0 (omega (arith, h.long))) in
      read ∙ at ∙ sym (next_sender k l ll lh lo hi (y ∙ sym same)) in
      record {
        long = length-set T x v ∙ h.long;
        bound = omega arith;
        tasks = λ l ll lh nz. ⊎_elim (λ (same : l ≡ x). here l same ll lh) (λ (ne : l ≡ x → ⊥). other l ne ∙ h.tasks l ll lh nz) (cases_eq l x);
        links = λ l ll lh z lt. ⊎_elim (λ (same : l ≡ x). here l same ll lh)
            (λ (ne : l ≡ x → ⊥).
            let q = later_link l ll lh z in
            let nk : naming_link ws l ≡ k → ⊥ = λ same. ne (sym q.3 ∙ ap (λ m. word ws (next_place ws m)) same ∙ y) in
            other l ne ∙ h.links l ll lh z (omega arith))
            (cases_eq l x);
      }

  pub handed_all : (T : List ℕ) → Handed T 0 → (l : ℕ) → 1 ≤ l → l ≤ e → get_or T l 0 ≡ sender_of ws l
  handed_all T h l lo hi =
      ⊎_elim
      (λ (z : naming_task ws l ≡ 0). let k = later_link l lo hi z in h.links l lo hi z (omega (arith, k.0)))
      (λ (nz : naming_task ws l ≡ 0 → ⊥). h.tasks l lo hi nz)
      (cases_eq (naming_task ws l) 0)

-- the same, where it is yet to be known that every link is named once
abbrev pub Handing : List ℕ → List ℕ → ℕ → Type 0
Handing ws T done = (named : Named ws) → Handed ws named T done
