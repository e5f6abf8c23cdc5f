-- The pointers of words whose every link is named once are those that linking makes.
use Rattle.std.proofs.Common.{◌≡◌, ℕ, zero, suc, ◌+◌, ◌-◌, ◌<◌, ◌≤◌, Bool, cond, eqb, List, sym, refl, ap, ◌∙◌, ⊎_elim, add-one, arith}
use Rattle.std.proofs.lemmas.Bool.{cases_eq, cases_lt, eq-eqb, eqb-true}
use Rattle.graph.specs.declared.records.Link.{Link}
use Rattle.graph.specs.Net.{newest_of}
use Rattle.graph.proofs.LastOfs.{last_push}
use Rattle.words.specs.Reading.{word, task_count, link_count, newest_place, next_place, latest, naming_task, naming_link, sender_of, with_links}
use Rattle.words.specs.Lists.{Named}
use Rattle.words.proofs.Building.{links_built, no_links_yet}
use Rattle.words.proofs.Senders.{latest_bound, latest_from, latest_holds, later_link, sender_task, sender_link, newest_sender, next_sender}

-- the newest link of a sender among the first l
pub newest_built : (ws : List ℕ) (l s : ℕ) → newest_of (with_links ws l).links s ≡ latest (λ k. eqb (sender_of ws k) s) l
newest_built ws zero s = ap (λ (ls : List Link). newest_of ls s) (no_links_yet ws (task_count ws))
newest_built ws (suc l) s =
    last_push (λ x. eqb x.sender s) (with_links ws l).links _
    ∙ ap (λ k. cond (eqb (sender_of ws (suc l)) s) k (newest_of (with_links ws l).links s)) (ap (λ j. j + 1) (links_built ws l) ∙ add-one l)
    ∙ ap (λ k. cond (eqb (sender_of ws (suc l)) s) (suc l) k) (newest_built ws l s)

module _ (ws : List ℕ) (named : Named ws) where
  abbrev e : ℕ
  e = link_count ws

  abbrev by : ℕ → ℕ → Bool
  by s k = eqb (sender_of ws k) s

  -- the last link of a sender among the first n
  sent : (s n : ℕ) → (latest (by s) n ≡ 0 → ⊥) → sender_of ws (latest (by s) n) ≡ s
  sent s n nz = eqb-true _ _ (latest_holds (by s) n nz)

  -- a task's newest link is its last
  pub newest_right : (t : ℕ) → 1 ≤ t → t ≤ task_count ws → latest (by t) e ≡ word ws (newest_place t)
  newest_right t lo hi =
      let m = latest (by t) e in
      let x = word ws (newest_place t) in
      let mh : m ≤ e = latest_bound (by t) e in
      let xh : x ≤ e = named.there t lo hi in
      ⊎_elim
      (λ (z : m ≡ 0). ⊎_elim
      (λ (y : x ≡ 0). z ∙ sym y)
      (λ (ny : x ≡ 0 → ⊥).
      let s : sender_of ws x ≡ t = newest_sender ws named t x (omega arith) xh lo hi refl in
      let up : x ≤ m = latest_from (by t) e x (omega arith) xh (eq-eqb _ _ s) in
      absurd (omega arith))
      (cases_eq x 0))
      (λ (nz : m ≡ 0 → ⊥).
      let ml : 1 ≤ m = omega arith in
      let s : sender_of ws m ≡ t = sent t e nz in
      ⊎_elim
      (λ (z : naming_task ws m ≡ 0).
      let k = later_link ws named m ml mh z in
      let q : sender_of ws (naming_link ws m) ≡ t = sym (sender_link ws named m ml mh z) ∙ s in
      let up : naming_link ws m ≤ m = latest_from (by t) e (naming_link ws m) k.0 k.1 (eq-eqb _ _ q) in
      absurd (omega (arith, k.2)))
      (λ (nt : naming_task ws m ≡ 0 → ⊥).
      let u : naming_task ws m ≡ t = sym (sender_task ws named m ml mh nt) ∙ s in
      let holds : word ws (newest_place (naming_task ws m)) ≡ m = eqb-true _ _ (latest_holds (λ t. eqb (word ws (newest_place t)) m) (task_count ws) nt) in
      sym holds ∙ ap (λ k. word ws (newest_place k)) u)
      (cases_eq (naming_task ws m) 0))
      (cases_eq m 0)

  -- a link's next link is its sender's last before it
  next_from : (f l : ℕ) → e < f + l → 1 ≤ l → l ≤ e → latest (by (sender_of ws l)) (l - 1) ≡ word ws (next_place ws l)
  next_from zero l d lo hi = absurd (omega arith)
  next_from (suc f) l d lo hi =
      let s = sender_of ws l in
      let m = latest (by s) (l - 1) in
      let x = word ws (next_place ws l) in
      let mb : m ≤ l - 1 = latest_bound (by s) (l - 1) in
      let xb : x < l = named.older l lo hi in
      ⊎_elim
      (λ (z : m ≡ 0). ⊎_elim
      (λ (y : x ≡ 0). z ∙ sym y)
      (λ (ny : x ≡ 0 → ⊥).
      let q : sender_of ws x ≡ s = next_sender ws named l x (omega arith) (omega arith) lo hi refl in
      let up : x ≤ m = latest_from (by s) (l - 1) x (omega arith) (omega arith) (eq-eqb _ _ q) in
      absurd (omega arith))
      (cases_eq x 0))
      (λ (nz : m ≡ 0 → ⊥).
      let ml : 1 ≤ m = omega arith in
      let mh : m ≤ e = omega arith in
      let q : sender_of ws m ≡ s = sent s (l - 1) nz in
      ⊎_elim
      (λ (z : naming_task ws m ≡ 0).
      let k = naming_link ws m in
      let p = later_link ws named m ml mh z in
      let kl : 1 ≤ k = p.0 in
      let kh : k ≤ e = p.1 in
      let up : m < k = p.2 in
      let sk : sender_of ws k ≡ s = sym (sender_link ws named m ml mh z) ∙ q in
      ⊎_elim
      (λ (same : k ≡ l). sym p.3 ∙ ap (λ j. word ws (next_place ws j)) same)
      (λ (ne : k ≡ l → ⊥). ⊎_elim
      (λ (lt : k < l). let low : k ≤ m = latest_from (by s) (l - 1) k kl (omega arith) (eq-eqb _ _ sk) in absurd (omega arith))
      (λ (ge : l ≤ k).
      let ih = next_from f k (omega arith) kl kh in
      let low : l ≤ latest (by (sender_of ws k)) (k - 1) = latest_from (by (sender_of ws k)) (k - 1) l lo (omega arith) (eq-eqb _ _ (sym sk)) in
      absurd (omega (arith, ih, p.3, low)))
      (cases_lt k l))
      (cases_eq k l))
      (λ (nt : naming_task ws m ≡ 0 → ⊥).
      let u = naming_task ws m in
      let us : u ≡ s = sym (sender_task ws named m ml mh nt) ∙ q in
      let uh : u ≤ task_count ws = latest_bound (λ t. eqb (word ws (newest_place t)) m) (task_count ws) in
      let holds : word ws (newest_place u) ≡ m = eqb-true _ _ (latest_holds (λ t. eqb (word ws (newest_place t)) m) (task_count ws) nt) in
      let top : latest (by u) e ≡ m = newest_right u (omega arith) uh ∙ holds in
      let low : l ≤ latest (by u) e = latest_from (by u) e l lo hi (eq-eqb _ _ (sym us)) in
      absurd (omega arith))
      (cases_eq (naming_task ws m) 0))
      (cases_eq m 0)

  pub next_right : (l : ℕ) → 1 ≤ l → l ≤ e → latest (by (sender_of ws l)) (l - 1) ≡ word ws (next_place ws l)
  next_right l lo hi = next_from (suc e) l (omega arith) lo hi
