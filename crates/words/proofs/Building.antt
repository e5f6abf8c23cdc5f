-- The graph that words stand for, task by task and link by link.
use Rattle.std.proofs.Common.{◌≡◌, ℕ, zero, suc, ◌+◌, ◌-◌, ◌<◌, ◌≤◌, true, false, cond, not, ◌⊎◌, List, [], length, Some, None, Option, sym, refl, ap, ◌∙◌, subst, inl, inr, ⊎_elim, add-one, arith, length-set}
use Rattle.std.proofs.lemmas.List.{length_push}
use Rattle.std.proofs.lemmas.Bool.{cases_eq, and_left, and_right, cond-true, cond-false, and_from, le-leb, lt-leb, lt-ltb, le-ltb, eq-eqb, ne_eqb, not_from_true, not_from_false}
use Rattle.graph.specs.declared.records.Link.{Link}
use Rattle.graph.specs.declared.records.Refusal.{Refusal}
use Rattle.graph.specs.declared.records.Refusal.TheVariants.{NoSuchTask, SelfLink, SizeTooLarge, AlreadyLinked}
use Rattle.graph.specs.Net.{Net, linked}
use Rattle.graph.specs.Calls.{first_of, is_task, link_rows}
use Rattle.words.specs.Reading.{word, task_count, link_count, receiver_place, size_place, with_tasks, with_links, sender_of, or_else, at_link, link_refusal, first_refused}

pub tasks_built : (ws : List ℕ) (t : ℕ) → length (with_tasks ws t).tasks ≡ t
tasks_built ws zero = refl
tasks_built ws (suc t) = length_push (with_tasks ws t).tasks _ ∙ ap (λ k. k + 1) (tasks_built ws t) ∙ add-one t

pub no_links_yet : (ws : List ℕ) (t : ℕ) → (with_tasks ws t).links ≡ []
no_links_yet ws zero = refl
no_links_yet ws (suc t) = no_links_yet ws t

pub tasks_stay : (ws : List ℕ) (l : ℕ) → length (with_links ws l).tasks ≡ task_count ws
tasks_stay ws zero = tasks_built ws (task_count ws)
tasks_stay ws (suc l) = length-set (with_links ws l).tasks _ _ ∙ tasks_stay ws l

pub links_built : (ws : List ℕ) (l : ℕ) → length (with_links ws l).links ≡ l
links_built ws zero = ap length (no_links_yet ws (task_count ws))
links_built ws (suc l) = length_push (with_links ws l).links _ ∙ ap (λ k. k + 1) (links_built ws l) ∙ add-one l

-- which refusal linking gives, where the sender is known and there is room
module _ (net : Net) (s r z : ℕ) (known : is_task net s ≡ true) (room : length net.links < 1024) where
  sender_passes : {X : Type 0} (x y : X) → cond (not (is_task net s)) x y ≡ y
  sender_passes x y = cond-false _ x y (not_from_true _ known)

  pub no_receiver : is_task net r ≡ false → first_of (link_rows net s r z) ≡ Some (NoSuchTask r)
  no_receiver e = sender_passes _ _ ∙ cond-true _ _ _ (not_from_false _ e)

  module _ (there : is_task net r ≡ true) where
    receiver_passes : {X : Type 0} (x y : X) → cond (not (is_task net r)) x y ≡ y
    receiver_passes x y = cond-false _ x y (not_from_true _ there)

    pub itself : s ≡ r → first_of (link_rows net s r z) ≡ Some (SelfLink s)
    itself e = sender_passes _ _ ∙ receiver_passes _ _ ∙ cond-true _ _ _ (eq-eqb s r e)

    module _ (ne : s ≡ r → ⊥) where
      pub too_large : 1000000 < z → first_of (link_rows net s r z) ≡ Some SizeTooLarge
      too_large l = sender_passes _ _ ∙ receiver_passes _ _ ∙ cond-false _ _ _ (ne_eqb s r ne) ∙ cond-true _ _ _ (lt-ltb 1000000 z l)

      module _ (small : z ≤ 1000000) where
        pub again : (k : ℕ) → k ≡ linked net.links s r → (k ≡ 0 → ⊥) → first_of (link_rows net s r z) ≡ Some (AlreadyLinked k)
        again k e nz =
            sender_passes _ _ ∙ receiver_passes _ _ ∙ cond-false _ _ _ (ne_eqb s r ne) ∙ cond-false _ _ _ (le-ltb 1000000 z small)
            ∙ cond-true _ _ _ (not_from_false _ (ne_eqb _ _ (λ q. nz (e ∙ q)))) ∙ ap (λ j. Some (AlreadyLinked j)) (sym e)

        pub allowed : linked net.links s r ≡ 0 → first_of (link_rows net s r z) ≡ None
        allowed q =
            sender_passes _ _ ∙ receiver_passes _ _ ∙ cond-false _ _ _ (ne_eqb s r ne) ∙ cond-false _ _ _ (le-ltb 1000000 z small)
            ∙ cond-false _ _ _ (not_from_true _ (eq-eqb _ _ q)) ∙ cond-false _ _ _ (lt-leb 1024 _ room)

pub task_known : (ws : List ℕ) (l t : ℕ) → 1 ≤ t → t ≤ task_count ws → is_task (with_links ws l) t ≡ true
task_known ws l t lo hi = and_from _ _ (le-leb 1 t lo) (le-leb t _ (omega (arith, tasks_stay ws l)))

pub task_unknown : (ws : List ℕ) (l t : ℕ) → (t ≡ 0) ⊎ (task_count ws < t) → is_task (with_links ws l) t ≡ false
task_unknown ws l t (inl z) = and_left _ _ (lt-leb 1 t (omega arith))
task_unknown ws l t (inr h) = and_right _ _ (lt-leb t _ (omega (arith, tasks_stay ws l)))

-- the same for a link of the words, whose sender, receiver and size are known by other names
module _ (ws : List ℕ) (l : ℕ) (few : link_count ws ≤ 1024) (lo : 1 ≤ l) (hi : l ≤ link_count ws) (sender : (1 ≤ sender_of ws l) × (sender_of ws l ≤ task_count ws)) where
  abbrev before : Net
  before = with_links ws (l - 1)

  abbrev from : ℕ
  from = sender_of ws l

  abbrev to : ℕ
  to = word ws (receiver_place ws l)

  abbrev size : ℕ
  size = word ws (size_place ws l)

  known : is_task before from ≡ true
  known = task_known ws (l - 1) from sender.0 sender.1

  room : length before.links < 1024
  room = omega (arith, links_built ws (l - 1))

  there : (r : ℕ) → r ≡ to → (r ≡ 0 → ⊥) → r ≤ task_count ws → is_task before to ≡ true
  there r e nz h = task_known ws (l - 1) to (omega arith) (omega arith)

  pub fault_receiver : (r : ℕ) → r ≡ to → (r ≡ 0) ⊎ (task_count ws < r) → Some (NoSuchTask r) ≡ link_refusal ws l
  fault_receiver r e h =
      ap (λ k. Some (NoSuchTask k)) e ∙ sym (no_receiver before from to size known room (task_unknown ws (l - 1) to (subst (λ k. (k ≡ 0) ⊎ (task_count ws < k)) e h)))

  module _ (s r : ℕ) (es : s ≡ from) (er : r ≡ to) (nz : r ≡ 0 → ⊥) (h : r ≤ task_count ws) where
    pub fault_itself : s ≡ r → Some (SelfLink s) ≡ link_refusal ws l
    fault_itself e = ap (λ k. Some (SelfLink k)) es ∙ sym (itself before from to size known room (there r er nz h) (sym es ∙ e ∙ er))

    module _ (ne : s ≡ r → ⊥) where
      apart : from ≡ to → ⊥
      apart q = ne (es ∙ q ∙ sym er)

      pub fault_size : (z : ℕ) → z ≡ size → 1000000 < z → Some SizeTooLarge ≡ link_refusal ws l
      fault_size z e g = sym (too_large before from to size known room (there r er nz h) apart (omega arith))

      pub fault_again : (z k : ℕ) → z ≡ size → z ≤ 1000000 → k ≡ linked before.links s r → (k ≡ 0 → ⊥) → Some (AlreadyLinked k) ≡ link_refusal ws l
      fault_again z k e g f kz =
          sym (again before from to size known room (there r er nz h) apart (omega arith) k (f ∙ ap (λ x. linked before.links x r) es ∙ ap (linked before.links from) er) kz)

      pub fault_none : (z k : ℕ) → z ≡ size → z ≤ 1000000 → k ≡ linked before.links s r → k ≡ 0 → None ≡ link_refusal ws l
      fault_none z k e g f kz =
          sym (allowed before from to size known room (there r er nz h) apart (omega arith) (sym (f ∙ ap (λ x. linked before.links x r) es ∙ ap (linked before.links from) er) ∙ kz))

pub or_else_none : {R : Type 0} (a b : Option R) → or_else a b ≡ None → (a ≡ None) × (b ≡ None)
or_else_none None b e = (refl, e)
or_else_none (Some x) b e = absurd (let z : ◌≡◌ {A = ℕ} 0 1 = cc in omega arith)

at_link_none : (ws : List ℕ) (l : ℕ) (o : Option Refusal) → at_link ws l o ≡ None → o ≡ None
at_link_none ws l None e = refl
at_link_none ws l (Some why) e = absurd (let z : ◌≡◌ {A = ℕ} 0 1 = cc in omega arith)

-- no link is refused where the first that is refused is none
pub none_refused : (ws : List ℕ) (n l : ℕ) → first_refused ws n ≡ None → 1 ≤ l → l ≤ n → link_refusal ws l ≡ None
none_refused ws zero l e lo hi = absurd (omega arith)
none_refused ws (suc n) l e lo hi =
    let p = or_else_none (first_refused ws n) (at_link ws (suc n) (link_refusal ws (suc n))) e in
    ⊎_elim
    (λ (same : l ≡ suc n). subst (λ k. link_refusal ws k ≡ None) (sym same) (at_link_none ws (suc n) (link_refusal ws (suc n)) p.1))
    (λ (ne : l ≡ suc n → ⊥). none_refused ws n l p.0 lo (omega arith))
    (cases_eq l (suc n))

-- before the first link no pair is linked
pub pairs_none : (ws : List ℕ) (s r : ℕ) → linked (with_links ws 0).links s r ≡ 0
pairs_none ws s r = ap (λ (ls : List Link). linked ls s r) (no_links_yet ws (task_count ws))
