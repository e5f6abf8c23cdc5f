-- What one task or one link more leaves true.
use Rattle.std.proofs.Common.{◌≡◌, ℕ, ◌+◌, ◌<◌, ◌≤◌, cond, eqb, List, [], ◌∷◌, ◌++◌, length, get_or, take, set, sym, refl, ◌∙◌, subst, ⊎_elim, arith, length-set}
use Rattle.std.proofs.lemmas.List.{length_push, get_or_push, get_or_append_left, take-append-le, take_at, get_or-set_same, get_or-set_other}
use Rattle.std.proofs.lemmas.Bool.{cases_lt, cases_eq, ne_eqb}
use Rattle.std.proofs.lemmas.Bool.Decides.{nat_tests}
use Rattle.graph.specs.declared.records.Link.{Link}
use Rattle.graph.specs.declared.records.Task.{Task}
use Rattle.graph.specs.Net.{no_task, no_link, newest_of, linked, Joined, Single, Timed, Threaded, Headed, Sound}
use Rattle.graph.proofs.LastOfs.{last_push, last_none}

-- what holds at each place of a list and of one element more
each_push : {X : Type 0} (P : ℕ → X → Type 0) (xs : List X) (x d : X) → ((i : ℕ) → i < length xs → P i (get_or xs i d)) → P (length xs) x
    → (i : ℕ) → i < length (xs ++ x ∷ []) → P i (get_or (xs ++ x ∷ []) i d)
each_push P xs x d h here i lt =
    ⊎_elim
    (λ (low : i < length xs). subst (P i) (sym (get_or_append_left xs (x ∷ []) d i low)) (h i low))
    (λ (high : length xs ≤ i).
    let same : length xs ≡ i = omega (arith, length_push xs x) in
    subst (P i) (sym (get_or_push xs x d i same)) (subst (λ k. P k x) same here))
    (cases_lt i (length xs))

pub timed_push : (tasks : List Task) (t : Task) → (1 ≤ t.time) × (t.time ≤ 1000000) → Timed tasks → Timed (tasks ++ t ∷ [])
timed_push tasks t here h = each_push (λ i x. (1 ≤ x.time) × (x.time ≤ 1000000)) tasks t no_task h here

pub joined_more : (n m : ℕ) (links : List Link) → n ≤ m → Joined n links → Joined m links
joined_more n m links h j i l = let f = j i l in (f.0, omega (arith, f.1), f.2, omega (arith, f.3))

-- a new task has no link
headed_task : (tasks : List Task) (links : List Link) (t : Task) → t.newest ≡ 0 → Joined (length tasks) links → Headed tasks links → Headed (tasks ++ t ∷ []) links
headed_task tasks links t z j h =
    let none : newest_of links (length tasks + 1) ≡ 0 = last_none (λ x. eqb x.sender (length tasks + 1)) no_link links (λ k lk. let f = j k lk in ne_eqb _ _ (λ e. omega (arith, f.1))) in
    each_push (λ i x. x.newest ≡ newest_of links (i + 1)) tasks t no_task h (z ∙ sym none)

pub sound_task : (tasks : List Task) (links : List Link) (t : Task) → (1 ≤ t.time) × (t.time ≤ 1000000) → t.newest ≡ 0 → Sound tasks links → Sound (tasks ++ t ∷ []) links
sound_task tasks links t time z s =
    record {
      timed = timed_push tasks t time s.timed;
      joined = joined_more _ _ links (omega (arith, length_push tasks t)) s.joined;
      unlooped = s.unlooped;
      sized = s.sized;
      single = s.single;
      threaded = s.threaded;
      headed = headed_task tasks links t z s.joined s.headed;
    }

newest_push : (links : List Link) (l : Link) (s : ℕ) → newest_of (links ++ l ∷ []) s ≡ cond (eqb l.sender s) (length links + 1) (newest_of links s)
newest_push links l s = last_push (λ x. eqb x.sender s) links l

-- what a new link has to be
pub record Fits (n : ℕ) (l : Link) : Type 0 where
  pub joined : (1 ≤ l.sender) × (l.sender ≤ n) × (1 ≤ l.receiver) × (l.receiver ≤ n)
  pub unlooped : l.sender ≡ l.receiver → ⊥
  pub sized : l.size ≤ 1000000

joined_link : (n : ℕ) (links : List Link) (l : Link) → Fits n l → Joined n links → Joined n (links ++ l ∷ [])
joined_link n links l here j = each_push (λ i x. (1 ≤ x.sender) × (x.sender ≤ n) × (1 ≤ x.receiver) × (x.receiver ≤ n)) links l no_link j here.joined

threaded_link : (links : List Link) (l : Link) → l.next ≡ newest_of links l.sender → Threaded links → Threaded (links ++ l ∷ [])
threaded_link links l e t =
    each_push (λ i x. x.next ≡ newest_of (take i (links ++ l ∷ [])) x.sender) links l no_link
    (λ i low. rw (take-append-le i links (l ∷ []) (omega arith)) (t i low))
    (rw (take_at links (l ∷ []) (length links) refl) e)

single_link : (links : List Link) (l : Link) → linked links l.sender l.receiver ≡ 0 → Single links → Single (links ++ l ∷ [])
single_link links l none s =
    each_push (λ i x. linked (take i (links ++ l ∷ [])) x.sender x.receiver ≡ 0) links l no_link
    (λ i low. rw (take-append-le i links (l ∷ []) (omega arith)) (s i low))
    (rw (take_at links (l ∷ []) (length links) refl) none)

-- the sender's newest link is the new one
pub headed_link : (tasks : List Task) (links : List Link) (l : Link) (k : ℕ) (t : Task) → k < length tasks → l.sender ≡ k + 1 → t.newest ≡ length links + 1 → Headed tasks links → Headed (set tasks k t) (links ++ l ∷ [])
headed_link tasks links l k t within s e h i lt =
    let new = newest_push links l (i + 1) in
    let old = h i in
    let long = length-set tasks k t in
    grind (arith, nat_tests, get_or-set_same, get_or-set_other, cases_eq i k)

timed_set : (tasks : List Task) (k : ℕ) (t : Task) → k < length tasks → t.time ≡ (get_or tasks k no_task).time → Timed tasks → Timed (set tasks k t)
timed_set tasks k t within e h i lt =
    let long = length-set tasks k t in
    let old = h i in
    let here = h k within in
    (grind (arith, get_or-set_same, get_or-set_other, cases_eq i k), grind (arith, get_or-set_same, get_or-set_other, cases_eq i k))

pub sound_link : (tasks : List Task) (links : List Link) (l : Link) (k : ℕ) (t : Task) → k < length tasks → l.sender ≡ k + 1
    → t.newest ≡ length links + 1 → t.time ≡ (get_or tasks k no_task).time → l.next ≡ newest_of links l.sender
    → Fits (length tasks) l → linked links l.sender l.receiver ≡ 0 → Sound tasks links → Sound (set tasks k t) (links ++ l ∷ [])
sound_link tasks links l k t within s newest time next fits none sound =
    let ln : length (set tasks k t) ≡ length tasks = length-set tasks k t in
    record {
      timed = timed_set tasks k t within time sound.timed;
      joined = subst (λ n. Joined n (links ++ l ∷ [])) (sym ln) (joined_link (length tasks) links l fits sound.joined);
      unlooped = each_push (λ i x. x.sender ≡ x.receiver → ⊥) links l no_link sound.unlooped fits.unlooped;
      sized = each_push (λ i x. x.size ≤ 1000000) links l no_link sound.sized fits.sized;
      single = single_link links l none sound.single;
      threaded = threaded_link links l next sound.threaded;
      headed = headed_link tasks links l k t within s newest sound.headed;
    }
