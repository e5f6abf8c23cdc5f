-- What the tables of the gathering hold, and where walks along them lead.
use Rattle.std.proofs.Common.{◌≡◌, ℕ, zero, suc, ◌+◌, ◌-◌, ◌<◌, ◌≤◌, true, false, ◌||◌, eqb, List, [], ◌∷◌, length, Option, None, Some, Decides, get_or, drop, set, sym, refl, ap, ◌∙◌, subst, ⊎_elim, add-one, arith, drop-cons}
use Rattle.std.proofs.lemmas.List.{get_or-set_same, get_or-set_other, length-set, set-get_or, drop_all}
use Rattle.std.proofs.lemmas.Bool.{cases_eq, cases_Bool, eq-eqb, ne_eqb, eqb-true, cond-true, cond-false, or_left, false≢true}
use Rattle.std.specs.Option.{SomeIff}
use Rattle.chains.specs.Chains.{has, with_new, successors}
use Rattle.chains.specs.Links.{message_at, latest, number_of}
use Rattle.chains.specs.declared.message.Message.{Message}

-- how many messages there are up to this one
abbrev pub upto : Option ℕ → ℕ
upto None = 0
upto (Some i) = suc i

-- one below an entry, where there is one
pub number_is : (r : Option ℕ) (n : ℕ) → SomeIff r (1 ≤ n) (n - 1) → r ≡ number_of n
number_is None zero none = refl
number_is None (suc n) none = absurd (none (omega arith))
number_is (Some i) zero some = let low : 1 ≤ 0 = some.0 in absurd (omega arith)
number_is (Some i) (suc n) some = let is : i ≡ suc n - 1 = some.1 in let same : i ≡ n = omega arith in ap Some same

-- the first i messages are gathered
pub record Gathered (ms : List Message) (head next : List ℕ) (i : ℕ) : Type 0 where
  pub wide : length head ≡ 257
  pub long : length next ≡ 1024
  pub heads : (b : ℕ) → b < 257 → number_of (get_or head b 0) ≡ latest ms b i
  pub nexts : (j : ℕ) → j < i → number_of (get_or next j 0) ≡ latest ms (message_at ms j).from j

latest_hit : (ms : List Message) (b i : ℕ) → (message_at ms i).from ≡ b → latest ms b (i + 1) ≡ Some i
latest_hit ms b i e = let t : eqb (message_at ms i).from b ≡ true = eq-eqb _ b e in rw (add-one, t) refl

latest_miss : (ms : List Message) (b i : ℕ) → ((message_at ms i).from ≡ b → ⊥) → latest ms b (i + 1) ≡ latest ms b i
latest_miss ms b i n = let t : eqb (message_at ms i).from b ≡ false = ne_eqb _ b n in rw (add-one, t) refl

pub gathered_more : (ms : List Message) (head next : List ℕ) (i from : ℕ) → i < 1024 → from < 257 → (message_at ms i).from ≡ from
    → Gathered ms head next i → Gathered ms (set head from (i + 1)) (set next i (get_or head from 0)) (i + 1)
gathered_more ms head next i from few block is g =
    let wide : length head ≡ 257 = g.wide in
    let long : length next ≡ 1024 = g.long in
    record {
      wide = simp length-set g.wide;
      long = simp length-set g.long;
      heads = λ b l. ⊎_elim
          (λ (e : b ≡ from). let P : ℕ → Type 0 = λ x. number_of (get_or (set head from (i + 1)) x 0) ≡ latest ms x (i + 1) in
          subst P (sym e) (ap number_of (get_or-set_same head from (i + 1) 0 (omega arith) ∙ add-one i) ∙ sym (latest_hit ms from i is)))
          (λ (n : b ≡ from → ⊥). ap number_of (get_or-set_other head from b (i + 1) 0 n) ∙ g.heads b l ∙ sym (latest_miss ms b i (λ e. n (sym (sym is ∙ e)))))
          (cases_eq b from);
      nexts = λ j l. ⊎_elim
          (λ (e : j ≡ i). let P : ℕ → Type 0 = λ x. number_of (get_or (set next i (get_or head from 0)) x 0) ≡ latest ms (message_at ms x).from x in
          subst P (sym e) (ap number_of (get_or-set_same next i (get_or head from 0) 0 (omega arith)) ∙ g.heads from block ∙ ap (λ x. latest ms x i) (sym is)))
          (λ (n : j ≡ i → ⊥). ap number_of (get_or-set_other next i j (get_or head from 0) 0 n) ∙ g.nexts j (omega arith))
          (cases_eq j i);
    }

pub latest_le : (ms : List Message) (b i : ℕ) → upto (latest ms b i) ≤ i
latest_le ms b zero = omega arith
latest_le ms b (suc i) = ⊎_elim
    (λ e. rw e (omega arith))
    (λ e. let l : upto (latest ms b i) ≤ i = latest_le ms b i in rw e (omega arith))
    (cases_Bool (eqb (message_at ms i).from b))

pub latest_again : (ms : List Message) (b i : ℕ) → latest ms b i ≡ latest ms b (upto (latest ms b i))
latest_again ms b zero = refl
latest_again ms b (suc i) = ⊎_elim
    (λ e. let h : latest ms b (suc i) ≡ Some i = rw e refl in sym (ap (λ p. latest ms b (upto p)) h))
    (λ e. let h : latest ms b (suc i) ≡ latest ms b i = rw e refl in h ∙ latest_again ms b i ∙ sym (ap (λ p. latest ms b (upto p)) h))
    (cases_Bool (eqb (message_at ms i).from b))

-- a message at the end of a walk's step is the sender's own
own_sender : (ms : List Message) (b i : ℕ) → Some i ≡ latest ms b (suc i) → (message_at ms i).from ≡ b
own_sender ms b i h = ⊎_elim
    (λ e. eqb-true _ b e)
    (λ e. let h' : Some i ≡ latest ms b i = rw e at h in
    let q : suc i ≡ upto (latest ms b i) = ap upto h' in
    let l : upto (latest ms b i) ≤ i = latest_le ms b i in absurd (omega arith))
    (cases_Bool (eqb (message_at ms i).from b))

-- passing over messages of others changes no successors
skipped : (ms : List Message) (b i : ℕ) → i ≤ length ms → successors (drop (upto (latest ms b i)) ms) b ≡ successors (drop i ms) b
skipped ms b zero l = refl
skipped ms b (suc i) l = ⊎_elim
    (λ e. let h : latest ms b (suc i) ≡ Some i = rw e refl in ap (λ p. successors (drop (upto p) ms) b) h)
    (λ e. let h : latest ms b (suc i) ≡ latest ms b i = rw e refl in
    let m = message_at ms i in
    let none : successors (m ∷ drop (suc i) ms) b ≡ successors (drop (suc i) ms) b = rw e refl in
    ap (λ p. successors (drop (upto p) ms) b) h ∙ skipped ms b i (omega arith) ∙ ap (λ l. successors l b) (drop-cons ms i (record { from = 0; to = 0; size = 0 }) (omega arith)) ∙ none)
    (cases_Bool (eqb (message_at ms i).from b))

-- the walk along the messages of b has come down to `at`: the successors met are those that `met` has at b, and
-- what it has at another stood in `before`
pub record Walked (ms : List Message) (b : ℕ) (before : List ℕ) (at : Option ℕ) (met : List ℕ) : Type 0 where
  pub inside : upto at ≤ length ms
  pub own : at ≡ latest ms b (upto at)
  pub wide : length met ≡ 257
  pub marked : (s : ℕ) → s < 257 → Decides (has s (successors (drop (upto at) ms) b)) (get_or met s 0 ≡ b)
  pub others : (s : ℕ) → (get_or met s 0 ≡ b → ⊥) → get_or met s 0 ≡ get_or before s 0

module _ (ms : List Message) (b : ℕ) (before : List ℕ) where
  -- before the walk nothing is met
  pub none_met : (at : Option ℕ) → at ≡ latest ms b (length ms) → successors (drop (upto at) ms) b ≡ []
  none_met at e = ap (λ p. successors (drop (upto p) ms) b) e ∙ skipped ms b (length ms) (omega arith) ∙ ap (λ l. successors l b) (drop_all (length ms) ms (omega arith))

  pub walked_none : (at : Option ℕ) → at ≡ latest ms b (length ms) → length before ≡ 257 → ((s : ℕ) → get_or before s 0 ≡ b → ⊥) → Walked ms b before at before
  walked_none at e wide fresh =
      let l : upto (latest ms b (length ms)) ≤ length ms = latest_le ms b (length ms) in
      let u : upto at ≡ upto (latest ms b (length ms)) = ap upto e in
      record {
        inside = omega arith;
        own = e ∙ latest_again ms b (length ms) ∙ ap (λ p. latest ms b (upto p)) (sym e);
        wide = wide;
        marked = λ s _. (λ t. absurd (false≢true (sym (ap (has s) (none_met at e)) ∙ t)), λ q. absurd (fresh s q));
        others = λ s _. refl;
      }

  -- one message further: its receiver is met
  module _ (i : ℕ) (at' : Option ℕ) (l : i < length ms) (own : Some i ≡ latest ms b (suc i)) (e : at' ≡ latest ms (message_at ms i).from i) where
    further : successors (drop (upto at') ms) b ≡ with_new (message_at ms i).to (successors (drop (suc i) ms) b)
    further =
        let m = message_at ms i in
        let from : m.from ≡ b = own_sender ms b i own in
        let t : eqb m.from b ≡ true = eq-eqb _ b from in
        let here : successors (m ∷ drop (suc i) ms) b ≡ with_new m.to (successors (drop (suc i) ms) b) = rw t refl in
        ap (λ p. successors (drop (upto p) ms) b) (e ∙ ap (λ x. latest ms x i) from) ∙ skipped ms b i (omega arith)
        ∙ ap (λ l. successors l b) (drop-cons ms i (record { from = 0; to = 0; size = 0 }) l) ∙ here

    pub met_new : has (message_at ms i).to (successors (drop (suc i) ms) b) ≡ false → successors (drop (upto at') ms) b ≡ (message_at ms i).to ∷ successors (drop (suc i) ms) b
    met_new n = further ∙ cond-false _ _ _ n

    pub met_old : has (message_at ms i).to (successors (drop (suc i) ms) b) ≡ true → successors (drop (upto at') ms) b ≡ successors (drop (suc i) ms) b
    met_old n = further ∙ cond-true _ _ _ n

    on : (upto at' ≤ length ms) × (at' ≡ latest ms b (upto at'))
    on =
        let from : (message_at ms i).from ≡ b = own_sender ms b i own in
        let e' : at' ≡ latest ms b i = e ∙ ap (λ x. latest ms x i) from in
        let u : upto at' ≡ upto (latest ms b i) = ap upto e' in
        let le : upto (latest ms b i) ≤ i = latest_le ms b i in
        (omega arith, e' ∙ latest_again ms b i ∙ ap (λ p. latest ms b (upto p)) (sym e'))

  pub walked_new : (i : ℕ) (at' : Option ℕ) (met : List ℕ) → i < length ms → (message_at ms i).to < 257 → at' ≡ latest ms (message_at ms i).from i
      → Walked ms b before (Some i) met → has (message_at ms i).to (successors (drop (suc i) ms) b) ≡ false
      → Walked ms b before at' (set met (message_at ms i).to b)
  walked_new i at' met l within e w n =
      let to = (message_at ms i).to in
      let S = successors (drop (suc i) ms) b in
      let p = on i at' l w.own e in
      let wide : length met ≡ 257 = w.wide in
      let next = met_new i at' l w.own e n in
      let here : get_or (set met to b) to 0 ≡ b = get_or-set_same met to b 0 (omega arith) in
      record {
        inside = p.0;
        own = p.1;
        wide = simp length-set w.wide;
        marked = λ s h. ⊎_elim
            (λ (q : s ≡ to). let P : ℕ → Type 0 = λ x. Decides (has x (successors (drop (upto at') ms) b)) (get_or (set met to b) x 0 ≡ b) in
            subst P (sym q) (λ _. here, λ _. ap (has to) next ∙ or_left (eqb to to) (has to S) (eq-eqb to to refl)))
            (λ (q : s ≡ to → ⊥).
            let same : has s (successors (drop (upto at') ms) b) ≡ has s S = ap (has s) next ∙ ap (λ x. x || has s S) (ne_eqb s to q) in
            let kept : get_or (set met to b) s 0 ≡ get_or met s 0 = get_or-set_other met to s b 0 q in
            (λ t. kept ∙ (w.marked s h).0 (sym same ∙ t), λ t. same ∙ (w.marked s h).1 (sym kept ∙ t)))
            (cases_eq s to);
        others = λ s new. ⊎_elim
            (λ (t : s ≡ to). absurd (new (ap (λ x. get_or (set met to b) x 0) t ∙ here)))
            (λ (t : s ≡ to → ⊥). let kept : get_or (set met to b) s 0 ≡ get_or met s 0 = get_or-set_other met to s b 0 t in kept ∙ w.others s (λ e. new (kept ∙ e)))
            (cases_eq s to);
      }

  pub walked_old : (i : ℕ) (at' : Option ℕ) (met : List ℕ) → i < length ms → (message_at ms i).to < 257 → at' ≡ latest ms (message_at ms i).from i
      → Walked ms b before (Some i) met → has (message_at ms i).to (successors (drop (suc i) ms) b) ≡ true
      → Walked ms b before at' (set met (message_at ms i).to b)
  walked_old i at' met l within e w n =
      let to = (message_at ms i).to in
      let p = on i at' l w.own e in
      let there : get_or met to 0 ≡ b = (w.marked to within).0 n in
      let same : set met to b ≡ met = ap (set met to) (sym there) ∙ set-get_or met to 0 in
      let P : List ℕ → Type 0 = λ x. Walked ms b before at' x in
      subst P (sym same) (record {
        inside = p.0;
        own = p.1;
        wide = w.wide;
        marked = λ s h. (λ t. (w.marked s h).0 (sym (ap (has s) (met_old i at' l w.own e n)) ∙ t), λ t. ap (has s) (met_old i at' l w.own e n) ∙ (w.marked s h).1 t);
        others = w.others;
      })
