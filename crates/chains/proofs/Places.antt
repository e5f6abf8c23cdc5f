-- What the table of places holds while an order is read, and what it decides.
use Rattle.std.proofs.Common.{◌≡◌, ℕ, zero, suc, ◌+◌, ◌<◌, ◌≤◌, Bool, true, false, eqb, ◌⊎◌, List, [], ◌∷◌, ◌++◌, map, length, Option, None, Some, Decides, get_or, take, set, sym, refl, ap, ◌∙◌, subst, inl, inr, ⊎_elim, arith}
use Rattle.std.proofs.Math.ListN.{get_or-map}
use Rattle.std.proofs.lemmas.Option.{none-some}
use Rattle.std.proofs.lemmas.List.{get_or-set_same, get_or-set_other, length-set, take_more, take_all, length-take-le, get_or-take}
use Rattle.std.proofs.lemmas.Bool.{cases_Bool, eqb-false, eq-eqb, ne_eqb, true≢false}
use Rattle.std.specs.Option.{is_some}
use Rattle.chains.specs.Lists.{In, Apart}
use Rattle.chains.specs.Chains.{Blocks, Once, Forward, Ordered, place, has}
use Rattle.chains.specs.Links.{Numbered, Before, Earlier, message_at, number_of}
use Rattle.chains.specs.declared.message.Message.{Message}
use Rattle.chains.proofs.Lists.{in_append, in_left, in_right, in_getD, in_index, has_in, in_has, in_place, place_in, apart_append, apart_once}

place_left : (xs ys : List ℕ) (b : ℕ) → In b xs → place (xs ++ ys) b ≡ place xs b
place_left [] ys b h = absurd h
place_left (x ∷ xs) ys b h = ⊎_elim
    (λ e. rw e refl)
    (λ e. let i : In b xs = ⊎_elim (λ q. absurd (eqb-false x b e (sym q))) (λ i. i) h in rw e (ap suc (place_left xs ys b i)))
    (cases_Bool (eqb x b))

place_new : (xs : List ℕ) (b : ℕ) → (In b xs → ⊥) → place (xs ++ b ∷ []) b ≡ length xs
place_new [] b n = let t : eqb b b ≡ true = eq-eqb b b refl in rw t refl
place_new (x ∷ xs) b n = let t : eqb x b ≡ false = ne_eqb x b (λ e. n (inl (sym e))) in rw t (ap suc (place_new xs b (λ i. n (inr i))))

-- the list holds b, or it does not
pub cases_in : (b : ℕ) (xs : List ℕ) → In b xs ⊎ (In b xs → ⊥)
cases_in b xs = ⊎_elim (λ e. inl (has_in b xs e)) (λ e. inr (λ i. let t : has b xs ≡ true = in_has b xs i in let z : ◌≡◌ {A = Bool} true false = sym t ∙ e in true≢false z)) (cases_Bool (has b xs))

pub is_none : (p : Option ℕ) → is_some p ≡ false → p ≡ None
is_none None e = refl
is_none (Some x) e = absurd (true≢false e)

-- a place that the table of numbers stands for
pub place_at : (xs : List ℕ) (b : ℕ) → number_of (get_or xs b 0) ≡ get_or (map number_of xs) b None
place_at xs b = sym (get_or-map number_of xs b 0)

earlier_entries : (a b : ℕ) → (0 < a) × (a < b) → Earlier (number_of a) (number_of b)
earlier_entries zero b h = let low : 0 < 0 = h.0 in absurd (omega arith)
earlier_entries (suc a) zero h = let lt : suc a < 0 = h.1 in absurd (omega arith)
earlier_entries (suc a) (suc b) h = let lt : suc a < suc b = h.1 in omega arith

entries_earlier : (a b : ℕ) → Earlier (number_of a) (number_of b) → (0 < a) × (a < b)
entries_earlier zero b h = absurd h
entries_earlier (suc a) zero h = absurd h
entries_earlier (suc a) (suc b) h = let lt : a < b = h in (omega arith, omega arith)

-- what the entries decide, the places that they stand for do
pub before_by : (xs : List ℕ) (m : Message) (r : Bool) → Decides r ((0 < get_or xs m.from 0) × (get_or xs m.from 0 < get_or xs m.to 0)) → Decides r (Before (map number_of xs) m)
before_by xs m r d =
    let a = get_or xs m.from 0 in
    let b = get_or xs m.to 0 in
    let P : Option ℕ → Type 0 = λ p. Decides r (Earlier p (get_or (map number_of xs) m.to None)) in
    let Q : Option ℕ → Type 0 = λ q. Decides r (Earlier (number_of a) q) in
    subst P (place_at xs m.from) (subst Q (place_at xs m.to) (λ t. earlier_entries a b (d.0 t), λ e. d.1 (entries_earlier a b e)))

-- an entry other than 0 stands for a place
pub not_none : (n : ℕ) → (n ≡ 0 → ⊥) → number_of n ≡ None → ⊥
not_none zero not e = not refl
not_none (suc n) not e = none-some n (sym e)

-- the first k blocks are read
pub record Read (order : List ℕ) (places : List (Option ℕ)) (k : ℕ) : Type 0 where
  pub wide : length places ≡ 257
  pub blocks : Blocks (take k order)
  pub apart : Apart (take k order)
  pub present : (b : ℕ) → In b (take k order) → get_or places b None ≡ Some (place (take k order) b)
  pub absent : (b : ℕ) → (In b (take k order) → ⊥) → get_or places b None ≡ None

pub read_more : (order : List ℕ) (places : List (Option ℕ)) (k x : ℕ) → k < length order → get_or order k 0 ≡ x → 1 ≤ x → x ≤ 256 → get_or places x None ≡ None
    → Read order places k → Read order (set places x (Some k)) (k + 1)
read_more order places k x l is low most free r =
    let xs = take k order in
    let more : take (k + 1) order ≡ xs ++ x ∷ [] = take_more order k 0 l ∙ ap (λ y. xs ++ y ∷ []) is in
    let long : length xs ≡ k = length-take-le k order (omega arith) in
    let wide : length places ≡ 257 = r.wide in
    let new : In x xs → ⊥ = λ i. let e : ◌≡◌ {A = Option ℕ} None (Some (place xs x)) = sym free ∙ r.present x i in cc in
    let Bs : List ℕ → Type 0 = λ l. Blocks l in
    let As : List ℕ → Type 0 = λ l. Apart l in
    let Ps : List ℕ → Type 0 = λ l. (b : ℕ) → In b l → get_or (set places x (Some k)) b None ≡ Some (place l b) in
    let Ns : List ℕ → Type 0 = λ l. (b : ℕ) → (In b l → ⊥) → get_or (set places x (Some k)) b None ≡ None in
    record {
      wide = simp length-set r.wide;
      blocks = subst Bs (sym more) (λ b i. ⊎_elim (r.blocks b) (λ j. ⊎_elim (λ e. (omega arith, omega arith)) (λ z. absurd z) j) (in_append b xs (x ∷ []) i));
      apart = subst As (sym more) (apart_append xs (x ∷ []) r.apart (λ z. z, tt) (λ y i j. ⊎_elim (λ e. let P : ℕ → Type 0 = λ w. In w xs in new (subst P e i)) (λ z. z) j));
      present = subst Ps (sym more) (λ b i. ⊎_elim
          (λ (j : In b xs). get_or-set_other places x b (Some k) None (λ e. let P : ℕ → Type 0 = λ w. In w xs in new (subst P e j)) ∙ r.present b j ∙ ap Some (sym (place_left xs (x ∷ []) b j)))
          (λ j. ⊎_elim
          (λ e. let P : ℕ → Type 0 = λ w. get_or (set places x (Some k)) w None ≡ Some (place (xs ++ x ∷ []) w) in
          subst P (sym e) (get_or-set_same places x (Some k) None (omega arith) ∙ ap Some (sym (place_new xs x new ∙ long))))
          (λ z. absurd z) j)
          (in_append b xs (x ∷ []) i));
      absent = subst Ns (sym more) (λ b no. get_or-set_other places x b (Some k) None (λ e. no (in_right b xs (x ∷ []) (inl e))) ∙ r.absent b (λ i. no (in_left b xs (x ∷ []) i)));
    }

pub read_all : (order : List ℕ) (places : List (Option ℕ)) (k : ℕ) → length order ≡ k → Read order places k → Numbered order places
read_all order places k e r =
    let all : take k order ≡ order = take_all k order (omega arith) in
    let R : List ℕ → Type 0 = λ l. Blocks l × Apart l × ((b : ℕ) → In b l → get_or places b None ≡ Some (place l b)) × ((b : ℕ) → (In b l → ⊥) → get_or places b None ≡ None) in
    let s = subst R all (r.blocks, r.apart, r.present, r.absent) in
    record { blocks = s.0; once = apart_once order s.1; present = s.2; absent = s.3 }

-- a block that has a place already stands twice
pub twice : (order : List ℕ) (places : List (Option ℕ)) (k x : ℕ) → k < length order → get_or order k 0 ≡ x → (get_or places x None ≡ None → ⊥) → Read order places k → Once order → ⊥
twice order places k x l is taken r once =
    let xs = take k order in
    let i : In x xs = ⊎_elim (λ i. i) (λ n. absurd (taken (r.absent x n))) (cases_in x xs) in
    let long : length xs ≡ k = length-take-le k order (omega arith) in
    let j = in_index x xs 0 i in
    let lt : j.0 < length xs = j.1 in
    let at : get_or order j.0 0 ≡ x = sym (get_or-take k order j.0 0 (omega arith)) ∙ j.2 in
    let first : place order (get_or order j.0 0) ≡ j.0 = once j.0 (omega arith) in
    let second : place order (get_or order k 0) ≡ k = once k l in
    let same : place order (get_or order j.0 0) ≡ place order (get_or order k 0) = ap (place order) (at ∙ sym is) in
    omega arith

-- places one before the other are those of two blocks
earlier_forward : (order : List ℕ) (places : List (Option ℕ)) → Numbered order places → (a b : ℕ) → Earlier (get_or places a None) (get_or places b None) → (place order a < place order b) × (place order b < length order)
earlier_forward order places n a b h =
    let E : Option ℕ → Option ℕ → Type 0 = λ p q. Earlier p q in
    let i : In a order = ⊎_elim (λ i. i) (λ no. let P : Option ℕ → Type 0 = λ p. E p (get_or places b None) in absurd (subst P (n.absent a no) h)) (cases_in a order) in
    let P : Option ℕ → Type 0 = λ p. E p (get_or places b None) in
    let h' : Earlier (Some (place order a)) (get_or places b None) = subst P (n.present a i) h in
    let Q : Option ℕ → Type 0 = λ q. E (Some (place order a)) q in
    let j : In b order = ⊎_elim (λ j. j) (λ no. absurd (subst Q (n.absent b no) h')) (cases_in b order) in
    (subst Q (n.present b j) h', in_place order b j)

forward_earlier : (order : List ℕ) (places : List (Option ℕ)) → Numbered order places → (a b : ℕ) → place order a < place order b → place order b < length order → Earlier (get_or places a None) (get_or places b None)
forward_earlier order places n a b l m =
    let p = n.present a (place_in order a (omega arith)) in
    let q = n.present b (place_in order b m) in
    rw (p, q) l

pub before_all : (order : List ℕ) (places : List (Option ℕ)) → Numbered order places → (ms : List Message) → ((i : ℕ) → i < length ms → Before places (message_at ms i)) → Forward ms order
before_all order places n ms h m i =
    let none : Message = record { from = 0; to = 0; size = 0 } in
    let r = in_index m ms none i in
    let P : Message → Type 0 = λ x. Before places x in
    earlier_forward order places n m.from m.to (subst P r.2 (h r.0 r.1))

pub all_before : (order : List ℕ) (places : List (Option ℕ)) → Numbered order places → (ms : List Message) → Forward ms order → (i : ℕ) → i < length ms → Before places (message_at ms i)
all_before order places n ms h i l =
    let m = message_at ms i in
    let f = h m (in_getD ms i (record { from = 0; to = 0; size = 0 }) l) in
    forward_earlier order places n m.from m.to f.0 f.1

-- what the table decides of the messages
pub decided : (ms : List Message) (order : List ℕ) (places : List (Option ℕ)) (r : Bool) → length ms ≤ 1024 → length order ≤ 256 → Numbered order places
    → Decides r ((i : ℕ) → i < length ms → Before places (message_at ms i)) → Decides r (Ordered ms order)
decided ms order places r few short numbered all = (
  λ e. record { few = few; short = short; blocks = numbered.blocks; once = numbered.once; forward = before_all order places numbered ms (all.0 e) },
  λ o. all.1 (all_before order places numbered ms o.forward),
)
