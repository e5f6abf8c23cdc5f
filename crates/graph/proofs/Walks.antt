-- Which tasks reach which is what walks say.
use Rattle.std.proofs.Common.{◌≡◌, ℕ, zero, suc, ◌+◌, ◌-◌, ◌<◌, ◌≤◌, Bool, true, false, not, eqb, List, [], ◌∷◌, ◌++◌, length, get_or, Some, None, sym, refl, subst, ⊎_elim, arith}
use Rattle.std.proofs.lemmas.List.{take_all}
use Rattle.std.proofs.lemmas.Bool.{both_ways, cases_eq, cases_lt, and_left, and_parts, or_cases, or_left, ne_eqb, cond-false}
use Rattle.std.proofs.lemmas.Bool.Decides.{nat_tests}
use Rattle.graph.specs.declared.records.Link.{Link}
use Rattle.graph.specs.Net.{Net, no_link, linked, joins, Joined}
use Rattle.graph.specs.Walks.{Linked, Walk, through, reaches, least, circle, some_number, ReachesByWalks, NamesACircle}
use Rattle.graph.proofs.LastOfs.{last_bound, last_hit, last_none, last_zero}

pub some_is : (n : ℕ) → (n ≡ 0 → ⊥) → Some n ≡ some_number n
some_is n ne = sym (cond-false (eqb n 0) None (Some n) (ne_eqb n 0 ne))

-- the link that is found is one
linked_is : (links : List Link) (a b : ℕ) → not (eqb (linked links a b) 0) ≡ true → Linked links a b
linked_is links a b e =
    let n = linked links a b in
    let whole = take_all (length links) links (omega arith) in
    let bound : n ≤ length links = rw whole at (last_bound (joins a b) links no_link (length links) (omega arith)) in
    let back : n ≡ (n - 1) + 1 = grind (arith, nat_tests) in
    let hit = last_hit (joins a b) links no_link (length links) (n - 1) (omega arith) (rw whole back) in
    (n - 1, omega arith, grind (arith, nat_tests), grind (arith, nat_tests))

-- a link is found
is_linked : (links : List Link) (a b : ℕ) → Linked links a b → not (eqb (linked links a b) 0) ≡ true
is_linked links a b l = let none = λ (e : linked links a b ≡ 0). last_zero (joins a b) no_link links e l.0 l.1 in grind (arith, nat_tests)

walk_on : (links : List Link) (a c b : ℕ) (via on : List ℕ) → Walk links a via c → Walk links c on b → Walk links a (via ++ c ∷ on) b
walk_on links a c b [] on v w = (v, w)
walk_on links a c b (d ∷ via) on v w = (v.0, walk_on links d c b via on v.1 w)

module _ (links : List Link) where
  walked : (k a b : ℕ) → through links k a b ≡ true → (via : List ℕ) × Walk links a via b
  walked zero a b e = ([], linked_is links a b e)
  walked (suc k) a b e =
      ⊎_elim (walked k a b)
      (λ f. let p = and_parts _ _ f in
      let v = walked k a (suc k) p.0 in
      let w = walked k (suc k) b p.1 in
      (v.0 ++ suc k ∷ w.0, walk_on links a (suc k) b v.0 w.0 v.1 w.1))
      (or_cases _ _ e)

  pub through_more : (k a b : ℕ) → through links k a b ≡ true → through links (suc k) a b ≡ true
  through_more k a b e = or_left _ _ e

  through_direct : (k a b : ℕ) → Linked links a b → through links k a b ≡ true
  through_direct zero a b l = is_linked links a b l
  through_direct (suc k) a b l = through_more k a b (through_direct k a b l)

  -- one way after another, where they meet in a task up to k
  pub through_join : (k a c b : ℕ) → 1 ≤ c → c ≤ k → through links k a c ≡ true → through links k c b ≡ true → through links k a b ≡ true
  through_join zero a c b lo hi p q = absurd (omega arith)
  through_join (suc k) a c b lo hi p q =
      ⊎_elim
      (λ (e : c ≡ suc k). let to = rw e at p in let from = rw e at q in grind (arith, nat_tests))
      (λ (ne : c ≡ suc k → ⊥).
      let le : c ≤ k = omega arith in
      let straight = through_join k a c b lo le in
      let before = through_join k a c (suc k) lo le in
      let after = through_join k (suc k) c b lo le in
      grind (arith, nat_tests))
      (cases_eq c (suc k))

  module _ (n : ℕ) (joined : Joined n links) where
    -- past the tasks that are linked, none reaches any
    pub through_past : (k a b : ℕ) → n < a → through links k a b ≡ false
    through_past zero a b past =
        let none : linked links a b ≡ 0 =
        last_none (joins a b) no_link links (λ i l.
        let x = get_or links i no_link in
        let j = joined i l in
        and_left (eqb x.sender a) (eqb x.receiver b) (ne_eqb x.sender a (λ e. omega (arith, e, j.1)))) in
        grind (arith, nat_tests)
    through_past (suc k) a b past =
        let straight = through_past k a b past in
        let before = through_past k a (suc k) past in
        grind (arith, nat_tests)

    reached : (a b : ℕ) (via : List ℕ) → Walk links a via b → through links n a b ≡ true
    reached a b [] w = through_direct n a b w
    reached a b (c ∷ via) w =
        let l = w.0 in
        let j = joined l.0 l.1 in
        let lo : 1 ≤ c = subst (λ x. 1 ≤ x) l.3 j.2 in
        let hi : c ≤ n = subst (λ x. x ≤ n) l.3 j.3 in
        through_join n a c b lo hi (through_direct n a c l) (reached c b via w.1)

    pub link_reaches : (i : ℕ) → i < length links → through links n (get_or links i no_link).sender (get_or links i no_link).receiver ≡ true
    link_reaches i h = through_direct n _ _ (i, h, refl, refl)

    -- what the receiver of a link reaches, its sender reaches
    pub sender_reaches : (i b : ℕ) → i < length links → through links n (get_or links i no_link).receiver b ≡ true → through links n (get_or links i no_link).sender b ≡ true
    sender_reaches i b h e = let j = joined i h in through_join n _ (get_or links i no_link).receiver b j.2 j.3 (link_reaches i h) e

pub reaches_by_walks : (net : Net) → Joined (length net.tasks) net.links → ReachesByWalks net
reaches_by_walks net joined = record {
  walked = λ a b e. walked net.links (length net.tasks) a b e;
  reached = λ a b via w. reached net.links (length net.tasks) joined a b via w;
}

-- the least that passes: it does, none below does, and none at all where it is 0
module _ (p : ℕ → Bool) where
  pub least_none : (n : ℕ) → least p n ≡ 0 → (t : ℕ) → 1 ≤ t → t ≤ n → p t ≡ false
  least_none zero e t lo hi = absurd (omega arith)
  least_none (suc n) e t lo hi =
      ⊎_elim
      (λ (same : t ≡ suc n). rw same (grind (arith, nat_tests)))
      (λ (ne : t ≡ suc n → ⊥). least_none n (grind (arith, nat_tests)) t lo (omega arith))
      (cases_eq t (suc n))

  pub least_bound : (n : ℕ) → least p n ≤ n
  least_bound zero = omega arith
  least_bound (suc n) = let ih = least_bound n in grind (arith, nat_tests)

  pub least_more : (n : ℕ) → least p n ≡ 0 → p (suc n) ≡ false → least p (suc n) ≡ 0
  least_more n z y = grind (arith, nat_tests)

  pub least_here : (n : ℕ) → least p n ≡ 0 → p (suc n) ≡ true → least p (suc n) ≡ suc n
  least_here n z y = grind (arith, nat_tests)

  pub least_stays : (n : ℕ) → (least p n ≡ 0 → ⊥) → least p (suc n) ≡ least p n
  least_stays n nz = grind (arith, nat_tests)

  pub least_holds : (n : ℕ) → (least p n ≡ 0 → ⊥) → p (least p n) ≡ true
  least_holds zero nz = absurd (nz refl)
  least_holds (suc n) nz = let ih : (least p n ≡ 0 → ⊥) → p (least p n) ≡ true = least_holds n in grind (arith, nat_tests)

  pub least_first : (n t : ℕ) → 1 ≤ t → t < least p n → p t ≡ false
  least_first zero t lo h = absurd (omega arith)
  least_first (suc n) t lo h =
      ⊎_elim
      (λ (l : t < least p n). least_first n t lo l)
      (λ (l : least p n ≤ t). least_none n (grind (arith, nat_tests, least_bound n)) t lo (grind (arith, nat_tests, least_bound n)))
      (cases_lt t (least p n))

pub names_a_circle : (net : Net) → Joined (length net.tasks) net.links → NamesACircle net
names_a_circle net joined =
    let n = length net.tasks in
    let p : ℕ → Bool = λ t. reaches net t t in
    let by = reaches_by_walks net joined in
    let starts : (t : ℕ) (via : List ℕ) (b : ℕ) → Walk net.links t via b → (1 ≤ t) × (t ≤ n) =
    λ t via. elim via as (λ via. (b : ℕ) → Walk net.links t via b → (1 ≤ t) × (t ≤ n)) [
      | [] ↦ λ b w. let j = joined w.0 w.1 in (subst (λ x. 1 ≤ x) w.2 j.0, subst (λ x. x ≤ n) w.2 j.1)
      | c ∷ via ↦ λ b w. let l = w.0 in let j = joined l.0 l.1 in (subst (λ x. 1 ≤ x) l.2 j.0, subst (λ x. x ≤ n) l.2 j.1)
    ] in
    record {
      none = λ z t via w. let s = starts t via t w in both_ways _ (least_none p n z t s.0 s.1) (by.reached t t via w);
      some = λ nz. by.walked (circle net) (circle net) (least_holds p n nz);
      first = λ t via lt w. let s = starts t via t w in both_ways _ (least_first p n t s.0 lt) (by.reached t t via w);
    }
