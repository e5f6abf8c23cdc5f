-- The partitions that are met come each from the one before it by the rule, down to one block; and the earliest cheapest of them.
use Rattle.std.proofs.Common.{◌≡◌, ℕ, zero, suc, ◌<◌, ◌≤◌, Bool, true, false, cond, not, eqb, ltb, List, [], ◌∷◌, length, filter, sym, refl, ap, ◌∙◌, subst, inl, inr, ⊎_elim, arith}
use Rattle.std.proofs.lemmas.Bool.{cases_eq, cases_Bool, cases_lt, cond-true, cond-false, ltb-true, ltb-false, lt-ltb, le-ltb, ne_eqb, eqb-false, not-true}
use Rattle.graph.specs.Net.{Net}
use Rattle.machine.specs.Model.{Model}
use Rattle.chains.specs.declared.message.Message.{Message}
use Rattle.chains.specs.Lists.{In}
use Rattle.partition.specs.Blocks.{block_of, block_list, blocks_among, messages}
use Rattle.partition.specs.Times.{overhead}
use Rattle.partition.proofs.Counting.{of_among, in_among, apart_among, no_longer}
use Rattle.partition.proofs.Places.{in_kept, of_kept}
use Rattle.dividing.specs.Firsts.{first_least_of}
use Rattle.dividing.specs.Dividing.{cost_of, joined_to, heaviest, others, best_partner, next, later, met, divided}
use Rattle.dividing.specs.Laws.{Heaviest, Partner, ComesNext, GoesOn, MetRightly, Divides}
use Rattle.dividing.proofs.Firsts.{Chosen, Rising, rising_append, first_chosen, chosen_in, chosen_first, greatest_ranks, least_ranks}
use Rattle.dividing.proofs.Steps.{Fit, Standing, standing_partitions, standing_convex, standing_after, fewer}

rising_one : (b : Bool) (x : ℕ) → Rising (cond b (x ∷ []) [])
rising_one true x = (λ y i. absurd i, tt)
rising_one false x = tt

of_one : (b : Bool) (x y : ℕ) → In y (cond b (x ∷ []) []) → y ≡ x
of_one true x y i = ⊎_elim (λ (e : y ≡ x). e) (λ j. absurd j) i
of_one false x y i = absurd i

pub rising_among : (blocks : List ℕ) (n : ℕ) → Rising (blocks_among blocks n)
rising_among blocks zero = tt
rising_among blocks (suc n) =
    let t = eqb (block_of blocks (suc n)) (suc n) in
    rising_append (blocks_among blocks n) (cond t (suc n ∷ []) []) (rising_among blocks n) (rising_one t (suc n))
    (λ x y i j. omega (arith, (of_among blocks n x i).1, of_one t (suc n) y j))

pub rising_kept : (p : ℕ → Bool) (xs : List ℕ) → Rising xs → Rising (filter p xs)
rising_kept p [] r = tt
rising_kept p (x ∷ xs) r =
    let ih = rising_kept p xs r.1 in
    ⊎_elim
    (λ t. subst (λ (l : List ℕ). Rising l) (sym (cond-true (p x) (x ∷ filter p xs) (filter p xs) t)) (λ y i. r.0 y (of_kept p xs y i).0, ih))
    (λ t. subst (λ (l : List ℕ). Rising l) (sym (cond-false (p x) (x ∷ filter p xs) (filter p xs) t)) ih)
    (cases_Bool (p x))

pub least_of_chosen : (f : ℕ → ℕ) (xs : List ℕ) → (xs ≡ [] → ⊥) → Chosen (λ b a. ltb (f b) (f a)) xs (first_least_of f 0 xs)
least_of_chosen f [] some = absurd (some refl)
least_of_chosen f (x ∷ xs) some = first_chosen (λ b a. ltb (f b) (f a)) (least_ranks f) x xs

module _ (m : Model) (net : Net) (fit : Fit net) where
  module _ (p : List ℕ) (standing : Standing net p) (several : 1 < length (block_list p)) where
    abbrev ms : List Message
    ms = messages net.links p

    long : length p ≡ length net.tasks
    long = (standing_partitions net fit p standing).all

    -- some block stands in the list, so that there is a task
    tasks_some : (xs : List ℕ) → block_list p ≡ xs → 1 ≤ length p
    tasks_some [] e = absurd (omega (arith, ap length e))
    tasks_some (x ∷ xs) e = let r = of_among p (length p) x (subst (λ (l : List ℕ). In x l) (sym e) (inl refl)) in omega (arith, r.0, r.1)

    one_in : In 1 (block_list p)
    one_in =
        let some : 1 ≤ length p = tasks_some (block_list p) refl in
        let l = (standing_partitions net fit p standing).least 1 (omega arith) (omega (arith, long)) in
        in_among p (length p) 1 (omega arith) some (omega (arith, l.0, l.1))

    abbrev h : ℕ
    h = heaviest m net p

    abbrev heavy : ℕ → ℕ
    heavy = overhead m ms

    heavy_chosen : Chosen (λ b a. ltb (heavy a) (heavy b)) (1 ∷ block_list p) h
    heavy_chosen = first_chosen (λ b a. ltb (heavy a) (heavy b)) (greatest_ranks heavy) 1 (block_list p)

    heavy_in : In h (block_list p)
    heavy_in = ⊎_elim (λ (e : h ≡ 1). subst (λ k. In k (block_list p)) (sym e) one_in) (λ i. i) (chosen_in (λ b a. ltb (heavy a) (heavy b)) (greatest_ranks heavy) (1 ∷ block_list p) h heavy_chosen)

    pub heaviest_right : Heaviest m net p (heaviest m net p)
    heaviest_right = record {
      block = heavy_in;
      greatest = λ c i. ltb-false (heavy h) (heavy c) (heavy_chosen.none c (inr i));
      first = λ c i e. chosen_first (λ b a. ltb (heavy a) (heavy b)) (1 ∷ block_list p) h c heavy_chosen
          (λ y j. (of_among p (length p) y j).0, rising_among p (length p)) (inr i) (le-ltb (heavy c) (heavy h) (omega (arith, e)));
    }

    abbrev other : ℕ → Bool
    other b = not (eqb b h)

    -- several blocks are not all the heaviest
    pub some_other : others (heaviest m net p) p ≡ [] → ⊥
    some_other e =
        let all : (x : ℕ) → In x (block_list p) → In x (h ∷ []) = λ x i.
        ⊎_elim (λ (q : x ≡ h). inl q)
        (λ (ne : x ≡ h → ⊥). absurd (subst (λ (l : List ℕ). In x l) e (in_kept other (block_list p) x i (ap not (ne_eqb x h ne)))))
        (cases_eq x h) in
        omega (arith, no_longer (block_list p) (h ∷ []) (apart_among p (length p)) all)

    abbrev price : ℕ → ℕ
    price b = cost_of m net (joined_to net p h b)

    partner_chosen : Chosen (λ b a. ltb (price b) (price a)) (others h p) (best_partner m net p h)
    partner_chosen = least_of_chosen price (others h p) some_other

    partner_in : In (best_partner m net p h) (block_list p) × (other (best_partner m net p h) ≡ true)
    partner_in = of_kept other (block_list p) (best_partner m net p h) (chosen_in (λ b a. ltb (price b) (price a)) (least_ranks price) (others h p) (best_partner m net p h) partner_chosen)

    in_others : (c : ℕ) → In c (block_list p) → (c ≡ h → ⊥) → In c (others h p)
    in_others c i ne = in_kept other (block_list p) c i (ap not (ne_eqb c h ne))

    pub partner_right : Partner m net p (heaviest m net p) (best_partner m net p (heaviest m net p))
    partner_right = record {
      block = partner_in.0;
      other = eqb-false (best_partner m net p h) h (not-true (eqb (best_partner m net p h) h) partner_in.1);
      cheapest = λ c i ne. ltb-false (price c) (price (best_partner m net p h)) (partner_chosen.none c (in_others c i ne));
      first = λ c i ne e. chosen_first (λ b a. ltb (price b) (price a)) (others h p) (best_partner m net p h) c partner_chosen
          (rising_kept other (block_list p) (rising_among p (length p))) (in_others c i ne) (le-ltb (price (best_partner m net p h)) (price c) (omega (arith, e)));
    }

    pub comes_next : ComesNext m net p (next m net p)
    comes_next = record {
      several = several;
      heavy = h;
      joined = best_partner m net p h;
      heaviest = heaviest_right;
      partner = partner_right;
      result = refl;
    }

    pub next_standing : Standing net (next m net p)
    next_standing = standing_after net fit p standing h (best_partner m net p h) heavy_in partner_in.0

    pub next_fewer : length (block_list (next m net p)) < length (block_list p)
    next_fewer = fewer net fit p standing h (best_partner m net p h) heavy_in partner_in.0 (λ e. partner_right.other (sym e))

  -- what is met later, where there are several blocks and where there are not
  pub later_some : (n : ℕ) (p : List ℕ) → 1 < length (block_list p) → later m net (suc n) p ≡ next m net p ∷ later m net n (next m net p)
  later_some n p several = cond-true (ltb 1 (length (block_list p))) (next m net p ∷ later m net n (next m net p)) [] (lt-ltb 1 (length (block_list p)) several)

  pub later_none : (n : ℕ) (p : List ℕ) → length (block_list p) ≤ 1 → later m net n p ≡ []
  later_none zero p few = refl
  later_none (suc n) p few = cond-false (ltb 1 (length (block_list p))) (next m net p ∷ later m net n (next m net p)) [] (le-ltb 1 (length (block_list p)) few)

  pub goes_on : (n : ℕ) (p : List ℕ) → Standing net p → length (block_list p) ≤ suc n → GoesOn m net p (later m net n p)
  goes_on zero p s few = few
  goes_on (suc n) p s few =
      ⊎_elim
      (λ (several : 1 < length (block_list p)).
      subst (GoesOn m net p) (sym (later_some n p several))
      (comes_next p s several, goes_on n (next m net p) (next_standing p s several) (omega (arith, next_fewer p s several))))
      (λ (single : length (block_list p) ≤ 1). subst (GoesOn m net p) (sym (later_none (suc n) p single)) single)
      (cases_lt 1 (length (block_list p)))

  -- as many steps as there are blocks are as good as any more
  pub enough : (n k : ℕ) (p : List ℕ) → Standing net p → length (block_list p) ≤ suc n → length (block_list p) ≤ suc k → later m net n p ≡ later m net k p
  enough zero k p s a b = sym (later_none k p a)
  enough (suc n) zero p s a b = later_none (suc n) p b
  enough (suc n) (suc k) p s a b =
      ⊎_elim
      (λ (several : 1 < length (block_list p)).
      later_some n p several
      ∙ ap (λ l. next m net p ∷ l) (enough n k (next m net p) (next_standing p s several) (omega (arith, next_fewer p s several)) (omega (arith, next_fewer p s several)))
      ∙ sym (later_some k p several))
      (λ (single : length (block_list p) ≤ 1). later_none (suc n) p single ∙ sym (later_none (suc k) p single))
      (cases_lt 1 (length (block_list p)))

  later_standing : (n : ℕ) (p q : List ℕ) → Standing net p → In q (later m net n p) → Standing net q
  later_standing zero p q s i = absurd i
  later_standing (suc n) p q s i =
      ⊎_elim
      (λ (several : 1 < length (block_list p)).
      ⊎_elim
      (λ (e : q ≡ next m net p). subst (Standing net) (sym e) (next_standing p s several))
      (λ j. later_standing n (next m net p) q (next_standing p s several) j)
      (subst (λ l. In q l) (later_some n p several) i))
      (λ (single : length (block_list p) ≤ 1). absurd (subst (λ l. In q l) (later_none (suc n) p single) i))
      (cases_lt 1 (length (block_list p)))

  pub met_rightly : (start : List ℕ) → Standing net start → MetRightly m net start (met m net start)
  met_rightly start s = (refl, goes_on (length (block_list start)) start s (omega arith))

  pub divides : (start : List ℕ) → Standing net start → Divides m net start (divided m net start)
  divides start s =
      let f : List ℕ → ℕ = cost_of m net in
      let rest = later m net (length (block_list start)) start in
      let result = divided m net start in
      let c : Chosen (λ b a. ltb (f b) (f a)) (start ∷ rest) result = first_chosen (λ b a. ltb (f b) (f a)) (least_ranks f) start rest in
      let i : In result (start ∷ rest) = chosen_in (λ b a. ltb (f b) (f a)) (least_ranks f) (start ∷ rest) result c in
      let standing : Standing net result = ⊎_elim (λ (e : result ≡ start). subst (Standing net) (sym e) s) (λ j. later_standing (length (block_list start)) start result s j) i in
      record {
        before = c.before;
        after = c.after;
        among = c.split;
        dearer = λ p j. ltb-true (f result) (f p) (c.earlier p j);
        cheapest = λ p j. ltb-false (f p) (f result) (c.none p j);
        convex = standing_convex net fit result standing;
        partitions = standing_partitions net fit result standing;
        saves = ltb-false (f start) (f result) (c.none start (inl refl));
      }
