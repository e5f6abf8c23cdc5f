-- The first best of a list is best, and better than all before it.
use Rattle.std.proofs.Common.{◌≡◌, ℕ, ◌≤◌, Bool, true, false, cond, ltb, List, [], ◌∷◌, ◌++◌, sym, refl, ap, ◌∙◌, subst, inl, inr, ⊎_elim, arith}
use Rattle.std.proofs.lemmas.Bool.{cases_Bool, cond-true, cond-false, ltb-true, ltb-false, lt-ltb, le-ltb}
use Rattle.chains.specs.Lists.{In}
use Rattle.chains.proofs.Lists.{in_right, in_append}
use Rattle.dividing.specs.Firsts.{first_best}

-- r stands in a list, is better than all before it, and none is better
pub record Chosen {A : Type 0} (better : A → A → Bool) (xs : List A) (r : A) : Type 0 where
  pub before : List A
  pub after : List A
  pub split : xs ≡ before ++ r ∷ after
  pub earlier : (p : A) → In p before → better r p ≡ true
  pub none : (p : A) → In p xs → better p r ≡ false

-- what a test for the better of two has to keep
pub record Ranks {A : Type 0} (better : A → A → Bool) : Type 0 where
  pub back : (x y : A) → better x y ≡ true → better y x ≡ false
  pub over : (x y z : A) → better y x ≡ true → better y z ≡ false → better z x ≡ true
  pub under : (x y z : A) → better z x ≡ true → better y x ≡ false → better z y ≡ true
  pub same : (x : A) → better x x ≡ false

heads : {A : Type 0} (x y : A) (xs ys : List A) → x ∷ xs ≡ y ∷ ys → x ≡ y
heads x y xs ys e = cc

tails : {A : Type 0} (x y : A) (xs ys : List A) → x ∷ xs ≡ y ∷ ys → xs ≡ ys
tails x y xs ys e = cc

module _ {A : Type 0} (better : A → A → Bool) (ranks : Ranks better) where
  -- the first element is passed by
  passed : (x y : A) (ys : List A) (r : A) → better y x ≡ true → Chosen better (y ∷ ys) r → Chosen better (x ∷ y ∷ ys) r
  passed x y ys r t c =
      let wins : better r x ≡ true = ranks.over x y r t (c.none y (inl refl)) in
      record {
        before = x ∷ c.before;
        after = c.after;
        split = ap (λ l. x ∷ l) c.split;
        earlier = λ p i. ⊎_elim (λ (e : p ≡ x). subst (λ q. better r q ≡ true) (sym e) wins) (λ j. c.earlier p j) i;
        none = λ p i. ⊎_elim (λ (e : p ≡ x). subst (λ q. better q r ≡ false) (sym e) (ranks.back r x wins)) (λ j. c.none p j) i;
      }

  -- the second element is passed by: the first is the one, or is passed by too
  dropped : (x y : A) (ys : List A) (r : A) → better y x ≡ false → (before after : List A) → x ∷ ys ≡ before ++ r ∷ after → ((p : A) → In p before → better r p ≡ true) → ((p : A) → In p (x ∷ ys) → better p r ≡ false) → Chosen better (x ∷ y ∷ ys) r
  dropped x y ys r f [] after e earlier none =
      let xr : x ≡ r = heads x r ys after e in
      record {
        before = [];
        after = y ∷ ys;
        split = ap (λ k. k ∷ y ∷ ys) xr;
        earlier = λ p i. absurd i;
        none = λ p i. ⊎_elim (λ (q : p ≡ x). none p (inl q))
            (λ i. ⊎_elim (λ (q : p ≡ y). subst (λ k. better k r ≡ false) (sym q) (subst (λ k. better y k ≡ false) xr f)) (λ j. none p (inr j)) i) i;
      }
  dropped x y ys r f (b ∷ bs) after e earlier none =
      let xb : x ≡ b = heads x b ys (bs ++ r ∷ after) e in
      let rest : ys ≡ bs ++ r ∷ after = tails x b ys (bs ++ r ∷ after) e in
      let wins : better r x ≡ true = subst (λ k. better r k ≡ true) (sym xb) (earlier b (inl refl)) in
      let here : better r y ≡ true = ranks.under x y r wins f in
      record {
        before = x ∷ y ∷ bs;
        after = after;
        split = ap (λ l. x ∷ y ∷ l) rest;
        earlier = λ p i. ⊎_elim (λ (q : p ≡ x). subst (λ k. better r k ≡ true) (sym q) wins)
            (λ i. ⊎_elim (λ (q : p ≡ y). subst (λ k. better r k ≡ true) (sym q) here) (λ j. earlier p (inr j)) i) i;
        none = λ p i. ⊎_elim (λ (q : p ≡ x). none p (inl q))
            (λ i. ⊎_elim (λ (q : p ≡ y). subst (λ k. better k r ≡ false) (sym q) (ranks.back r y here)) (λ j. none p (inr j)) i) i;
      }

  pub first_chosen : (x : A) (xs : List A) → Chosen better (x ∷ xs) (first_best better x xs)
  first_chosen x [] = record {
    before = [];
    after = [];
    split = refl;
    earlier = λ p i. absurd i;
    none = λ p i. ⊎_elim (λ (e : p ≡ x). subst (λ k. better k x ≡ false) (sym e) (ranks.same x)) (λ j. absurd j) i;
  }
  first_chosen x (y ∷ ys) =
      ⊎_elim
      (λ t.
      let e : cond (better y x) y x ≡ y = cond-true (better y x) y x t in
      subst (λ k. Chosen better (x ∷ y ∷ ys) (first_best better k ys)) (sym e) (passed x y ys (first_best better y ys) t (first_chosen y ys)))
      (λ t.
      let e : cond (better y x) y x ≡ x = cond-false (better y x) y x t in
      let c = first_chosen x ys in
      subst (λ k. Chosen better (x ∷ y ∷ ys) (first_best better k ys)) (sym e) (dropped x y ys (first_best better x ys) t c.before c.after c.split c.earlier c.none))
      (cases_Bool (better y x))

  -- what is chosen of two lists put together
  pub first_append : (x : A) (xs ys : List A) → first_best better x (xs ++ ys) ≡ first_best better (first_best better x xs) ys
  first_append x [] ys = refl
  first_append x (y ∷ xs) ys = first_append (cond (better y x) y x) xs ys

  -- what is chosen stands in the list
  pub chosen_in : (xs : List A) (r : A) → Chosen better xs r → In r xs
  chosen_in xs r c = subst (λ l. In r l) (sym c.split) (in_right r c.before (r ∷ c.after) (inl refl))

pub greatest_ranks : {A : Type 0} (f : A → ℕ) → Ranks {A = A} (λ b a. ltb (f a) (f b))
greatest_ranks f = record {
  back = λ x y t. le-ltb (f x) (f y) (omega (arith, ltb-true (f y) (f x) t));
  over = λ x y z t u. lt-ltb (f x) (f z) (omega (arith, ltb-true (f x) (f y) t, ltb-false (f z) (f y) u));
  under = λ x y z t u. lt-ltb (f y) (f z) (omega (arith, ltb-true (f x) (f z) t, ltb-false (f x) (f y) u));
  same = λ x. le-ltb (f x) (f x) (omega arith);
}

pub least_ranks : {A : Type 0} (f : A → ℕ) → Ranks {A = A} (λ b a. ltb (f b) (f a))
least_ranks f = record {
  back = λ x y t. le-ltb (f y) (f x) (omega (arith, ltb-true (f x) (f y) t));
  over = λ x y z t u. lt-ltb (f z) (f x) (omega (arith, ltb-true (f y) (f x) t, ltb-false (f y) (f z) u));
  under = λ x y z t u. lt-ltb (f z) (f y) (omega (arith, ltb-true (f z) (f x) t, ltb-false (f y) (f x) u));
  same = λ x. le-ltb (f x) (f x) (omega arith);
}

-- the list rises: no element is above a later one
abbrev pub Rising : List ℕ → Type 0
Rising [] = Unit {0}
Rising (x ∷ xs) = ((y : ℕ) → In y xs → x ≤ y) × Rising xs

pub rising_append : (xs ys : List ℕ) → Rising xs → Rising ys → ((x y : ℕ) → In x xs → In y ys → x ≤ y) → Rising (xs ++ ys)
rising_append [] ys a b le = b
rising_append (x ∷ xs) ys a b le = (λ y i. ⊎_elim (λ j. a.0 y j) (λ j. le x y (inl refl) j) (in_append y xs ys i), rising_append xs ys a.1 b (λ u v i j. le u v (inr i) j))

rising_after : (xs ys : List ℕ) (r y : ℕ) → Rising (xs ++ r ∷ ys) → In y ys → r ≤ y
rising_after [] ys r y a i = a.0 y i
rising_after (x ∷ xs) ys r y a i = rising_after xs ys r y a.1 i

-- in a rising list the first best is the least of those as good
pub chosen_first : (better : ℕ → ℕ → Bool) (xs : List ℕ) (r y : ℕ) → Chosen better xs r → Rising xs → In y xs → better r y ≡ false → r ≤ y
chosen_first better xs r y c rising i f =
    ⊎_elim
    (λ j. absurd (let t : better r y ≡ true = c.earlier y j in let z : ◌≡◌ {A = Bool} true false = sym t ∙ f in let w : ◌≡◌ {A = ℕ} 0 1 = cc in omega arith))
    (λ j. ⊎_elim (λ (e : y ≡ r). omega (arith, e)) (λ k. rising_after c.before c.after r y (subst (λ l. Rising l) c.split rising) k) j)
    (in_append y c.before (r ∷ c.after) (subst (λ l. In y l) c.split i))
