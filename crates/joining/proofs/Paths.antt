-- Chains that are cut and put together, and what lies on them.
use Rattle.std.proofs.Common.{◌≡◌, ℕ, Bool, ◌&&◌, ◌||◌, eqb, List, [], ◌∷◌, ◌++◌, Decides, sym, refl, subst, inl, inr, ⊎_elim, append_assoc}
use Rattle.std.proofs.lemmas.Bool.{eqb-true, eq-eqb, and_parts, and_from, or_cases, or_left, or_right}
use Rattle.chains.specs.declared.message.Message.{Message}
use Rattle.chains.specs.Chains.{Step, Follows, Chain, ChainFrom}
use Rattle.chains.specs.Lists.{In}
use Rattle.chains.specs.Reach.{Reaches}
use Rattle.chains.proofs.Lists.{in_right}
use Rattle.partition.specs.Joins.{between}
use Rattle.joining.specs.Unions.{Passes, OnPath}

module _ (ms : List Message) where
  step_on : (l : List ℕ) (x s : ℕ) → Step ms x s → ChainFrom ms s l → Follows ms x l
  step_on [] x s t c = absurd c
  step_on (y ∷ l) x s t c = (subst (λ k. Step ms x k) (sym c.0) t, subst (λ k. Follows ms k l) (sym c.0) c.1)

  -- the chain up to a block of it
  up_to : (r : List ℕ) (x y : ℕ) → Follows ms x r → In y (x ∷ r) → (before : List ℕ) × ChainFrom ms x (before ++ y ∷ [])
  up_to [] x y f i = ⊎_elim (λ (e : y ≡ x). ([], (e, tt))) (λ j. absurd j) i
  up_to (s ∷ r) x y f i =
      ⊎_elim
      (λ (e : y ≡ x). ([], (e, tt)))
      (λ j. let k = up_to r s y f.1 j in (x ∷ k.0, (refl, step_on (k.0 ++ y ∷ []) x s f.0 k.1)))
      i

  pub cut : (x y : ℕ) → Reaches ms x y → (before : List ℕ) × ChainFrom ms x (before ++ y ∷ [])
  cut x y q = go q.chain q.begins q.contains
    where
      go : (l : List ℕ) → ChainFrom ms x l → In y l → (before : List ℕ) × ChainFrom ms x (before ++ y ∷ [])
      go [] c i = absurd c
      go (z ∷ l) c i = up_to l x y c.1 (subst (λ k. In y (k ∷ l)) c.0 i)

  follow_on : (before : List ℕ) (x y : ℕ) (l : List ℕ) → Follows ms x (before ++ y ∷ []) → ChainFrom ms y l → Follows ms x (before ++ l)
  follow_on [] x y l f c = step_on l x y f.0 c
  follow_on (z ∷ before) x y l f c = (f.0, follow_on before z y l f.1 c)

  -- two chains of which one ends where the other begins
  pub glued : (before : List ℕ) (x y : ℕ) (l : List ℕ) → ChainFrom ms x (before ++ y ∷ []) → ChainFrom ms y l → ChainFrom ms x (before ++ l)
  glued [] x y l b c = subst (λ k. ChainFrom ms k l) b.0 c
  glued (z ∷ before) x y l b c = (b.0, follow_on before x y l b.1 c)

  begins_in : (l : List ℕ) (x : ℕ) → ChainFrom ms x l → In x l
  begins_in [] x c = absurd c
  begins_in (y ∷ l) x c = inl (sym c.0)

  passes : (a b y : ℕ) → Reaches ms a y → Reaches ms y b → Passes ms a b y
  passes a b y p q =
      let u = cut a y p in
      let v = cut y b q in
      let same : u.0 ++ (v.0 ++ b ∷ []) ≡ (u.0 ++ v.0) ++ b ∷ [] = sym (append_assoc u.0 v.0 (b ∷ [])) in
      record {
        before = u.0 ++ v.0;
        chain = subst (λ (l : List ℕ). ChainFrom ms a l) same (glued u.0 a y (v.0 ++ b ∷ []) u.1 v.1);
        contains = subst (λ (l : List ℕ). In y l) same (in_right y u.0 (v.0 ++ b ∷ []) (begins_in (v.0 ++ b ∷ []) y v.1));
      }

  rest_chain : (before : List ℕ) (x b : ℕ) → Follows ms x (before ++ b ∷ []) → Chain ms (before ++ b ∷ [])
  rest_chain [] x b f = tt
  rest_chain (y ∷ before) x b f = f.1

  from_there : (before : List ℕ) (b y : ℕ) → Chain ms (before ++ b ∷ []) → In y (before ++ b ∷ []) → Reaches ms y b
  from_there [] b y c i = ⊎_elim (λ (e : y ≡ b). record { chain = y ∷ []; begins = (refl, tt); contains = inl (sym e) }) (λ j. absurd j) i
  from_there (z ∷ before) b y c i =
      ⊎_elim
      (λ (e : y ≡ z). record {
        chain = z ∷ (before ++ b ∷ []);
        begins = (sym e, subst (λ k. Follows ms k (before ++ b ∷ [])) (sym e) c);
        contains = inr (in_right b before (b ∷ []) (inl refl));
      })
      (λ j. from_there before b y (rest_chain before z b c) j)
      i

  as_chain : (l : List ℕ) (x : ℕ) → ChainFrom ms x l → Chain ms l
  as_chain [] x c = absurd c
  as_chain (y ∷ l) x c = subst (λ k. Follows ms k l) (sym c.0) c.1

  pub passed : (a b y : ℕ) → Passes ms a b y → Reaches ms a y × Reaches ms y b
  passed a b y p = (
    record { chain = p.before ++ b ∷ []; begins = p.chain; contains = p.contains },
    from_there p.before b y (as_chain (p.before ++ b ∷ []) a p.chain) p.contains,
  )

  -- the test for the blocks between decides what lies on a path
  pub between_decides : (reach : ℕ → ℕ → Bool) (a b y : ℕ) → ((z : ℕ) → Decides (reach a z) (Reaches ms a z)) → ((z : ℕ) → Decides (reach b z) (Reaches ms b z)) → ((z : ℕ) → Decides (reach y z) (Reaches ms y z))
      → Decides (between reach a b y) (OnPath ms a b y)
  between_decides reach a b y da db dy =
      let ab = reach a y && reach y b in
      let ba = reach b y && reach y a in (
        λ t. ⊎_elim
            (λ e. inl (eqb-true y a e))
            (λ t. ⊎_elim
            (λ e. inr (inl (eqb-true y b e)))
            (λ t. ⊎_elim
            (λ t. let k = and_parts (reach a y) (reach y b) t in inr (inr (inl (passes a b y ((da y).0 k.0) ((dy b).0 k.1)))))
            (λ t. let k = and_parts (reach b y) (reach y a) t in inr (inr (inr (passes b a y ((db y).0 k.0) ((dy a).0 k.1)))))
            (or_cases ab ba t))
            (or_cases (eqb y b) (ab || ba) t))
            (or_cases (eqb y a) (eqb y b || (ab || ba)) t),
        ⊎_elim
            (λ (e : y ≡ a). or_left (eqb y a) (eqb y b || (ab || ba)) (eq-eqb y a e))
            (⊎_elim
            (λ (e : y ≡ b). or_right (eqb y a) (eqb y b || (ab || ba)) (or_left (eqb y b) (ab || ba) (eq-eqb y b e)))
            (⊎_elim
            (λ p. let k = passed a b y p in or_right (eqb y a) (eqb y b || (ab || ba)) (or_right (eqb y b) (ab || ba) (or_left ab ba (and_from (reach a y) (reach y b) ((da y).1 k.0) ((dy b).1 k.1)))))
            (λ p. let k = passed b a y p in or_right (eqb y a) (eqb y b || (ab || ba)) (or_right (eqb y b) (ab || ba) (or_right ab ba (and_from (reach b y) (reach y a) ((db y).1 k.0) ((dy a).1 k.1))))))),
      )
