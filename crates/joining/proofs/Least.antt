-- Joining two blocks makes the least convex union of them.
use Rattle.std.proofs.Common.{◌≡◌, ℕ, ◌≤◌, Bool, true, false, cond, eqb, ◌⊎◌, List, [], ◌∷◌, ◌++◌, length, Decides, sym, refl, ap, ◌∙◌, subst, inl, inr, ⊎_elim, append_assoc, arith}
use Rattle.std.proofs.lemmas.Bool.{both_ways, cases_eq, cases_Bool, or_left, or_right, eq-eqb}
use Rattle.graph.specs.declared.records.Link.{Link}
use Rattle.chains.specs.declared.message.Message.{Message}
use Rattle.chains.specs.Chains.{Step, Follows, ChainFrom}
use Rattle.chains.specs.Lists.{In}
use Rattle.chains.specs.Reach.{Reaches}
use Rattle.partition.specs.Blocks.{block_of, Partitions, messages, Convex}
use Rattle.partition.proofs.Convexity.{ordered_convex}
use Rattle.partition.proofs.Renamed.{Ends, of_messages, in_messages}
use Rattle.partition.specs.Joins.{between, joining}
use Rattle.partition.specs.Sorted.{Sorted}
use Rattle.joining.specs.Unions.{Coarsens, OnPath, Union}
use Rattle.joining.proofs.Paths.{between_decides, passed}
use Rattle.partition.proofs.Rejoined.{Reaching}
use Rattle.partition.proofs.Reached.{reaching}
use Rattle.partition.proofs.Joined as joins

-- what a coarser partition makes of the steps between blocks
module _ (n : ℕ) (links : List Link) (blocks other : List ℕ) (p : Partitions n blocks) (ends : Ends n links) (coarse : Coarsens n blocks other) where
  abbrev ms : List Message
  ms = messages links blocks

  abbrev ms' : List Message
  ms' = messages links other

  abbrev f : ℕ → ℕ
  f y = block_of other y

  -- a task is in the block of the task that numbers its finer block
  through : (t : ℕ) → 1 ≤ t → t ≤ n → f (block_of blocks t) ≡ f t
  through t lo hi =
      let l = p.least t lo hi in
      coarse (block_of blocks t) t l.0 (omega (arith, l.1, hi)) lo hi (p.own t lo hi)

  -- a step stays inside of a block, or is a step
  pushed_step : (y z : ℕ) → Step ms y z → (f y ≡ f z) ⊎ Step ms' (f y) (f z)
  pushed_step y z s =
      let c = of_messages links blocks s.message s.known in
      let l = c.link in
      let e = ends l c.known in
      let fy : f y ≡ f l.sender = ap f (sym s.leaves ∙ c.leaves) ∙ through l.sender e.0 e.1 in
      let fz : f z ≡ f l.receiver = ap f (sym s.comes ∙ c.comes) ∙ through l.receiver e.2 e.3 in
      ⊎_elim
      (λ (q : f l.sender ≡ f l.receiver). inl (fy ∙ q ∙ sym fz))
      (λ (ne : f l.sender ≡ f l.receiver → ⊥).
      inr (record { message = record { from = f l.sender; to = f l.receiver; size = l.size }; known = in_messages links other l c.known ne; leaves = sym fy; comes = sym fz }))
      (cases_eq (f l.sender) (f l.receiver))

  -- what is reached is in the same block, or at the end of a path
  pushed : (r : List ℕ) (x y : ℕ) → Follows ms x r → In y (x ∷ r) → (f x ≡ f y) ⊎ ((via : List ℕ) × Follows ms' (f x) (via ++ f y ∷ []))
  pushed [] x y h i = ⊎_elim (λ (e : y ≡ x). inl (ap f (sym e))) (λ j. absurd j) i
  pushed (s ∷ r) x y h i =
      ⊎_elim
      (λ (e : y ≡ x). inl (ap f (sym e)))
      (λ j. ⊎_elim
      (λ (q : f x ≡ f s). subst (λ k. (k ≡ f y) ⊎ ((via : List ℕ) × Follows ms' k (via ++ f y ∷ []))) (sym q) (pushed r s y h.1 j))
      (λ t. ⊎_elim
      (λ (q : f s ≡ f y). inr ([], (subst (λ k. Step ms' (f x) k) q t, tt)))
      (λ k. inr (f s ∷ k.0, (t, k.1)))
      (pushed r s y h.1 j))
      (pushed_step x s h.0))
      i

  pushed_reach : (x y : ℕ) → Reaches ms x y → (f x ≡ f y) ⊎ ((via : List ℕ) × Follows ms' (f x) (via ++ f y ∷ []))
  pushed_reach x y q = go q.chain q.begins q.contains
    where
      go : (l : List ℕ) → ChainFrom ms x l → In y l → (f x ≡ f y) ⊎ ((via : List ℕ) × Follows ms' (f x) (via ++ f y ∷ []))
      go [] c i = absurd c
      go (z ∷ l) c i = pushed l x y c.1 (subst (λ k. In y (k ∷ l)) c.0 i)

  follow_both : (via : List ℕ) (x y : ℕ) (l : List ℕ) → Follows ms' x (via ++ y ∷ []) → Follows ms' y l → Follows ms' x ((via ++ y ∷ []) ++ l)
  follow_both [] x y l h k = (h.0, k)
  follow_both (z ∷ via) x y l h k = (h.0, follow_both via z y l h.1 k)

  -- a block that is reached and reaches back is in the same block, where no path returns
  returned : Convex ms' → (x y z : ℕ) → f z ≡ f x → Reaches ms x y → Reaches ms y z → f y ≡ f x
  returned convex x y z e p q =
      ⊎_elim
      (λ (k : f x ≡ f y). sym k)
      (λ u. ⊎_elim
      (λ (k : f y ≡ f z). k ∙ e)
      (λ v.
      let back : Follows ms' (f y) (v.0 ++ f x ∷ []) = subst (λ k. Follows ms' (f y) (v.0 ++ k ∷ [])) e v.1 in
      let round = follow_both u.0 (f x) (f y) (v.0 ++ f x ∷ []) u.1 back in
      absurd (convex (f x) ((u.0 ++ f y ∷ []) ++ v.0) (refl, subst (λ (l : List ℕ). Follows ms' (f x) l) (sym (append_assoc (u.0 ++ f y ∷ []) v.0 (f x ∷ []))) round)))
      (pushed_reach y z q))
      (pushed_reach x y p)

module _ (n : ℕ) (links : List Link) (blocks order : List ℕ) (s : Sorted n links blocks order) (few : length links ≤ 1024) (ends : Ends n links) (small : n ≤ 256)
    (reach : ℕ → ℕ → Bool) (decides : (a b : ℕ) → In a order → Decides (reach a b) (Reaches (messages links blocks) a b)) (a b : ℕ) (ia : In a order) (ib : In b order) where
  abbrev r : Reaching (messages links blocks) order reach
  r = reaching (messages links blocks) order s.ordered reach decides

  abbrev after : List ℕ
  after = joining reach blocks a b

  abbrev in_set : ℕ → Bool
  in_set y = between reach a b y

  abbrev number : ℕ
  number = joins.number n links blocks order s few ends small reach r a b ia ib

  abbrev ren : ℕ → ℕ
  ren y = cond (in_set y) number y

  block_after : (t : ℕ) → 1 ≤ t → t ≤ n → block_of after t ≡ ren (block_of blocks t)
  block_after = joins.block_after n links blocks order s few ends small reach r a b ia ib

  ren_in : (y : ℕ) → in_set y ≡ true → ren y ≡ number
  ren_in = joins.ren_in n links blocks order s few ends small reach r a b ia ib

  ren_out : (y : ℕ) → in_set y ≡ false → ren y ≡ y
  ren_out = joins.ren_out n links blocks order s few ends small reach r a b ia ib

  inside : in_set number ≡ true
  inside = joins.inside n links blocks order s few ends small reach r a b ia ib

  b_inside : in_set b ≡ true
  b_inside = or_right (eqb b a) _ (or_left (eqb b b) _ (eq-eqb b b refl))

  a_inside : in_set a ≡ true
  a_inside = or_left (eqb a a) _ (eq-eqb a a refl)

  -- the block after of a block that is in the union
  after_in : (y : ℕ) → In y order → in_set y ≡ true → block_of after y ≡ number
  after_in y i t = let o = s.own y i in block_after y o.0 o.1 ∙ ap ren o.2 ∙ ren_in y t

  on_path : (y : ℕ) → In y order → Decides (in_set y) (OnPath (messages links blocks) a b y)
  on_path y i = between_decides (messages links blocks) reach a b y (λ z. decides a z ia) (λ z. decides b z ib) (λ z. decides y z i)

  pub union_after : Union n links blocks a b after
  union_after = record {
    partitions = (joins.sorted_after n links blocks order s few ends small reach r a b ia ib).partitions;
    convex = ordered_convex (messages links after) _ (joins.sorted_after n links blocks order s few ends small reach r a b ia ib).ordered;
    unites = after_in a ia a_inside ∙ sym (after_in b ib b_inside);
    coarsens = λ u t lu hu lt ht e. block_after u lu hu ∙ ap ren e ∙ sym (block_after t lt ht);
    least = λ other p convex coarse same u t lu hu lt ht e.
        let f : ℕ → ℕ = λ y. block_of other y in
        let x = block_of blocks u in
        let y = block_of blocks t in
        let one : ren x ≡ ren y = sym (block_after u lu hu) ∙ e ∙ block_after t lt ht in
        let met : (z : ℕ) → In z order → in_set z ≡ true → f z ≡ f a = λ z i k. ⊎_elim
        (λ (q : z ≡ a). ap f q)
        (⊎_elim
        (λ (q : z ≡ b). ap f q ∙ sym same)
        (⊎_elim
        (λ w. let v = passed (messages links blocks) a b z w in returned n links blocks other s.partitions ends coarse convex a z b (sym same) v.0 v.1)
        (λ w. let v = passed (messages links blocks) b a z w in returned n links blocks other s.partitions ends coarse convex b z a same v.0 v.1 ∙ sym same)))
        ((on_path z i).0 k) in
        let fu = through n links blocks other s.partitions ends coarse u lu hu in
        let ft = through n links blocks other s.partitions ends coarse t lt ht in
        let ix = s.listed u lu hu in
        let iy = s.listed t lt ht in
        sym fu ∙ ⊎_elim
        (λ tx. ⊎_elim
        (λ ty. met x ix tx ∙ sym (met y iy ty))
        (λ ty. absurd (both_ways (in_set y) ty (subst (λ k. in_set k ≡ true) (sym (ren_in x tx) ∙ one ∙ ren_out y ty) inside)))
        (cases_Bool (in_set y)))
        (λ tx. ⊎_elim
        (λ ty. absurd (both_ways (in_set x) tx (subst (λ k. in_set k ≡ true) (sym (sym (ren_out x tx) ∙ one ∙ ren_in y ty)) inside)))
        (λ ty. ap f (sym (ren_out x tx) ∙ one ∙ ren_out y ty))
        (cases_Bool (in_set y)))
        (cases_Bool (in_set x)) ∙ ft;
    takes = λ t lo hi p. block_after t lo hi ∙ ren_in (block_of blocks t) ((on_path (block_of blocks t) (s.listed t lo hi)).1 p) ∙ sym (after_in a ia a_inside);
    keeps = λ t lo hi no. block_after t lo hi ∙ ren_out (block_of blocks t)
        (⊎_elim (λ (k : in_set (block_of blocks t) ≡ true). absurd (no ((on_path (block_of blocks t) (s.listed t lo hi)).0 k))) (λ (k : in_set (block_of blocks t) ≡ false). k) (cases_Bool (in_set (block_of blocks t))));
  }
