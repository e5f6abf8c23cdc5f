-- Greatest figures are had by one and exceeded by none; the list of blocks has each once.
use Rattle.std.proofs.Common.{◌≡◌, ℕ, zero, suc, ◌<◌, ◌≤◌, Bool, true, false, cond, ◌&&◌, eqb, ◌⊎◌, List, [], ◌∷◌, ◌++◌, length, get_or, sym, refl, ◌∙◌, subst, inl, inr, ⊎_elim, arith}
use Rattle.std.proofs.lemmas.Bool.{cases_lt, cases_Bool, eq-eqb, eqb-true, and_parts, and_from, cond-true, cond-false}
use Rattle.chains.specs.declared.message.Message.{Message}
use Rattle.chains.specs.Chains.{ChainFrom, Step, Ordered, Enumerates, chains, place}
use Rattle.chains.specs.Lists.{In, greatest}
use Rattle.chains.specs.Sums.{GreatestFrom, steps_total}
use Rattle.chains.proofs.Lists.{in_getD, in_append, place_in}
use Rattle.chains.proofs.Every.{enumerates}
use Rattle.machine.specs.Model.{Model, Lawful}
use Rattle.partition.specs.declared.partition.Partition.{Partition}
use Rattle.partition.specs.Blocks.{block_of, blocks_among, block_list, messages, Ascending, EachBlock}
use Rattle.partition.specs.Costs.{greatest_below, farthest, step_cost, delay_chain}
use Rattle.partition.specs.Greatest.{GreatestOver, GreatestStep}
use Rattle.partition.specs.Views.{Own, Least}
use Rattle.partition.proofs.Convexity.{step_up}
use Rattle.partition.proofs.Counting.{of_among, in_among, counted}
use Rattle.partition.proofs.Delays.{below_ge, farthest_ge}
use Rattle.partition.proofs.Handling.{ordered, listed, numbered}
use Rattle.partition.proofs.Levels.{greatest_ge, greatest_le}

-- the greatest over a list is 0, or one of the list has it
had : {X : Type 0} (f : X → ℕ) (xs : List X) → (greatest f xs ≡ 0) ⊎ ((x : X) × In x xs × (f x ≡ greatest f xs))
had f [] = inl refl
had f (x ∷ xs) =
    ⊎_elim
    (λ (l : f x < greatest f xs). ⊎_elim
    (λ (z : greatest f xs ≡ 0). absurd (omega (arith, l, z)))
    (λ r. inr (r.0, inr r.1, omega (arith, r.2, l)))
    (had f xs))
    (λ (l : greatest f xs ≤ f x). inr (x, inl refl, omega (arith, l)))
    (cases_lt (f x) (greatest f xs))

-- where there is one, one has it
had_by : {X : Type 0} (f : X → ℕ) (xs : List X) (x : X) → In x xs → (y : X) × In y xs × (f y ≡ greatest f xs)
had_by f xs x i =
    ⊎_elim
    (λ (z : greatest f xs ≡ 0). (x, i, omega (arith, z, greatest_ge f xs x i)))
    (λ r. (r.0, r.1, r.2))
    (had f xs)

-- the greatest over the listed chains from a block is the greatest over all chains from it
pub from_block : (ms : List Message) (order : List ℕ) → Ordered ms order → (n : ℕ) → n ≡ length order → (f : List ℕ → ℕ) (b : ℕ) → In b order → GreatestFrom ms b f (greatest f (chains ms n b))
from_block ms order o n e f b i =
    let Enumerated : ℕ → Type 0 = λ k. Enumerates ms k b in
    let all : Enumerates ms n b = subst Enumerated (sym e) (enumerates ms order o b i) in
    let r = had_by f (chains ms n b) (b ∷ []) (all.every (b ∷ []) (refl, tt)) in
    record {
      chain = r.0;
      begins = all.only r.0 r.1;
      attained = r.2;
      bound = λ c h. greatest_ge f (chains ms n b) c (all.every c h);
    }

-- the greatest of those is the greatest over all chains from a block
pub over_blocks : (ms : List Message) (blocks : List ℕ) (f : List ℕ → ℕ) (g : ℕ → ℕ) → ((b : ℕ) → In b blocks → GreatestFrom ms b f (g b)) → GreatestOver ms blocks f (greatest g blocks)
over_blocks ms blocks f g h = record {
  attained = λ some.
      let r = had_by g blocks (get_or blocks 0 0) (in_getD blocks 0 0 some) in
      let k = h r.0 r.1 in
      (r.0, k.chain, r.1, k.begins, omega (arith, k.attained, r.2));
  bound = λ b c i z. omega (arith, (h b i).bound c z, greatest_ge g blocks b i);
  none = λ e. omega (arith, greatest_le g blocks 0 (λ b i. absurd (empty blocks e b i)));
}
  where
    empty : (xs : List ℕ) → length xs ≡ 0 → (b : ℕ) → In b xs → ⊥
    empty [] e b i = i
    empty (x ∷ xs) e b i = absurd (omega (arith, e))

below_had : (n : ℕ) (f : ℕ → ℕ) → (greatest_below n f ≡ 0) ⊎ ((k : ℕ) × (k < n) × (f k ≡ greatest_below n f))
below_had zero f = inl refl
below_had (suc n) f =
    ⊎_elim
    (λ (l : f n < greatest_below n f). ⊎_elim
    (λ (z : greatest_below n f ≡ 0). absurd (omega (arith, l, z)))
    (λ r. inr (r.0, omega (arith, r.1), omega (arith, r.2, l)))
    (below_had n f))
    (λ (l : greatest_below n f ≤ f n). inr (n, omega arith, omega (arith, l)))
    (cases_lt (f n) (greatest_below n f))

below_by : (n : ℕ) (f : ℕ → ℕ) → 0 < n → (k : ℕ) × (k < n) × (f k ≡ greatest_below n f)
below_by n f some =
    ⊎_elim
    (λ (z : greatest_below n f ≡ 0). (0, some, omega (arith, z, below_ge n f 0 some)))
    (λ r. (r.0, r.1, r.2))
    (below_had n f)

-- two processors have the greatest delay
farthest_by : (m : Model) → Lawful m → (s : ℕ) → (p : ℕ) × (q : ℕ) × (p < m.processors) × (q < m.processors) × (m.delay p q s ≡ farthest m s)
farthest_by m law s =
    let n = m.processors in
    let some : 0 < n = omega (arith, law.some) in
    let r = below_by n (λ p. greatest_below n (λ q. m.delay p q s)) some in
    let k = below_by n (λ q. m.delay r.0 q s) some in
    (r.0, k.0, r.1, k.1, k.2 ∙ r.2)

module _ (m : Model) (law : Lawful m) (ms : List Message) (a b : ℕ) where
  abbrev test : Message → Bool
  test y = eqb y.from a && eqb y.to b

  abbrev one : Message → ℕ
  one y = cond (test y) (farthest m y.size) 0

  passes : (y : Message) → y.from ≡ a → y.to ≡ b → test y ≡ true
  passes y l c = and_from (eqb y.from a) (eqb y.to b) (eq-eqb y.from a l) (eq-eqb y.to b c)

  passed : (y : Message) → test y ≡ true → (y.from ≡ a) × (y.to ≡ b)
  passed y t = let k = and_parts (eqb y.from a) (eqb y.to b) t in (eqb-true y.from a k.0, eqb-true y.to b k.1)

  within : (y : Message) → In y ms → y.from ≡ a → y.to ≡ b → (p q : ℕ) → p < m.processors → q < m.processors → m.delay p q y.size ≤ step_cost m ms a b
  within y i l c p q lp lq =
      omega (arith, greatest_ge one ms y i, cond-true (test y) (farthest m y.size) 0 (passes y l c), farthest_ge m y.size p q lp lq)

  abbrev Had : Type 0
  Had = (y : Message) × (p : ℕ) × (q : ℕ) × In y ms × (y.from ≡ a) × (y.to ≡ b) × (p < m.processors) × (q < m.processors) × (m.delay p q y.size ≡ step_cost m ms a b)

  -- where the cost is 0, any message and any two processors have it
  had_free : Step ms a b → step_cost m ms a b ≡ 0 → Had
  had_free s z =
      let some : 0 < m.processors = omega (arith, law.some) in
      let y = s.message in
      (y, 0, 0, s.known, s.leaves, s.comes, some, some, omega (arith, z, within y s.known s.leaves s.comes 0 0 some some))

  had_step : Step ms a b → Had
  had_step s =
      ⊎_elim
      (λ (z : greatest one ms ≡ 0). had_free s z)
      (λ r. ⊎_elim
      (λ (t : test r.0 ≡ true).
      let k = passed r.0 t in
      let f = farthest_by m law r.0.size in
      (r.0, f.0, f.1, r.1, k.0, k.1, f.2, f.3, f.4 ∙ sym (cond-true (test r.0) (farthest m r.0.size) 0 t) ∙ r.2))
      (λ (t : test r.0 ≡ false). had_free s (sym r.2 ∙ cond-false (test r.0) (farthest m r.0.size) 0 t))
      (cases_Bool (test r.0)))
      (had one ms)

  pub step_greatest : GreatestStep m ms a b (step_cost m ms a b)
  step_greatest = record {
    bound = within;
    attained = had_step;
    none = λ no.
        let le = greatest_le one ms 0 (λ y i. ⊎_elim
        (λ (t : test y ≡ true). let k = passed y t in absurd (no (record { message = y; known = i; leaves = k.0; comes = k.1 })))
        (λ (t : test y ≡ false). omega (arith, cond-false (test y) (farthest m y.size) 0 t))
        (cases_Bool (test y))) in
        omega (arith, le);
  }

-- the blocks in ascending order
ascending_append : (xs ys : List ℕ) → Ascending xs → Ascending ys → ((x y : ℕ) → In x xs → In y ys → x < y) → Ascending (xs ++ ys)
ascending_append [] ys ax ay lt = ay
ascending_append (x ∷ xs) ys ax ay lt = (
  λ y i. ⊎_elim (λ j. ax.0 y j) (λ j. lt x y (inl refl) j) (in_append y xs ys i),
  ascending_append xs ys ax.1 ay (λ u v i j. lt u v (inr i) j),
)

ascending_one : (t : Bool) (b : ℕ) → Ascending (cond t (b ∷ []) [])
ascending_one true b = (λ y i. absurd i, tt)
ascending_one false b = tt

of_cond : (t : Bool) (b x : ℕ) → In x (cond t (b ∷ []) []) → x ≡ b
of_cond true b x i = ⊎_elim (λ (e : x ≡ b). e) (λ k. absurd k) i
of_cond false b x i = absurd i

ascending_among : (blocks : List ℕ) (n : ℕ) → Ascending (blocks_among blocks n)
ascending_among blocks zero = tt
ascending_among blocks (suc n) =
    let t = eqb (block_of blocks (suc n)) (suc n) in
    ascending_append (blocks_among blocks n) (cond t (suc n ∷ []) []) (ascending_among blocks n) (ascending_one t (suc n))
    (λ x y i j. omega (arith, (of_among blocks n x i).1, of_cond t (suc n) y j))

pub each_block : (blocks : List ℕ) → Least (length blocks) blocks → Own (length blocks) blocks → EachBlock blocks (block_list blocks)
each_block blocks least own = record {
  every = λ t lo hi. let l = least t lo hi in in_among blocks (length blocks) (block_of blocks t) l.0 (omega (arith, l.1, hi)) (own t lo hi);
  only = λ b i. let r = of_among blocks (length blocks) b i in (b, r.0, r.1, r.2);
  ascending = ascending_among blocks (length blocks);
}

-- of a partition
module _ (p : Partition) where
  abbrev bs : List ℕ
  bs = p.blocks.now

  abbrev ms : List Message
  ms = messages p.links.now bs

  pub chains_greatest : (f : List ℕ → ℕ) (b : ℕ) → In b (block_list bs) → GreatestFrom ms b f (greatest f (chains ms (length (block_list bs)) b))
  chains_greatest f b i =
      let order = p.order.now in
      let r = of_among bs (length bs) b i in
      from_block ms order (ordered p) (length (block_list bs)) (counted bs order p.once (listed p) (numbered p)) f b
      (place_in order b (subst (λ k. place order k < length order) r.2 (listed p b r.0 r.1)))

  pub blocks_greatest : (f : List ℕ → ℕ) → GreatestOver ms (block_list bs) f (greatest (λ b. greatest f (chains ms (length (block_list bs)) b)) (block_list bs))
  blocks_greatest f = over_blocks ms (block_list bs) f (λ b. greatest f (chains ms (length (block_list bs)) b)) (chains_greatest f)

  pub blocks_each : EachBlock bs (block_list bs)
  blocks_each = each_block bs (subst (λ n. Least n bs) (sym p.all) p.least) (subst (λ n. Own n bs) (sym p.all) p.own)

  -- a single block has no step
  pub chain_single : (m : Model) → length (block_list bs) ≡ 1 → delay_chain m ms (block_list bs) ≡ 0
  chain_single m one =
      let order = p.order.now in
      let n : length order ≡ 1 = omega (arith, one, counted bs order p.once (listed p) (numbered p)) in
      let k = (blocks_greatest (steps_total (step_cost m ms))).attained (omega (arith, one)) in
      let lone : (c : List ℕ) → ChainFrom ms k.0 c → steps_total (step_cost m ms) c ≡ 0 =
      λ c. elim c as (λ c. ChainFrom ms k.0 c → steps_total (step_cost m ms) c ≡ 0) [
        | [] ↦ λ z. absurd z
        | y ∷ r ↦ elim r as (λ r. ChainFrom ms k.0 (y ∷ r) → steps_total (step_cost m ms) (y ∷ r) ≡ 0) [
          | [] ↦ λ z. refl
          | s ∷ t ↦ λ z. let u = step_up ms order (ordered p) k.0 s z.1.0 in absurd (omega (arith, u.0, u.1, n))
        ]
      ] in
      sym k.4 ∙ lone k.1 k.3
