-- The greatest delay for a size, and tables of step costs, message by message.
use Rattle.std.proofs.Common.{◌≡◌, ℕ, zero, suc, ◌+◌, ◌*◌, ◌<◌, ◌≤◌, max, true, false, cond, ◌&&◌, eqb, List, [], ◌∷◌, ◌++◌, length, get_or, take, set, replicate, sym, refl, ap, ◌∙◌, subst, ⊎_elim, arith}
use Rattle.std.proofs.lemmas.List.{take_more, length-set, get_or-set_same, get_or-set_other}
use Rattle.std.proofs.lemmas.Bool.{cases_eq, cases_Bool, eq-eqb, ne_eqb, eqb-true, and_parts, and_from, cond-true, cond-false}
use Rattle.chains.specs.declared.message.Message.{Message}
use Rattle.chains.specs.Chains.{Step, Follows, Ordered, chains}
use Rattle.chains.specs.Lists.{In, greatest}
use Rattle.chains.specs.Sums.{GreatestAtEach, SmallCosts, cost_in, steps_from, steps_total}
use Rattle.chains.proofs.Lists.{in_getD}
use Rattle.chains.proofs.Greatest.{greatest_same}
use Rattle.machine.specs.Model.{Model, Lawful}
use Rattle.machine.specs.Greatest.{GreatestDelay}
use Rattle.partition.specs.Costs.{greatest_below, farthest, step_cost, delay_from, delay_chain, delay_at, AtEachStep}
use Rattle.partition.specs.Times.{AtEach, Handled}
use Rattle.partition.specs.Blocks.{block_list}
use Rattle.partition.specs.Named.{messages_of, list_of}
use Rattle.partition.specs.Views.{Listed, Numbered}
use Rattle.partition.specs.declared.partition.Partition.{Partition}
use Rattle.partition.proofs.Handling.{fair, ordered, listed, numbered}
use Rattle.partition.proofs.Levels.{greatest_le, most_at}

pub below_ge : (n : ℕ) (f : ℕ → ℕ) (k : ℕ) → k < n → f k ≤ greatest_below n f
below_ge zero f k lt = absurd (omega (arith, lt))
below_ge (suc n) f k lt =
    ⊎_elim
    (λ (e : k ≡ n). omega (arith, ap f e))
    (λ (ne : k ≡ n → ⊥). omega (arith, below_ge n f k (omega (arith, lt, ne))))
    (cases_eq k n)

pub below_le : (n : ℕ) (f : ℕ → ℕ) (x : ℕ) → ((k : ℕ) → k < n → f k ≤ x) → greatest_below n f ≤ x
below_le zero f x h = omega arith
below_le (suc n) f x h = omega (arith, h n (omega arith), below_le n f x (λ k lt. h k (omega (arith, lt))))

module _ (m : Model) (s : ℕ) where
  abbrev from_each : ℕ → ℕ
  from_each p = greatest_below m.processors (λ q. m.delay p q s)

  -- no pair of processors has a greater delay
  pub farthest_ge : (p q : ℕ) → p < m.processors → q < m.processors → m.delay p q s ≤ farthest m s
  farthest_ge p q lp lq =
      omega (arith, below_ge m.processors (λ r. m.delay p r s) q lq, below_ge m.processors from_each p lp)

  pub farthest_le : (x : ℕ) → ((p q : ℕ) → p < m.processors → q < m.processors → m.delay p q s ≤ x) → farthest m s ≤ x
  farthest_le x h = below_le m.processors from_each x (λ p lp. below_le m.processors (λ q. m.delay p q s) x (λ q lq. h p q lp lq))

  pub farthest_is : (d : ℕ) → GreatestDelay m s d → d ≡ farthest m s
  farthest_is d g =
      let r = g.reached in
      omega (arith, r.4, farthest_ge r.0 r.1 r.2 r.3, farthest_le d g.bound)

  pub farthest_small : Lawful m → s ≤ 1000000 → farthest m s ≤ 1000000000
  farthest_small law small = farthest_le 1000000000 (λ p q lp lq. law.near p q s lp lq small)

-- two steps share a place only where they are the same
pub same_place : (a b c d : ℕ) → b ≤ 256 → d ≤ 256 → a * 257 + b ≡ c * 257 + d → (a ≡ c) × (b ≡ d)
same_place a b c d lb ld e = (omega (arith, e, lb, ld), omega (arith, e, lb, ld))

-- an entry after that at place k was raised to x
raised : (table : List ℕ) (k x j : ℕ) → k < length table → get_or (set table k (max (get_or table k 0) x)) j 0 ≡ max (get_or table j 0) (cond (eqb k j) x 0)
raised table k x j lt =
    ⊎_elim
    (λ (e : k ≡ j). subst (λ w. get_or (set table k (max (get_or table k 0) x)) w 0 ≡ max (get_or table w 0) (cond (eqb k w) x 0)) e
    (get_or-set_same table k (max (get_or table k 0) x) 0 lt ∙ ap (λ y. max (get_or table k 0) y) (sym (cond-true (eqb k k) x 0 (eq-eqb k k refl)))))
    (λ (ne : k ≡ j → ⊥). get_or-set_other table k j (max (get_or table k 0) x) 0 (λ e. ne (sym e))
    ∙ (let z : cond (eqb k j) x 0 ≡ 0 = cond-false (eqb k j) x 0 (ne_eqb k j ne) in omega (arith, z)))
    (cases_eq k j)

-- the test of a place is the test of both ends
place_test : (a b c d x : ℕ) → b ≤ 256 → d ≤ 256 → cond (eqb (a * 257 + b) (c * 257 + d)) x 0 ≡ cond (eqb a c && eqb b d) x 0
place_test a b c d x lb ld =
    ⊎_elim
    (λ (e : a * 257 + b ≡ c * 257 + d).
    let s = same_place a b c d lb ld e in
    cond-true (eqb (a * 257 + b) (c * 257 + d)) x 0 (eq-eqb (a * 257 + b) (c * 257 + d) e)
    ∙ sym (cond-true (eqb a c && eqb b d) x 0 (and_from (eqb a c) (eqb b d) (eq-eqb a c s.0) (eq-eqb b d s.1))))
    (λ (ne : a * 257 + b ≡ c * 257 + d → ⊥).
    let f : (eqb a c && eqb b d) ≡ false = ⊎_elim
    (λ (y : (eqb a c && eqb b d) ≡ true).
    let t = and_parts (eqb a c) (eqb b d) y in
    absurd (ne (omega (arith, eqb-true a c t.0, eqb-true b d t.1))))
    (λ (y : (eqb a c && eqb b d) ≡ false). y)
    (cases_Bool (eqb a c && eqb b d)) in
    cond-false (eqb (a * 257 + b) (c * 257 + d)) x 0 (ne_eqb (a * 257 + b) (c * 257 + d) ne) ∙ sym (cond-false (eqb a c && eqb b d) x 0 f))
    (cases_eq (a * 257 + b) (c * 257 + d))

greatest_append : {X : Type 0} (f : X → ℕ) (xs ys : List X) → greatest f (xs ++ ys) ≡ max (greatest f xs) (greatest f ys)
greatest_append f [] ys = omega arith
greatest_append f (x ∷ xs) ys = omega (arith, greatest_append f xs ys)

greatest_more : {X : Type 0} (f : X → ℕ) (xs : List X) (i : ℕ) (d : X) → i < length xs → greatest f (take (i + 1) xs) ≡ max (greatest f (take i xs)) (f (get_or xs i d))
greatest_more f xs i d lt =
    ap (greatest f) (take_more xs i d lt) ∙ greatest_append f (take i xs) (get_or xs i d ∷ []) ∙ omega arith

-- one message more
pub costs_more : (m : Model) (ms : List Message) (table : List ℕ) (i : ℕ) → Handled ms → i < length ms → AtEachStep (step_cost m (take i ms)) table
    → (x : Message) → x ≡ get_or ms i (record { from = 0; to = 0; size = 0 }) → (d : ℕ) → GreatestDelay m x.size d
    → (t : List ℕ) → t ≡ set table (x.from * 257 + x.to) (max (get_or table (x.from * 257 + x.to) 0) d) → AtEachStep (step_cost m (take (i + 1) ms)) t
costs_more m ms table i h lt at x is d most t et =
    let k = x.from * 257 + x.to in
    let good : (x.from ≤ 256) × (x.to ≤ 256) × (x.size ≤ 1000000) =
    h x (subst (λ (y : Message). In y ms) (sym is) (in_getD ms i (record { from = 0; to = 0; size = 0 }) lt)) in
    record {
      long = ap (λ (r : List ℕ). length r) et ∙ length-set table k (max (get_or table k 0) d) ∙ at.long;
      holds = λ a b la lb.
          let one : Message → ℕ = λ (y : Message). cond (eqb y.from a && eqb y.to b) (farthest m y.size) 0 in
          let r = ap (λ (u : List ℕ). get_or u (a * 257 + b) 0) et ∙ raised table k d (a * 257 + b) (omega (arith, good.0, good.1, at.long)) in
          let p = place_test x.from x.to a b d good.1 lb in
          let e = ap (λ y. cond (eqb x.from a && eqb x.to b) y 0) (farthest_is m x.size d most) in
          let n = greatest_more one ms i (record { from = 0; to = 0; size = 0 }) lt in
          let s = ap one (sym is) in
          omega (arith, r, p, e, n, s, at.holds a b la lb);
    }

-- a step costs no more than the greatest delay of any message
step_le : (m : Model) (ms : List Message) (k : ℕ) → ((x : Message) → In x ms → farthest m x.size ≤ k) → (a b : ℕ) → step_cost m ms a b ≤ k
step_le m ms k h a b =
    greatest_le (λ x. cond (eqb x.from a && eqb x.to b) (farthest m x.size) 0) ms k
    (λ x i. ⊎_elim
    (λ (y : (eqb x.from a && eqb x.to b) ≡ true). omega (arith, cond-true (eqb x.from a && eqb x.to b) (farthest m x.size) 0 y, h x i))
    (λ (y : (eqb x.from a && eqb x.to b) ≡ false). omega (arith, cond-false (eqb x.from a && eqb x.to b) (farthest m x.size) 0 y))
    (cases_Bool (eqb x.from a && eqb x.to b)))

pub step_small : (m : Model) → Lawful m → (ms : List Message) → Handled ms → (a b : ℕ) → step_cost m ms a b ≤ 1000000000
step_small m law ms h = step_le m ms 1000000000 (λ x i. farthest_small m x.size law (h x i).2)

-- a lone processor has no delay
farthest_alone : (m : Model) → Lawful m → m.processors ≡ 1 → (s : ℕ) → s ≤ 1000000 → farthest m s ≤ 0
farthest_alone m law one s small =
    farthest_le m s 0 (λ p q lp lq.
    let e : p ≡ q = omega (arith, one, lp, lq) in
    let z : m.delay p q s ≡ 0 = subst (λ w. m.delay p w s ≡ 0) e (law.still p s lp small) in
    omega (arith, z))

steps_free : (cost : ℕ → ℕ → ℕ) → ((a b : ℕ) → cost a b ≤ 0) → (b : ℕ) (r : List ℕ) → steps_from cost b r ≤ 0
steps_free cost h b [] = omega arith
steps_free cost h b (s ∷ r) = omega (arith, h b s, steps_free cost h s r)

total_free : (cost : ℕ → ℕ → ℕ) → ((a b : ℕ) → cost a b ≤ 0) → (c : List ℕ) → steps_total cost c ≤ 0
total_free cost h [] = omega arith
total_free cost h (b ∷ r) = steps_free cost h b r

pub chain_alone : (m : Model) → Lawful m → m.processors ≡ 1 → (ms : List Message) → Handled ms → (blocks : List ℕ) → delay_chain m ms blocks ≡ 0
chain_alone m law one ms h blocks =
    let free = step_le m ms 0 (λ x i. farthest_alone m law one x.size (h x i).2) in
    let le = greatest_le (delay_from m ms (length blocks)) blocks 0
    (λ b _. greatest_le (steps_total (step_cost m ms)) (chains ms (length blocks) b) 0 (λ c _. total_free (step_cost m ms) free c)) in
    omega (arith, le)

-- two tables of step costs that agree on every step agree on every chain
steps_same : (ms : List Message) (f g : ℕ → ℕ → ℕ) → ((a b : ℕ) → Step ms a b → f a b ≡ g a b) → (r : List ℕ) (b : ℕ) → Follows ms b r → steps_from f b r ≡ steps_from g b r
steps_same ms f g same [] b h = refl
steps_same ms f g same (s ∷ r) b h = omega (arith, same b s h.0, steps_same ms f g same r s h.1)

-- what the run leaves is at each block's number the greatest sum of step costs of a chain from it
pub delays_at : (ms : List Message) (order blocks : List ℕ) → Ordered ms order → Listed (length blocks) blocks order → Numbered (length blocks) blocks order
    → (m : Model) → Lawful m → Handled ms → (costs table : List ℕ) → AtEachStep (step_cost m ms) costs → length table ≡ 257
    → GreatestAtEach (steps_total (cost_in costs)) (SmallCosts ms (cost_in costs)) ms order (replicate 257 0) table
    → AtEach (delay_at m ms (block_list blocks)) table
delays_at ms order blocks o listed numbered m law h costs table at long g =
    let same : (a b : ℕ) → Step ms a b → cost_in costs a b ≡ step_cost m ms a b =
    λ a b s. let k = h s.message s.known in at.holds a b (omega (arith, k.0, s.leaves)) (omega (arith, k.1, s.comes)) in
    let tiny : SmallCosts ms (cost_in costs) = λ a b s. omega (arith, same a b s, step_small m law ms h a b) in
    most_at ms order blocks o listed numbered (steps_total (step_cost m ms)) table long
    (λ b i. greatest_same ms b (steps_total (cost_in costs)) (steps_total (step_cost m ms)) (get_or table b 0) (λ c f. steps_same ms (cost_in costs) (step_cost m ms) same c b f) (g.exact tiny b i))
    g.kept

-- the same of a partition, whose messages and order the run was given
pub partition_delays : (p : Partition) (ms : List Message) (order : List ℕ) → ms ≡ messages_of p → order ≡ p.order.now
    → (m : Model) → Lawful m → (costs table : List ℕ) → AtEachStep (step_cost m (messages_of p)) costs → length table ≡ 257
    → GreatestAtEach (steps_total (cost_in costs)) (SmallCosts ms (cost_in costs)) ms order (replicate 257 0) table
    → AtEach (delay_at m (messages_of p) (list_of p)) table
partition_delays p ms order em eo m law costs table at long run =
    let g : GreatestAtEach (steps_total (cost_in costs)) (SmallCosts (messages_of p) (cost_in costs)) (messages_of p) p.order.now (replicate 257 0) table =
    subst (λ (os : List ℕ). GreatestAtEach (steps_total (cost_in costs)) (SmallCosts (messages_of p) (cost_in costs)) (messages_of p) os (replicate 257 0) table) eo
    (subst (λ (ys : List Message). GreatestAtEach (steps_total (cost_in costs)) (SmallCosts ys (cost_in costs)) ys order (replicate 257 0) table) em run) in
    delays_at (messages_of p) p.order.now p.blocks.now (ordered p) (listed p) (numbered p) m law (fair p).handled costs table at long g
