-- Tables of block times and levels, and what their sum and their greatest entry mean.
use Rattle.std.proofs.Common.{◌≡◌, ℕ, zero, suc, ◌*◌, ◌^◌, ◌<◌, ◌≤◌, max, List, [], ◌∷◌, All, fold, sum_by, map, length, slice_index, slice_index_or, refl, ap, ◌∙◌, inl, inr, ⊎_elim, mul-le-mul, arith}
use Rattle.std.proofs.lemmas.Bool.{cond-true}
use Rattle.std.proofs.lemmas.List.Sums.{sum_by-cons}
use Rattle.chains.specs.declared.message.Message.{Message}
use Rattle.chains.specs.Chains.{chains, rests, successors, has}
use Rattle.chains.specs.Lists.{In, total, greatest}
use Rattle.chains.proofs.Lists.{in_has, in_getD, of_map, of_joined}
use Rattle.machine.specs.Model.{Model, Lawful}
use Rattle.partition.specs.declared.partition.Partition.{Partition}
use Rattle.partition.specs.Costs.{work, level, at_blocks, critical_path}
use Rattle.partition.specs.Named.{messages_of, list_of, time_of, path_of}
use Rattle.partition.specs.Times.{AtEach, Room}
use Rattle.partition.proofs.Counting.{of_order, to_order, order_total, counted}
use Rattle.partition.proofs.Handling.{fair, listed, numbered}
use Rattle.partition.proofs.Levels.{greatest_ge, greatest_le}
use Rattle.partition.proofs.Summing.{time_small}

total_on : (f g : ℕ → ℕ) (xs : List ℕ) → ((x : ℕ) → In x xs → f x ≡ g x) → total f xs ≡ total g xs
total_on f g [] same = refl
total_on f g (x ∷ xs) same = omega (arith, same x (inl refl), total_on f g xs (λ y i. same y (inr i)))

greatest_on : (f g : ℕ → ℕ) (xs : List ℕ) → ((x : ℕ) → In x xs → f x ≡ g x) → greatest f xs ≡ greatest g xs
greatest_on f g [] same = refl
greatest_on f g (x ∷ xs) same = omega (arith, same x (inl refl), greatest_on f g xs (λ y i. same y (inr i)))

sum_total : (f : ℕ → ℕ) (xs : List ℕ) → sum_by f xs ≡ total f xs
sum_total f [] = refl
sum_total f (x ∷ xs) = sum_by-cons f x xs ∙ omega (arith, sum_total f xs)

fold_greatest : (f : ℕ → ℕ) (a : ℕ) (xs : List ℕ) → fold (λ k x. max k (f x)) a xs ≡ max a (greatest f xs)
fold_greatest f a [] = omega arith
fold_greatest f a (x ∷ xs) = omega (arith, fold_greatest f (max a (f x)) xs)

total_low : (f : ℕ → ℕ) (k : ℕ) (xs : List ℕ) → ((x : ℕ) → In x xs → f x ≤ k) → total f xs ≤ length xs * k
total_low f k [] h = omega arith
total_low f k (x ∷ xs) h = omega (arith, h x (inl refl), total_low f k xs (λ y i. h y (inr i)))

-- the entries of a table at the blocks of an order
module _ (p : Partition) where
  low : (b : ℕ) → In b p.order.now → b ≤ 256
  low b i = omega (arith, (p.numbered b i).1, p.small)

  pub order_known : All (λ b. b < 257) p.order.now
  order_known k d lt = omega (arith, low (slice_index_or p.order.now k d) (in_getD p.order.now k d lt))

  pub sum_fits : (table : List ℕ) → Room table → sum_by (λ b. slice_index table b) p.order.now < 2 ^ 64
  sum_fits table room =
      omega (arith, sum_total (λ b. slice_index table b) p.order.now, total_low (λ b. slice_index table b) (2 ^ 40) p.order.now (λ b i. omega (arith, room b (low b i))), p.short)

  pub sum_is : (f : ℕ → ℕ) (table : List ℕ) → AtEach f table → sum_by (λ b. slice_index table b) p.order.now ≡ work f (list_of p)
  sum_is f table at =
      sum_total (λ b. slice_index table b) p.order.now ∙ total_on (λ b. slice_index table b) f p.order.now (λ b i. at.holds b (low b i))
      ∙ order_total p.blocks.now p.order.now p.once (listed p) (numbered p) f

  pub most_is : (f : ℕ → ℕ) (table : List ℕ) → AtEach (at_blocks f (list_of p)) table → fold (λ k b. max k (slice_index table b)) 0 p.order.now ≡ greatest f (list_of p)
  most_is f table at =
      let bl = list_of p in
      let to = to_order p.blocks.now p.order.now p.once (listed p) (numbered p) in
      let of = of_order p.blocks.now p.order.now p.once (listed p) (numbered p) in
      let same = greatest_on (λ b. slice_index table b) f p.order.now (λ b i. at.holds b (low b i) ∙ cond-true (has b bl) (f b) 0 (in_has b bl (of b i))) in
      let le = greatest_le f p.order.now (greatest f bl) (λ b i. greatest_ge f bl b (of b i)) in
      let ge = greatest_le f bl (greatest f p.order.now) (λ b i. greatest_ge f p.order.now b (to b i)) in
      omega (arith, fold_greatest (λ b. slice_index table b) 0 p.order.now, same, le, ge)

-- a chain of at most n steps has at most n blocks after its first
rests_short : (ms : List Message) (n b : ℕ) (r : List ℕ) → In r (rests ms n b) → length r ≤ n
rests_short ms zero b r i = ⊎_elim (λ (e : r ≡ []). omega (arith, ap (λ (xs : List ℕ). length xs) e)) (λ k. absurd k) i
rests_short ms (suc n) b r i =
    ⊎_elim
    (λ (e : r ≡ []). omega (arith, ap (λ (xs : List ℕ). length xs) e))
    (λ j.
    let k = of_joined (λ s. map (λ (q : List ℕ). s ∷ q) (rests ms n s)) r (successors ms b) j in
    let m = of_map (λ (q : List ℕ). k.0 ∷ q) r (rests ms n k.0) k.2 in
    omega (arith, ap (λ (xs : List ℕ). length xs) m.2, rests_short ms n k.0 m.0 m.1))
    i

total_le : (f : ℕ → ℕ) → ((b : ℕ) → f b < 2 ^ 40) → (xs : List ℕ) → total f xs ≤ length xs * 2 ^ 40
total_le f h [] = omega arith
total_le f h (x ∷ xs) = omega (arith, h x, total_le f h xs)

-- no critical path is so long that a product with the number of processors does not fit
path_le : (f : ℕ → ℕ) → ((b : ℕ) → f b < 2 ^ 40) → (ms : List Message) (blocks : List ℕ) → length blocks ≤ 256 → critical_path f ms blocks ≤ 257 * 2 ^ 40
path_le f h ms blocks few =
    greatest_le (level f ms (length blocks)) blocks (257 * 2 ^ 40)
    (λ b _. greatest_le (total f) (chains ms (length blocks) b) (257 * 2 ^ 40)
    (λ c i.
    let m = of_map (λ (r : List ℕ). b ∷ r) c (rests ms (length blocks) b) i in
    let s = rests_short ms (length blocks) b m.0 m.1 in
    omega (arith, total_le f h c, ap (λ (xs : List ℕ). length xs) m.2, s, few)))

-- every block time is small
pub small_times : (p : Partition) (m : Model) → Lawful m → (b : ℕ) → time_of m p b < 2 ^ 40
small_times p m law b =
    time_small m law p.tasks.now p.blocks.now (messages_of p) b (fair p).few (fair p).handled p.small p.timed

pub times_room : (p : Partition) (m : Model) → Lawful m → (table : List ℕ) → AtEach (time_of m p) table → Room table
times_room p m law table at b lb = omega (arith, at.holds b lb, small_times p m law b)

-- there are at most 256 blocks
pub blocks_few : (p : Partition) → length (list_of p) ≤ 256
blocks_few p = omega (arith, p.short, counted p.blocks.now p.order.now p.once (listed p) (numbered p))

-- and so the critical path times the number of processors fits
pub path_fits : (p : Partition) (m : Model) → Lawful m → (n path : ℕ) → n ≡ m.processors → path ≡ path_of m p → n * path < 2 ^ 64
path_fits p m law n path en ep =
    let le = path_le (time_of m p) (small_times p m law) (messages_of p) (list_of p) (blocks_few p) in
    let few : n ≤ 32 = omega (arith, en, law.few) in
    let long : path ≤ 257 * 2 ^ 40 = omega (arith, ep, le) in
    omega (arith, mul-le-mul few long)
