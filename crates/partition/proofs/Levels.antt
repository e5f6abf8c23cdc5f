-- The greatest over the chains from a block, as the levels ask for it.
use Rattle.std.proofs.Common.{◌≡◌, ℕ, ◌^◌, ◌<◌, ◌≤◌, true, false, List, [], ◌∷◌, length, get_or, replicate, sym, refl, ap, ◌∙◌, subst, inl, inr, ⊎_elim, arith}
use Rattle.std.proofs.lemmas.Bool.{cases_Bool, cond-true, cond-false}
use Rattle.chains.specs.declared.message.Message.{Message}
use Rattle.chains.specs.Chains.{Follows, Ordered, Enumerates, chains, has}
use Rattle.chains.specs.Lists.{In, total, greatest}
use Rattle.chains.specs.Sums.{GreatestFrom, GreatestAtEach, SmallTimes, time_in}
use Rattle.chains.proofs.Lists.{has_in, in_has, place_in, all_same}
use Rattle.chains.proofs.Every.{enumerates, rises}
use Rattle.chains.proofs.Greatest.{greatest_same}
use Rattle.chains.proofs.Places.{cases_in}
use Rattle.partition.specs.Costs.{at_blocks, level_at}
use Rattle.partition.specs.Times.{AtEach}
use Rattle.partition.specs.Blocks.{block_list}
use Rattle.partition.specs.Named.{messages_of, list_of}
use Rattle.partition.specs.Views.{Listed, Numbered}
use Rattle.partition.specs.declared.partition.Partition.{Partition}
use Rattle.partition.proofs.Counting.{of_order, to_order, counted}
use Rattle.partition.proofs.Handling.{ordered, listed, numbered}

pub greatest_ge : {X : Type 0} (f : X → ℕ) (xs : List X) (x : X) → In x xs → f x ≤ greatest f xs
greatest_ge f [] x i = absurd i
greatest_ge f (y ∷ ys) x i = ⊎_elim (λ (e : x ≡ y). omega (arith, ap f e)) (λ j. omega (arith, greatest_ge f ys x j)) i

pub greatest_le : {X : Type 0} (f : X → ℕ) (xs : List X) (k : ℕ) → ((x : X) → In x xs → f x ≤ k) → greatest f xs ≤ k
greatest_le f [] k h = omega arith
greatest_le f (y ∷ ys) k h = omega (arith, h y (inl refl), greatest_le f ys k (λ x i. h x (inr i)))

module _ (ms : List Message) (order : List ℕ) (o : Ordered ms order) where
  -- the greatest of a measure over the chains from a block is the greatest over the list of them
  pub level_is : (n : ℕ) → n ≡ length order → (f : List ℕ → ℕ) (b x : ℕ) → In b order → GreatestFrom ms b f x → x ≡ greatest f (chains ms n b)
  level_is n e f b x i h =
      let Enumerated : ℕ → Type 0 = λ k. Enumerates ms k b in
      let all : Enumerates ms n b = subst Enumerated (sym e) (enumerates ms order o b i) in
      let lo = greatest_ge f (chains ms n b) h.chain (all.every h.chain h.begins) in
      let hi = greatest_le f (chains ms n b) x (λ c j. h.bound c (all.only c j)) in
      omega (arith, lo, hi, h.attained)

  -- two tables of times that agree on the order's blocks agree on every chain from one of them
  pub totals_same : (f g : ℕ → ℕ) → ((b : ℕ) → In b order → f b ≡ g b) → (r : List ℕ) (b : ℕ) → In b order → Follows ms b r → total f (b ∷ r) ≡ total g (b ∷ r)
  totals_same f g same [] b i h = omega (arith, same b i)
  totals_same f g same (s ∷ r) b i h =
      omega (arith, same b i, totals_same f g same r s (place_in order s (rises ms order o b s h.0).1) h.1)

-- what the run leaves is at each block's number the greatest measure of a chain from it
pub most_at : (ms : List Message) (order blocks : List ℕ) → Ordered ms order → Listed (length blocks) blocks order → Numbered (length blocks) blocks order
    → (f : List ℕ → ℕ) (table : List ℕ) → length table ≡ 257 → ((b : ℕ) → In b order → GreatestFrom ms b f (get_or table b 0)) → ((b : ℕ) → (In b order → ⊥) → get_or table b 0 ≡ get_or (replicate 257 0) b 0)
    → AtEach (at_blocks (λ b. greatest f (chains ms (length (block_list blocks)) b)) (block_list blocks)) table
most_at ms order blocks o listed numbered f table long best kept =
    let bl = block_list blocks in
    let most : ℕ → ℕ = λ b. greatest f (chains ms (length bl) b) in
    record {
      long = long;
      holds = λ b lb. ⊎_elim
          (λ (i : In b order).
          let known : has b bl ≡ true = in_has b bl (of_order blocks order o.once listed numbered b i) in
          level_is ms order o (length bl) (counted blocks order o.once listed numbered) f b (get_or table b 0) i (best b i)
          ∙ sym (cond-true (has b bl) (most b) 0 known))
          (λ (out : In b order → ⊥).
          let unknown : has b bl ≡ false = ⊎_elim
          (λ (y : has b bl ≡ true). absurd (out (to_order blocks order o.once listed numbered b (has_in b bl y))))
          (λ (y : has b bl ≡ false). y)
          (cases_Bool (has b bl)) in
          kept b out ∙ all_same {A = ℕ} 0 257 b ∙ sym (cond-false (has b bl) (most b) 0 unknown))
          (cases_in b order);
    }

-- what the run leaves is at each block's number its level
pub levels_at : (ms : List Message) (order blocks : List ℕ) → Ordered ms order → Listed (length blocks) blocks order → Numbered (length blocks) blocks order
    → (time : ℕ → ℕ) (times table : List ℕ) → AtEach time times → ((b : ℕ) → In b order → time b < 2 ^ 56) → length table ≡ 257
    → GreatestAtEach (total (time_in times)) (SmallTimes order (time_in times)) ms order (replicate 257 0) table
    → AtEach (level_at time ms (block_list blocks)) table
levels_at ms order blocks o listed numbered time times table at small long g =
    let same : (b : ℕ) → In b order → time_in times b ≡ time b = λ b i. at.holds b (o.blocks b i).1 in
    let tiny : SmallTimes order (time_in times) = λ b i. omega (arith, same b i, small b i) in
    most_at ms order blocks o listed numbered (total time) table long
    (λ b i. greatest_same ms b (total (time_in times)) (total time) (get_or table b 0) (λ c h. totals_same ms order o (time_in times) time same c b i h) (g.exact tiny b i))
    g.kept

-- the same of a partition, whose messages and order the run was given
pub partition_levels : (p : Partition) (ms : List Message) (order : List ℕ) → ms ≡ messages_of p → order ≡ p.order.now
    → (time : ℕ → ℕ) (times table : List ℕ) → AtEach time times → ((b : ℕ) → time b < 2 ^ 40) → length table ≡ 257
    → GreatestAtEach (total (time_in times)) (SmallTimes order (time_in times)) ms order (replicate 257 0) table
    → AtEach (level_at time (messages_of p) (list_of p)) table
partition_levels p ms order em eo time times table at small long run =
    let g : GreatestAtEach (total (time_in times)) (SmallTimes p.order.now (time_in times)) (messages_of p) p.order.now (replicate 257 0) table =
    subst (λ (os : List ℕ). GreatestAtEach (total (time_in times)) (SmallTimes os (time_in times)) (messages_of p) os (replicate 257 0) table) eo
    (subst (λ (ys : List Message). GreatestAtEach (total (time_in times)) (SmallTimes order (time_in times)) ys order (replicate 257 0) table) em run) in
    levels_at (messages_of p) p.order.now p.blocks.now (ordered p) (listed p) (numbered p) time times table at (λ b _. omega (arith, small b)) long g
