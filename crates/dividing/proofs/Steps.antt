-- Joining two blocks keeps a partition that has a processing order, and leaves fewer blocks.
use Rattle.std.proofs.Common.{◌≡◌, ℕ, ◌+◌, ◌-◌, ◌<◌, ◌≤◌, Bool, true, not, ◌||◌, eqb, List, ◌∷◌, length, get_or, Decides, filter, sym, refl, ap, ◌∙◌, subst, ⊎_elim, arith}
use Rattle.std.proofs.lemmas.Bool.{both_ways, cases_eq, eq-eqb, or_left, or_right, and_parts, not-true}
use Rattle.graph.specs.Net.{Net}
use Rattle.chains.specs.declared.message.Message.{Message}
use Rattle.chains.specs.Lists.{In}
use Rattle.chains.specs.Reach.{Reaches}
use Rattle.chains.proofs.Every.{enumerates}
use Rattle.chains.proofs.Lists.{in_index, in_append, once_apart}
use Rattle.partition.specs.Blocks.{block_of, Partitions, Convex, block_list, messages}
use Rattle.partition.proofs.Convexity.{ordered_convex}
use Rattle.partition.proofs.Counting.{of_among, no_longer}
use Rattle.partition.proofs.Places.{of_kept}
use Rattle.partition.proofs.Renamed.{Ends}
use Rattle.partition.specs.Joins.{between, leads, least_among, early, late, order_after}
use Rattle.partition.specs.Sorted.{Sorted}
use Rattle.joining.proofs.Leading.{leads_decides}
use Rattle.joining.proofs.Outcome.{blocks_counted}
use Rattle.partition.proofs.Reached.{reaching}
use Rattle.partition.proofs.Rejoined.{Reaching}
use Rattle.partition.proofs.Joined.{least_is, sorted_after}
use Rattle.dividing.specs.Dividing.{joined_to}

-- tasks and links as many as a graph may have, each link between two of the tasks
pub record Fit (net : Net) : Type 0 where
  pub small : length net.tasks ≤ 256
  pub few : length net.links ≤ 1024
  pub ends : Ends (length net.tasks) net.links

-- the partition has a processing order
pub record Standing (net : Net) (blocks : List ℕ) : Type 0 where
  pub order : List ℕ
  pub sorted : Sorted (length net.tasks) net.links blocks order

module _ (net : Net) (fit : Fit net) (blocks : List ℕ) (standing : Standing net blocks) where
  abbrev n : ℕ
  n = length net.tasks

  abbrev ms : List Message
  ms = messages net.links blocks

  abbrev order : List ℕ
  order = standing.order

  abbrev s : Sorted n net.links blocks order
  s = standing.sorted

  long : length blocks ≡ n
  long = s.partitions.all

  pub standing_partitions : Partitions (length net.tasks) blocks
  standing_partitions = s.partitions

  pub standing_convex : Convex (messages net.links blocks)
  standing_convex = ordered_convex ms order s.ordered

  -- the order has a place for each block
  pub as_many : length (block_list blocks) ≡ length order
  as_many = blocks_counted n net.links blocks order s

  in_order : (a : ℕ) → In a (block_list blocks) → In a order
  in_order a i =
      let r = of_among blocks (length blocks) a i in
      subst (λ k. In k order) r.2 (s.listed a r.0 (omega (arith, r.1, long)))

  abbrev reach : ℕ → ℕ → Bool
  reach = leads ms (length (block_list blocks))

  decides : (a b : ℕ) → In a order → Decides (reach a b) (Reaches ms a b)
  decides a b i = subst (λ k. Decides (leads ms k a b) (Reaches ms a b)) (sym as_many) (leads_decides ms (length order) a b (enumerates ms order s.ordered a i))

  reaches : Reaching ms order reach
  reaches = reaching ms order s.ordered reach decides

  module _ (a b : ℕ) (ia : In a (block_list blocks)) (ib : In b (block_list blocks)) where
    abbrev in_set : ℕ → Bool
    in_set y = between reach a b y

    abbrev number : ℕ
    number = least_among in_set a blocks

    abbrev order' : List ℕ
    order' = order_after reach a b number order

    sorted' : Sorted n net.links (joined_to net blocks a b) order'
    sorted' = sorted_after n net.links blocks order s fit.few fit.ends fit.small reach reaches a b (in_order a ia) (in_order b ib)

    pub standing_after : Standing net (joined_to net blocks a b)
    standing_after = record { order = order'; sorted = sorted' }

    inside : in_set a ≡ true
    inside = or_left (eqb a a) _ (eq-eqb a a refl)

    inside_b : in_set b ≡ true
    inside_b = or_right (eqb b a) _ (or_left (eqb b b) _ (eq-eqb b b refl))

    -- the number of the union is that of one of the blocks
    number_in : In number order
    number_in =
        ⊎_elim
        (λ (e : number ≡ a). subst (λ k. In k order) (sym e) (in_order a ia))
        (λ i.
        let j = in_index number blocks 0 i in
        let lt : j.0 < length blocks = j.1 in
        let back : j.0 + 1 - 1 ≡ j.0 = omega arith in
        let at : block_of blocks (j.0 + 1) ≡ number = ap (λ k. get_or blocks k 0) back ∙ j.2 in
        subst (λ k. In k order) at (s.listed (j.0 + 1) (omega arith) (omega (arith, long))))
        (least_is in_set a blocks inside).1

    stays_in : (y : ℕ) → In y order' → In y order
    stays_in y i =
        ⊎_elim
        (λ j. (of_kept (early reach a b) order y j).0)
        (λ j. ⊎_elim (λ (e : y ≡ number). subst (λ k. In k order) (sym e) number_in) (λ k. (of_kept (late reach a b) order y k).0) j)
        (in_append y (filter (early reach a b) order) _ i)

    -- of the blocks of the union only its number stays
    leaves : (y : ℕ) → in_set y ≡ true → (y ≡ number → ⊥) → In y order' → ⊥
    leaves y t ne i =
        ⊎_elim
        (λ j. both_ways (in_set y) (not-true (in_set y) (and_parts (not (in_set y)) (reach y a || reach y b) (of_kept (early reach a b) order y j).1).0) t)
        (λ j. ⊎_elim ne
        (λ k. both_ways (in_set y) (not-true (in_set y) (and_parts (not (in_set y)) (not (reach y a || reach y b)) (of_kept (late reach a b) order y k).1).0) t) j)
        (in_append y (filter (early reach a b) order) _ i)

    lost : (y : ℕ) → In y order → in_set y ≡ true → (y ≡ number → ⊥) → length order' < length order
    lost y i t ne = no_longer (y ∷ order') order (leaves y t ne, once_apart order' sorted'.ordered.once) (λ x j. ⊎_elim (λ (e : x ≡ y). subst (λ k. In k order) (sym e) i) (λ k. stays_in x k) j)

    less_order : (a ≡ b → ⊥) → length order' < length order
    less_order ne =
        ⊎_elim
        (λ (e : a ≡ number). lost b (in_order b ib) inside_b (λ q. ne (e ∙ sym q)))
        (λ (d : a ≡ number → ⊥). lost a (in_order a ia) inside d)
        (cases_eq a number)

pub fewer : (net : Net) (fit : Fit net) (blocks : List ℕ) (standing : Standing net blocks) (a b : ℕ) → In a (block_list blocks) → In b (block_list blocks) → (a ≡ b → ⊥)
    → length (block_list (joined_to net blocks a b)) < length (block_list blocks)
unfolding standing_after
fewer net fit blocks standing a b ia ib ne =
    omega (arith, as_many net fit blocks standing, as_many net fit (joined_to net blocks a b) (standing_after net fit blocks standing a b ia ib), less_order net fit blocks standing a b ia ib ne)
