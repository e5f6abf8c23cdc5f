-- What the code leaves is what joining means.
use Rattle.std.proofs.Common.{◌≡◌, ℕ, ◌+◌, ◌-◌, ◌≤◌, Bool, true, false, eqb, List, length, get_or, Decides, sym, ap, ◌∙◌, subst, arith}
use Rattle.std.proofs.lemmas.Bool.{false≢true, and_from, eqb-true, eq-eqb}
use Rattle.graph.specs.declared.records.Link.{Link}
use Rattle.chains.specs.Chains.{Enumerates, has}
use Rattle.chains.specs.Lists.{In}
use Rattle.chains.specs.Reach.{Reaches}
use Rattle.chains.proofs.Every.{enumerates}
use Rattle.chains.proofs.Lists.{in_index, in_place, has_in, in_has, place_in}
use Rattle.partition.specs.Blocks.{block_of, block_list, messages}
use Rattle.partition.specs.Views.{Listed, Numbered}
use Rattle.partition.specs.declared.partition.Partition.{Partition}
use Rattle.partition.proofs.Counting.{counted, of_among, in_among}
use Rattle.partition.proofs.Handling.{ends, ordered}
use Rattle.partition.specs.Joins.{between, least_among, united, joining, order_after}
use Rattle.joining.specs.Outcomes.{blocks_in, order_in, leading, number_of, JoinedFrom}
use Rattle.partition.specs.Sorted.{Sorted}
use Rattle.joining.specs.Tables.{reach_in, TellsReach}
use Rattle.joining.specs.Unions.{Union}
use Rattle.joining.specs.declared.joined.Joined.{Joined}
use Rattle.joining.proofs.Agreeing.{joining_same, order_same}
use Rattle.joining.proofs.Leading.{leads_decides, order_counted, same_answer}
use Rattle.joining.proofs.Least.{union_after}
use Rattle.partition.proofs.Reached.{reaching}
use Rattle.partition.proofs.Joined.{sorted_after}

-- whether a number is that of a block: it is that of a task that numbers its own block
pub block_here : (blocks : List ℕ) (x : ℕ) → 1 ≤ x → x ≤ length blocks → eqb (get_or blocks (x - 1) 0) x ≡ has x (block_list blocks)
block_here blocks x lo hi =
    same_answer _ _ {P = block_of blocks x ≡ x}
    (λ t. eqb-true (block_of blocks x) x t, λ e. eq-eqb (block_of blocks x) x e)
    (λ t. (of_among blocks (length blocks) x (has_in x (block_list blocks) t)).2, λ e. in_has x (block_list blocks) (in_among blocks (length blocks) x lo hi e))

pub block_nowhere : (blocks : List ℕ) (x : ℕ) → ((1 ≤ x) → (x ≤ length blocks) → ⊥) → false ≡ has x (block_list blocks)
block_nowhere blocks x out =
    same_answer _ _ {P = ⊥}
    (λ t. false≢true t, λ z. absurd z)
    (λ t. let r = of_among blocks (length blocks) x (has_in x (block_list blocks) t) in out r.0 r.1, λ z. absurd z)

pub sorted_of : (p : Partition) → Sorted (length p.tasks.now) p.links.now p.blocks.now p.order.now
sorted_of p = record {
  partitions = record { all = p.all; least = p.least; own = p.own };
  ordered = ordered p;
  listed = λ t lo hi. place_in p.order.now (block_of p.blocks.now t) (p.listed t lo hi);
  own = p.numbered;
}

-- how many blocks a partition has
pub blocks_counted : (n : ℕ) (links : List Link) (blocks order : List ℕ) → Sorted n links blocks order → length (block_list blocks) ≡ length order
blocks_counted n links blocks order s =
    let long : n ≡ length blocks = sym s.partitions.all in
    counted blocks order s.ordered.once
    (subst (λ k. Listed k blocks order) long (λ t lo hi. in_place order (block_of blocks t) (s.listed t lo hi)))
    (subst (λ k. Numbered k blocks order) long s.own)

module _ (p : Partition) where
  abbrev blocks : List ℕ
  blocks = p.blocks.now

  abbrev order : List ℕ
  order = p.order.now

  abbrev links : List Link
  links = p.links.now

  abbrev n : ℕ
  n = length p.tasks.now

  pub in_order : (y : ℕ) → has y (block_list blocks) ≡ true → In y order
  in_order y t =
      let r = of_among blocks (length blocks) y (has_in y (block_list blocks) t) in
      subst (λ k. In k order) r.2 ((sorted_of p).listed y r.0 (omega (arith, r.1, p.all)))

  known : (y : ℕ) → In y blocks → In y order
  known y i =
      let j = in_index y blocks 0 i in
      let back : j.0 + 1 - 1 ≡ j.0 = omega arith in
      subst (λ k. In k order) (ap (λ k. get_or blocks k 0) back ∙ j.2) ((sorted_of p).listed (j.0 + 1) (omega arith) (omega (arith, j.1, p.all)))

  decides : (a b : ℕ) → In a order → Decides (leading links blocks a b) (Reaches (messages links blocks) a b)
  decides a b i =
      leads_decides (messages links blocks) (length (block_list blocks)) a b
      (subst (λ k. Enumerates (messages links blocks) k a) (sym (order_counted p)) (enumerates (messages links blocks) order (ordered p) a i))

  module _ (rows : List (List Bool)) (tells : TellsReach (messages links blocks) (length (block_list blocks)) order rows)
      (a b : ℕ) (ha : has a (block_list blocks) ≡ true) (hb : has b (block_list blocks) ≡ true) where
    abbrev ia : In a order
    ia = in_order a ha

    abbrev ib : In b order
    ib = in_order b hb

    abbrev number : ℕ
    number = least_among (between (reach_in rows) a b) a blocks

    after_sorted : Sorted n links (joining (leading links blocks) blocks a b) (order_after (leading links blocks) a b (number_of links blocks a b) order)
    after_sorted =
        sorted_after n links blocks order (sorted_of p) p.few (ends n links p.joined) p.small (leading links blocks)
        (reaching (messages links blocks) order (ordered p) (leading links blocks) decides) a b ia ib

    order_is : order_after (reach_in rows) a b number order ≡ order_after (leading links blocks) a b (number_of links blocks a b) order
    order_is = order_same order (reach_in rows) (leading links blocks) tells a b ia ib blocks known

    pub order_room : length (order_after (reach_in rows) a b number order) ≤ 256
    order_room = omega (arith, ap length order_is, after_sorted.ordered.short)

    pub outcome : (j : Joined) (k : ℕ) → k ≡ number → blocks_in j ≡ united (between (reach_in rows) a b) k blocks → order_in j ≡ order_after (reach_in rows) a b k order
        → JoinedFrom n links blocks order a b j
    outcome j k e h f =
        let ins : blocks_in j ≡ joining (leading links blocks) blocks a b =
        h ∙ ap (λ v. united (between (reach_in rows) a b) v blocks) e ∙ joining_same order (reach_in rows) (leading links blocks) tells a b ia ib blocks known in
        let next : order_in j ≡ order_after (leading links blocks) a b (number_of links blocks a b) order =
        f ∙ ap (λ v. order_after (reach_in rows) a b v order) e ∙ order_is in
        let sorted : Sorted n links (blocks_in j) (order_in j) =
        subst (λ (xs : List ℕ). Sorted n links xs (order_in j)) (sym ins) (subst (λ (ys : List ℕ). Sorted n links (joining (leading links blocks) blocks a b) ys) (sym next) after_sorted) in
        record {
          known = and_from _ _ ha hb;
          all = sorted.partitions.all;
          joined = ins;
          ordering = next;
          sorted = sorted;
          union = subst (λ (xs : List ℕ). Union n links blocks a b xs) (sym ins)
              (union_after n links blocks order (sorted_of p) p.few (ends n links p.joined) p.small (leading links blocks) decides a b ia ib);
          counted = sym (blocks_counted n links (blocks_in j) (order_in j) sorted);
        }
