-- What one step of dividing finds.
use Rattle.std.proofs.Common.{◌≡◌, ℕ, ◌<◌, true, false, List, [], ◌∷◌, length, Some, None, sym, refl, ap, ◌∙◌, subst, arith}
use Rattle.std.proofs.lemmas.Bool.{both_ways, and_from}
use Rattle.machine.specs.Model.{Model}
use Rattle.chains.specs.Chains.{has}
use Rattle.chains.proofs.Lists.{in_has}
use Rattle.partition.specs.Blocks.{block_list}
use Rattle.partition.specs.declared.partition.Partition.{Partition}
use Rattle.joining.specs.Outcomes.{both_blocks, JoinedFrom}
use Rattle.joining.specs.declared.joined.Joined.{Joined}
use Rattle.dividing.specs.Choosing.{cheapest}
use Rattle.dividing.specs.Dividing.{cost_of, joined_to, heaviest, others, best_partner}
use Rattle.dividing.specs.Firsts.{first_least_of}
use Rattle.dividing.specs.Next.{NextMet}
use Rattle.dividing.specs.Views.{net_of, blocks_of}
use Rattle.dividing.specs.declared.choice.Choice.{Choice}
use Rattle.dividing.proofs.Meeting.{heaviest_right, partner_right, some_other}
use Rattle.dividing.proofs.Viewing.{view_fit, view_standing}

cheapest_none : (price : ℕ → ℕ) (xs : List ℕ) → None ≡ cheapest price xs → xs ≡ []
cheapest_none price [] e = refl
cheapest_none price (x ∷ xs) e = absurd (let z : ◌≡◌ {A = ℕ} 0 1 = cc in omega arith)

cheapest_is : (price : ℕ → ℕ) (xs : List ℕ) (c : Choice) → Some c ≡ cheapest price xs → (c.partner ≡ first_least_of price 0 xs) × (c.cost ≡ price (first_least_of price 0 xs))
cheapest_is price [] c e = absurd (let z : ◌≡◌ {A = ℕ} 0 1 = cc in omega arith)
cheapest_is price (x ∷ xs) c e =
    let k = first_least_of price 0 (x ∷ xs) in
    let same : c ≡ record { partner = k; cost = price k } = cc in
    (ap (λ (y : Choice). y.partner) same, ap (λ (y : Choice). y.cost) same)

module _ (m : Model) (p : Partition) (several : 1 < length (block_list (blocks_of p))) where
  abbrev h : ℕ
  h = heaviest m (net_of p) (blocks_of p)

  -- what joining h to a block of q costs
  abbrev pub priced : Partition → ℕ → ℕ → ℕ
  priced q heavy b = cost_of m (net_of q) (joined_to (net_of q) (blocks_of q) heavy b)

  heavy_there : has h (block_list (blocks_of p)) ≡ true
  heavy_there = in_has h (block_list (blocks_of p)) (heaviest_right m (net_of p) (view_fit p) (blocks_of p) (view_standing p) several).block

  pub heavy_known : (q : Partition) → q ≡ p → (heavy : ℕ) → heavy ≡ heaviest m (net_of p) (blocks_of p) → has heavy (block_list (blocks_of q)) ≡ true
  heavy_known q e heavy he = subst (λ (x : Partition). has heavy (block_list (blocks_of x)) ≡ true) (sym e) (subst (λ k. has k (block_list (blocks_of p)) ≡ true) (sym he) heavy_there)

  -- there is a partner
  pub partner_some : (q : Partition) → q ≡ p → (heavy : ℕ) → heavy ≡ heaviest m (net_of p) (blocks_of p) → None ≡ cheapest (priced q heavy) (others heavy (blocks_of q)) → ⊥
  partner_some q e heavy he none =
      let gone : others heavy (blocks_of q) ≡ [] = cheapest_none (priced q heavy) (others heavy (blocks_of q)) none in
      some_other m (net_of p) (view_fit p) (blocks_of p) (view_standing p) several
      (ap (λ k. others k (blocks_of p)) (sym he) ∙ ap (λ (x : Partition). others heavy (blocks_of x)) (sym e) ∙ gone)

  abbrev Picked : Partition → ℕ → Choice → Type 0
  Picked q heavy choice = Some choice ≡ cheapest (priced q heavy) (others heavy (blocks_of q))

  abbrev From : Partition → ℕ → Choice → Joined → Type 0
  From q heavy choice j = JoinedFrom (length q.tasks.now) q.links.now q.blocks.now q.order.now heavy choice.partner j

  found : (choice : Choice) (j : Joined) → Picked p h choice → From p h choice j → NextMet m (net_of p) (blocks_of p) (record { joined = j; cost = choice.cost })
  found choice j picked from =
      let k = cheapest_is (priced p h) (others h (blocks_of p)) choice picked in
      record {
        several = several;
        blocks = from.joined ∙ ap (joined_to (net_of p) (blocks_of p) h) k.0;
        tables = record { tasks = from.all; sorted = from.sorted; count = from.counted };
        cost = k.1;
      }

  pub next_met : (q : Partition) → q ≡ p → (heavy : ℕ) → heavy ≡ heaviest m (net_of p) (blocks_of p) → (choice : Choice) (j : Joined)
      → Some choice ≡ cheapest (λ b. cost_of m (net_of q) (joined_to (net_of q) (blocks_of q) heavy b)) (others heavy (blocks_of q))
      → JoinedFrom (length q.tasks.now) q.links.now q.blocks.now q.order.now heavy choice.partner j
      → NextMet m (net_of p) (blocks_of p) (record { joined = j; cost = choice.cost })
  next_met q e heavy he choice j =
      subst (λ (x : Partition). Picked x heavy choice → From x heavy choice j → NextMet m (net_of p) (blocks_of p) (record { joined = j; cost = choice.cost })) (sym e)
      (subst (λ k. Picked p k choice → From p k choice j → NextMet m (net_of p) (blocks_of p) (record { joined = j; cost = choice.cost })) (sym he) (found choice j))

  -- the chosen partner is a block
  both_there : (choice : Choice) → Picked p h choice → both_blocks (blocks_of p) h choice.partner ≡ true
  both_there choice picked =
      let k = cheapest_is (priced p h) (others h (blocks_of p)) choice picked in
      let bl = block_list (blocks_of p) in
      and_from (has h bl) (has choice.partner bl) heavy_there
      (subst (λ b. has b bl ≡ true) (sym k.0) (in_has (best_partner m (net_of p) (blocks_of p) h) bl (partner_right m (net_of p) (view_fit p) (blocks_of p) (view_standing p) several).block))

  pub both_known : (q : Partition) → q ≡ p → (heavy : ℕ) → heavy ≡ heaviest m (net_of p) (blocks_of p) → (choice : Choice)
      → Some choice ≡ cheapest (λ b. cost_of m (net_of q) (joined_to (net_of q) (blocks_of q) heavy b)) (others heavy (blocks_of q))
      → both_blocks (blocks_of q) heavy choice.partner ≡ false → ⊥
  both_known q e heavy he choice =
      subst (λ (x : Partition). Picked x heavy choice → both_blocks (blocks_of x) heavy choice.partner ≡ false → ⊥) (sym e)
      (subst (λ k. Picked p k choice → both_blocks (blocks_of p) k choice.partner ≡ false → ⊥) (sym he)
      (λ picked no. both_ways (both_blocks (blocks_of p) h choice.partner) no (both_there choice picked)))
