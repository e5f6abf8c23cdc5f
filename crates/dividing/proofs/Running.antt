-- What holds while the partitions met are gone through.
use Rattle.std.proofs.Common.{◌≡◌, ℕ, suc, ◌-◌, ◌<◌, ◌≤◌, Bool, true, false, cond, ltb, List, ◌∷◌, length, sym, refl, ap, ◌∙◌, subst, arith}
use Rattle.graph.specs.Net.{Net}
use Rattle.machine.specs.Model.{Model}
use Rattle.partition.specs.Blocks.{block_list}
use Rattle.joining.specs.Outcomes.{blocks_in, order_in}
use Rattle.joining.specs.declared.joined.Joined.{Joined}
use Rattle.dividing.specs.Dividing.{cost_of, next, later, divided}
use Rattle.dividing.specs.Firsts.{first_least}
use Rattle.dividing.specs.Kept.{Kept}
use Rattle.dividing.specs.Next.{NextMet}
use Rattle.dividing.specs.Tables.{Tables}
use Rattle.dividing.specs.declared.divided.Divided.{Divided}
use Rattle.dividing.proofs.Meeting.{later_some, later_none, enough, next_fewer, next_standing}
use Rattle.dividing.proofs.Steps.{Fit, Standing}

abbrev pub Holds : Net → Joined → Type 0
Holds net j = Tables (length net.tasks) net.links j

-- what is kept is the cheapest so far, and the best of it and all that is still to be met is what dividing gives
pub record Running (m : Model) (net : Net) (start : List ℕ) (present : Joined) (kept : Divided) : Type 0 where
  pub stands : Holds net present
  pub tables : Holds net kept.joined
  pub paid : kept.cost ≡ cost_of m net (blocks_in kept.joined)
  pub ahead : first_least (cost_of m net) (blocks_in kept.joined) (later m net (length (block_list (blocks_in present))) (blocks_in present)) ≡ divided m net start

module _ (m : Model) (net : Net) where
  pub running_start : (start : List ℕ) (j : Joined) (cost : ℕ) → Tables (length net.tasks) net.links j → blocks_in j ≡ start → cost ≡ cost_of m net start
      → Running m net start j (record { joined = j; cost = cost })
  running_start start j cost t b e =
      record {
        stands = t;
        tables = t;
        paid = e ∙ ap (cost_of m net) (sym b);
        ahead = ap (λ (x : List ℕ). first_least (cost_of m net) x (later m net (length (block_list x)) x)) b;
      }

  module _ (fit : Fit net) (start : List ℕ) (present : Joined) (kept : Divided) (r : Running m net start present kept) where
    abbrev p : List ℕ
    p = blocks_in present

    abbrev f : List ℕ → ℕ
    f = cost_of m net

    standing : Standing net p
    standing = record { order = order_in present; sorted = r.stands.sorted }

    module _ (d : Divided) (n : NextMet m net (blocks_in present) d) where
      abbrev q : List ℕ
      q = next m net p

      fewer_next : length (block_list q) < length (block_list p)
      fewer_next = next_fewer m net fit p standing n.several

      pub falls : length (block_list (blocks_in d.joined)) < length (block_list (blocks_in present))
      falls = subst (λ (x : List ℕ). length (block_list x) < length (block_list p)) (sym n.blocks) fewer_next

      -- what is still to be met from p on
      rest : later m net (length (block_list p)) p ≡ q ∷ later m net (length (block_list q)) q
      rest =
          let k = length (block_list p) - 1 in
          let e : length (block_list p) ≡ suc k = omega (arith, n.several) in
          ap (λ i. later m net i p) e ∙ later_some m net fit k p n.several
          ∙ ap (λ (l : List (List ℕ)). q ∷ l) (enough m net fit k (length (block_list q)) q (next_standing m net fit p standing n.several) (omega (arith, fewer_next, e)) (omega arith))

      module _ (more : Divided) (chosen : more ≡ cond (ltb d.cost kept.cost) d kept) where
        abbrev K : List ℕ
        K = blocks_in kept.joined

        next_paid : d.cost ≡ f (blocks_in d.joined)
        next_paid = n.cost ∙ ap f (sym n.blocks)

        test : ltb d.cost kept.cost ≡ ltb (f q) (f K)
        test = ap (λ a. ltb a kept.cost) n.cost ∙ ap (λ b. ltb (f q) b) r.paid

        blocks_more : (b : Bool) → blocks_in (cond b d kept).joined ≡ cond b q K
        blocks_more true = n.blocks
        blocks_more false = refl

        tables_more : (b : Bool) → Holds net (cond b d kept).joined
        tables_more true = n.tables
        tables_more false = r.tables

        paid_more : (b : Bool) → (cond b d kept).cost ≡ f (blocks_in (cond b d kept).joined)
        paid_more true = next_paid
        paid_more false = r.paid

        pub running_more : Running m net start d.joined more
        running_more =
            let b = ltb d.cost kept.cost in
            let at : blocks_in more.joined ≡ cond (ltb (f q) (f K)) q K = ap (λ (x : Divided). blocks_in x.joined) chosen ∙ blocks_more b ∙ ap (λ t. cond t q K) test in
            record {
              stands = n.tables;
              tables = subst (λ (x : Divided). Holds net x.joined) (sym chosen) (tables_more b);
              paid = subst (λ (x : Divided). x.cost ≡ f (blocks_in x.joined)) (sym chosen) (paid_more b);
              ahead =
                  ap (λ (x : List ℕ). first_least f (blocks_in more.joined) (later m net (length (block_list x)) x)) n.blocks
                  ∙ ap (λ (x : List ℕ). first_least f x (later m net (length (block_list q)) q)) at
                  ∙ ap (first_least f K) (sym rest)
                  ∙ r.ahead;
            }

    pub running_done : length (block_list (blocks_in present)) ≤ 1 → Kept m net start kept
    running_done single =
        let is : blocks_in kept.joined ≡ divided m net start = ap (first_least f (blocks_in kept.joined)) (sym (later_none m net fit (length (block_list p)) p single)) ∙ r.ahead in
        record { blocks = is; tables = r.tables; cost = r.paid ∙ ap f is }
