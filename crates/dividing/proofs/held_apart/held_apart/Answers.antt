use Rattle.std.proofs.Common.{ℕ, List, length, sym, ap, ◌∙◌, subst}
use Rattle.fixed_list.specs.Items.{items_of}
use Rattle.partition.specs.Blocks.{block_list}
use Rattle.partition.specs.Sorted.{Sorted}
use Rattle.joining.proofs.Leading.{order_counted}
use Rattle.joining.proofs.Outcome.{sorted_of}
use Rattle.dividing.proofs.held_apart.held_apart.Goals as goal

pub returns-clause-tables : goal.returns-clause-tables
returns-clause-tables c =
    let p = c.args.partition.now in
    let n = length p.tasks.now in
    let links = p.links.now in
    let b = c.from_slice-blocks.ensures in
    let o = c.from_slice-order.ensures in
    record {
      tasks = ap length b ∙ p.all;
      sorted = subst (λ (x : List ℕ). Sorted n links x (items_of c.from_slice-order.result)) (sym b) (subst (Sorted n links p.blocks.now) (sym o) (sorted_of p));
      count = ap length o ∙ sym (order_counted p) ∙ ap (λ (x : List ℕ). length (block_list x)) (sym b);
    }
