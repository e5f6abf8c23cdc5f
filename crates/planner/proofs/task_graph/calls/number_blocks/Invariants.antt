use Rattle.std.proofs.Common.{◌≡◌, ◌-◌, ◌≤◌, vec_items, vec_len, vec_capacity}
use Rattle.planner.specs.State.{numbers}
use Rattle.planner.proofs.task_graph.calls.number_blocks.Given as goal

abbrev pub invariant-loop-number : goal.invariant-loop-number
invariant-loop-number l = record {
  items : vec_items l.blocks ≡ numbers (l.number - 1);
  len : vec_len l.blocks ≡ l.number - 1;
  room : 256 ≤ vec_capacity l.blocks;
}
