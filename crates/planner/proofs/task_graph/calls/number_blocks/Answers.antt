use Rattle.std.proofs.Common.{◌∙◌, arith, rules}
use Rattle.planner.proofs.Closing.{numbers_more, numbers_all}
use Rattle.planner.proofs.task_graph.calls.number_blocks.Goals as goal

pub loop-number-preserved : goal.loop-number-preserved
loop-number-preserved c = record {
  items = c.push_reserved.ensures.items ∙ numbers_more _ _ c.loop-number.invariant.items c.loop-number.auto.number;
  len = omega arith;
  room = search rules;
}

pub returns : goal.returns
returns c = record {
  items = numbers_all c.args.n c.loop-number.number _ c.loop-number.invariant.items (omega arith);
  len = omega arith;
  room = search rules;
}
