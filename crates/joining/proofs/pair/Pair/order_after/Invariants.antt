use Rattle.joining.specs.Pairs.{before, behind}
use Rattle.joining.proofs.pair.Pair.order_after.Given as goal

abbrev pub ghost-append : goal.ghost-append
ghost-append a = before a.passes.0.now

abbrev pub ghost-append-2 : goal.ghost-append-2
ghost-append-2 a = behind a.passes.0.now
