-- What is known of a bench.
use Rattle.schedule.specs.declared.problem.bench.Bench.{Bench}
use Rattle.schedule.specs.Seen.{seen}
use Rattle.schedule.proofs.Boarding.{Shows}

pub shown : {X Y : Type 0} {m : _} (b : Bench X Y m) → Shows (m.meaning b.machine.now) (seen b.problem.now) b.board
shown b = record {
  few = b.few;
  wide = b.wide;
  all = b.all;
  marks = b.marks;
  frees = b.frees;
  arrived = b.arrived;
  last = b.last;
  free_soon = b.free_soon;
  arrive_soon = b.arrive_soon;
}
