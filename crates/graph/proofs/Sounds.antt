-- What every graph's type says of its lists, in one record.
use Rattle.std.proofs.Common.{◌≡◌, ℕ, ◌≤◌, true, ◌&&◌, leb, vec_items}
use Rattle.std.proofs.lemmas.Bool.{and_parts, leb-true}
use Rattle.graph.specs.declared.graph.Graph.{Graph}
use Rattle.graph.specs.Net.{Sound}
use Rattle.graph.specs.Calls.{is_time}

pub graph_sound : (g : Graph) → Sound (vec_items g.tasks) (vec_items g.links)
graph_sound g = record {
  timed = g.timed;
  joined = g.joined;
  unlooped = g.unlooped;
  sized = g.sized;
  single = g.single;
  threaded = g.threaded;
  headed = g.headed;
}

-- a number of one of n tasks
pub numbered : (n t : ℕ) → (leb 1 t && leb t n) ≡ true → (1 ≤ t) × (t ≤ n)
numbered n t e = let p = and_parts _ _ e in (leb-true _ _ p.0, leb-true _ _ p.1)

pub timely : (time : ℕ) → is_time time ≡ true → (1 ≤ time) × (time ≤ 1000000)
timely time e = numbered 1000000 time e
