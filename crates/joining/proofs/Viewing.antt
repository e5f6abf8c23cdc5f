-- A partition with its processing order is all that the view of a partition asks for.
use Rattle.std.proofs.Common.{◌≡◌, ℕ, ◌≤◌, List, length, sym, subst}
use Rattle.graph.specs.declared.records.Link.{Link}
use Rattle.graph.specs.declared.records.Task.{Task}
use Rattle.graph.specs.Net.{Joined, Sized, Timed}
use Rattle.chains.specs.Chains.{Once, Forward}
use Rattle.chains.proofs.Lists.{in_place}
use Rattle.partition.specs.Blocks.{block_of, messages}
use Rattle.partition.specs.Views.{Least, Own, Listed, Numbered}
use Rattle.partition.specs.declared.partition.Partition.{Partition}
use Rattle.partition.specs.Sorted.{Sorted}

-- the facts that a view is made with, in their order
abbrev pub Facts : List Task → List Link → List ℕ → List ℕ → Type 0
Facts tasks links blocks order = record {
  small : length tasks ≤ 256;
  few : length links ≤ 1024;
  timed : Timed tasks;
  joined : Joined (length tasks) links;
  sized : Sized links;
  all : length blocks ≡ length tasks;
  least : Least (length tasks) blocks;
  own : Own (length tasks) blocks;
  listed : Listed (length tasks) blocks order;
  numbered : Numbered (length tasks) blocks order;
  short : length order ≤ 256;
  once : Once order;
  forward : Forward (messages links blocks) order;
}

pub facts : (tasks : List Task) (links : List Link) (blocks order : List ℕ) → length tasks ≤ 256 → length links ≤ 1024 → Timed tasks → Joined (length tasks) links → Sized links
    → Sorted (length tasks) links blocks order → Facts tasks links blocks order
facts tasks links blocks order small few timed joined sized s = record {
  small = small;
  few = few;
  timed = timed;
  joined = joined;
  sized = sized;
  all = s.partitions.all;
  least = s.partitions.least;
  own = s.partitions.own;
  listed = λ t lo hi. in_place order (block_of blocks t) (s.listed t lo hi);
  numbered = s.own;
  short = s.ordered.short;
  once = s.ordered.once;
  forward = s.ordered.forward;
}

-- the view of other blocks of the tasks and links of a partition, which are lent as bs and os
pub viewed : (p : Partition) (blocks order : List ℕ) → Sorted (length p.tasks.now) p.links.now blocks order → (bs os : List ℕ) → bs ≡ blocks → os ≡ order
    → Facts p.tasks.now p.links.now bs os
viewed p blocks order s bs os e f =
    facts p.tasks.now p.links.now bs os p.small p.few p.timed p.joined p.sized
    (subst (λ (xs : List ℕ). Sorted (length p.tasks.now) p.links.now xs os) (sym e) (subst (λ (ys : List ℕ). Sorted (length p.tasks.now) p.links.now blocks ys) (sym f) s))
