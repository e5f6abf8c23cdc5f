use Rattle.std.proofs.Common.{◌≡◌, ◌+◌, ◌-◌, ◌≤◌}
use Rattle.graph.specs.Of.{net_of}
use Rattle.words.specs.Reading.{link_count, with_links}
use Rattle.words.proofs.tested.TestedJob.add_links.Given as goal

abbrev pub invariant-loop-link : goal.invariant-loop-link
invariant-loop-link l = record {
  near : l.link ≤ link_count l.self.job.words.now + 1;
  net : net_of l.graph ≡ with_links l.self.job.words.now (l.link - 1);
}
