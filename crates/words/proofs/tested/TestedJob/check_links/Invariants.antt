use Rattle.std.proofs.Common.{◌+◌, ◌-◌, ◌≤◌}
use Rattle.words.specs.Lists.{entries}
use Rattle.words.specs.Reading.{link_count}
use Rattle.words.proofs.Checking.{Checked}
use Rattle.words.proofs.tested.TestedJob.check_links.Given as goal

abbrev pub invariant-loop-link : goal.invariant-loop-link
invariant-loop-link l = record {
  near : l.link ≤ link_count l.self.job.words.now + 1;
  checked : Checked l.self.job.words.now (entries l.older.numbers) (l.link - 1);
}
