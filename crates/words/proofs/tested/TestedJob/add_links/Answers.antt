use Rattle.std.proofs.Common.{◌+◌, ◌-◌, ◌≤◌, arith}
use Rattle.words.specs.Reading.{link_count}
use Rattle.words.proofs.Reading.{link_added}
use Rattle.words.proofs.tested.TestedJob.add_links.Goals as goal

pub loop-link-preserved : goal.loop-link-preserved
loop-link-preserved c =
    let self = c.args.self.now in
    let ws = self.job.words.now in
    let l = c.loop-link.link in
    let lo : 1 ≤ l = omega arith in
    let hi : l ≤ link_count ws = omega arith in
    record {
      near = omega arith;
      net = link_added ws l (l + 1 - 1) _ _ _ _ _ _ c.requires.allowed lo hi (omega arith) (self.sends l lo hi) c.receiver.ensures c.size.ensures c.loop-link.invariant.net c.link.ensures;
    }

pub returns-2 : goal.returns-2
returns-2 c =
    let self = c.args.self.now in
    let ws = self.job.words.now in
    let l = c.loop-link.link in
    let lo : 1 ≤ l = omega arith in
    let hi : l ≤ link_count ws = omega arith in
    link_added ws l (link_count ws) _ _ _ _ _ _ c.requires.allowed lo hi (omega (arith, c.loop-link.invariant.near)) (self.sends l lo hi) c.receiver.ensures c.size.ensures c.loop-link.invariant.net c.link.ensures
