use Rattle.std.proofs.Common.{◌≡◌, ◌+◌, ◌-◌, ◌<◌, length, ap, ◌∙◌, arith}
use Rattle.std.proofs.lemmas.List.{get_or_read}
use Rattle.graph.specs.declared.records.Task.{Task}
use Rattle.graph.specs.Net.{no_task, newest_of}
use Rattle.graph.proofs.Seek.{seek_start, at_found, at_next, at_less}
use Rattle.graph.proofs.graph.Graph.find_link.Goals as goal

pub loop-at-init : goal.loop-at-init
loop-at-init c =
    let g = c.args.self.now in
    let k = c.args.from - 1 in
    let h : k < length g.tasks.items = omega (arith, g.tasks.ok.0) in
    let same : k + 1 ≡ c.args.from = omega arith in
    let read = get_or_read g.tasks.items k _ h c.index.ensures no_task in
    seek_start _ _ _ _ (ap (λ (x : Task). x.newest) read ∙ g.headed k h ∙ ap (λ n. newest_of g.links.items n) same)

pub returns-then-link-to : goal.returns-then-link-to
returns-then-link-to c = at_found _ _ _ _ c.loop-at-test.true c.loop-at.invariant _ c.index-link.ensures c.if-link-to.true

pub loop-at-smaller : goal.loop-at-smaller
loop-at-smaller c = at_less _ _ _ _ c.loop-at-test.true c.loop-at.invariant _ c.index-link.ensures c.args.self.now.threaded

pub loop-at-preserved : goal.loop-at-preserved
loop-at-preserved c = at_next _ _ _ _ c.loop-at-test.true c.loop-at.invariant _ c.index-link.ensures c.args.self.now.threaded c.if-link-to.false
