use Rattle.std.proofs.Common.{◌≡◌, sym, subst, arith}
use Rattle.words.proofs.Senders.{Handed, handed_none, handed_more, handed_all}
use Rattle.words.proofs.names.senders_of.Goals as goal

pub loop-link-init : goal.loop-link-init
loop-link-init c = λ named.
    let job = c.args.job.now in
    subst (Handed job.words.now named c.name_by_tasks-senders.result) (sym c.link_count-link.ensures.value)
    (handed_none job.words.now named _ c.name_by_tasks-senders.ensures.long job.few_links (λ l _ lt. c.name_by_tasks-senders.ensures.names l lt))

pub loop-link-preserved : goal.loop-link-preserved
loop-link-preserved c = λ named.
    let job = c.args.job.now in
    handed_more job.words.now named c.loop-link.senders c.loop-link.link _ c.loop-link-test.true job.few_links (sym c.next.ensures) (c.loop-link.invariant named)

pub returns : goal.returns
returns c =
    let ws = c.args.job.now.words.now in
    let named = c.requires in
    let z : c.loop-link.link ≡ 0 = omega arith in
    handed_all ws named c.loop-link.senders (subst (Handed ws named c.loop-link.senders) z (c.loop-link.invariant named))
