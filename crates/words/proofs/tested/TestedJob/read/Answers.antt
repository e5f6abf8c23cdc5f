use Rattle.words.proofs.Senders.{sender_known}
use Rattle.words.proofs.Reading.{verdict_ok, listed}
use Rattle.words.proofs.tested.TestedJob.read.Goals as goal

pub senders_of-senders-requires : goal.senders_of-senders-requires
senders_of-senders-requires c = (listed _ (verdict_ok _ c.in_ok-check_lists.ensures)).named

pub invariant_of-result : goal.invariant_of-result
invariant_of-result c =
    let l = listed c.args.job.words.now (verdict_ok _ c.in_ok-check_lists.ensures) in
    record { sends = c.senders_of-senders.ensures; known = sender_known c.args.job.words.now l.named; timely = l.timely }
