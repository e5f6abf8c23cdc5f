use Rattle.words.proofs.Senders.{Handing}
use Rattle.words.proofs.names.senders_of.Given as goal

abbrev pub invariant-loop-link : goal.invariant-loop-link
invariant-loop-link l = Handing l.job.words.now l.senders l.link
