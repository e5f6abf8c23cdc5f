use Rattle.std.proofs.Common.{◌≡◌}
use Rattle.chains.proofs.Links.{Gathered}
use Rattle.chains.proofs.best.BySender.gather.Given as goal

-- `links` as its fields in order, since its ghost fields do not hold until all messages are gathered
abbrev pub invariant-loop-i : goal.invariant-loop-i
invariant-loop-i l = (l.links.0.now ≡ l.messages) × Gathered l.messages l.links.1.0 l.links.1.1.0 l.i
