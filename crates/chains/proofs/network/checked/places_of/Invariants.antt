use Rattle.std.proofs.Common.{map}
use Rattle.chains.specs.Links.{number_of}
use Rattle.chains.proofs.Places.{Read}
use Rattle.chains.proofs.network.checked.places_of.Given as goal

abbrev pub invariant-loop-k : goal.invariant-loop-k
invariant-loop-k l = Read l.order (map number_of l.places) l.k
