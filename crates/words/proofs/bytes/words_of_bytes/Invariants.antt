use Rattle.std.proofs.Common.{◌≡◌, ◌++◌, drop}
use Rattle.words.specs.Bytes.{table, word_at}
use Rattle.words.proofs.bytes.words_of_bytes.Given as goal

abbrev pub invariant-loop-i : goal.invariant-loop-i
invariant-loop-i l = l.into ≡ table (word_at l.bytes) l.i ++ drop l.i l.initial.into
