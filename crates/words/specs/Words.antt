-- The words of a graph: edition 1, how many tasks and links, two words a task, three words a link.
use Rattle.std.specs.Prelude.{ℕ, ◌+◌, ◌*◌, cond, List, [], ◌∷◌, ◌++◌, length, drop, Ok, Err, nat_le}
use Rattle.std.specs.List.{flat_map}
use Rattle.graph.specs.declared.records.Link.{Link}
use Rattle.graph.specs.declared.records.Task.{Task}
use Rattle.graph.specs.declared.records.Refusal.TheVariants.{OutputTooShort}
use Rattle.graph.specs.Net.{Net}
use Rattle.graph.specs.Calls.{Answer}

-- time, and newest link or 0
abbrev pub task_words : Task → List ℕ
task_words t = t.time ∷ t.newest ∷ []

-- receiver, size, and next older link of the same sender or 0
abbrev pub link_words : Link → List ℕ
link_words l = l.receiver ∷ l.size ∷ l.next ∷ []

abbrev pub words_of : Net → List ℕ
words_of net = 1 ∷ length net.tasks ∷ length net.links ∷ (flat_map task_words net.tasks ++ flat_map link_words net.links)

-- how many words n tasks and e links take
abbrev pub word_count : ℕ → ℕ → ℕ
word_count n e = 3 + 2 * n + 3 * e

-- how many words a graph takes
abbrev pub needed : Net → ℕ
needed net = word_count (length net.tasks) (length net.links)

-- writing answers how many words there are; a list that is too short is refused with the length that is needed
abbrev pub write_answer : Net → List ℕ → Answer
write_answer net out = cond (nat_le (needed net) (length out)) (Ok (needed net)) (Err (OutputTooShort (needed net)))

-- what the list holds then: the words, and what stood behind them; or what it held, where it is too short
abbrev pub written : Net → List ℕ → List ℕ
written net out = cond (nat_le (needed net) (length out)) (words_of net ++ drop (needed net) out) out
