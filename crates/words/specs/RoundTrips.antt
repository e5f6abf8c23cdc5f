-- Words that are written and read again, and words that are read and written again.
use Rattle.std.specs.Prelude.{◌≡◌, ℕ, List, None}
use Rattle.graph.specs.Net.{Net}
use Rattle.words.specs.Words.{words_of}
use Rattle.words.specs.Reading.{read_refusal, graph_read}

-- words that are accepted are written back equal
abbrev pub WrittenBack : List ℕ → Type 0
WrittenBack ws = read_refusal ws ≡ None → words_of (graph_read ws) ≡ ws

-- the words of a graph are accepted, and stand for that graph
pub record ReadsBack (net : Net) : Type 0 where
  pub accepted : read_refusal (words_of net) ≡ None
  pub same : graph_read (words_of net) ≡ net
