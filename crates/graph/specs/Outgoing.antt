-- The list of links that a task's newest link begins.
use Rattle.std.specs.Prelude.{◌≡◌, ℕ, zero, suc, ◌+◌, ◌-◌, ◌<◌, cond, List, [], ◌∷◌, length, ◌==◌, slice_index_or}
use Rattle.graph.specs.declared.records.Link.{Link}
use Rattle.graph.specs.Net.{Net, no_task, no_link}

-- the links met from number `at` on, each naming the next, until 0 ends the list, and `most` at the most
abbrev pub along : List Link → ℕ → ℕ → List ℕ
along links zero at = []
along links (suc most) at = cond (at == 0) [] (at ∷ along links most (slice_index_or links (at - 1) no_link).next)

-- of the first i links those of sender s, by number, the newest first
abbrev pub sent_by : List Link → ℕ → ℕ → List ℕ
sent_by links zero s = []
sent_by links (suc i) s = cond ((slice_index_or links i no_link).sender == s) (suc i ∷ sent_by links i s) (sent_by links i s)

-- the outgoing links of a task, the newest first
abbrev pub outgoing : Net → ℕ → List ℕ
outgoing net t = sent_by net.links (length net.links) t

-- every task's list ends, and holds exactly the links of that task
abbrev pub ListsAreExact : Net → Type 0
ListsAreExact net = (i more : ℕ) → i < length net.tasks → along net.links (length net.links + more) (slice_index_or net.tasks i no_task).newest ≡ outgoing net (i + 1)
