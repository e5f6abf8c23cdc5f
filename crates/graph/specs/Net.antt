-- Tasks and links as lists, and what holds of them in every graph.
use Rattle.std.specs.Prelude.{◌≡◌, ℕ, ◌+◌, ◌<◌, ◌≤◌, Bool, ◌&&◌, List, [], length, take, ◌==◌, ◌≢◌, nat_eq, slice_index_or}
use Rattle.graph.specs.LastOf.{last_of}
use Rattle.graph.specs.declared.records.Link.{Link}
use Rattle.graph.specs.declared.records.Task.{Task}

-- the tasks and links of a graph; the one at place i has the number i + 1
pub record Net : Type 0 where
  pub tasks : List Task
  pub links : List Link

-- the graph of nothing
abbrev pub empty : Net
empty = record { tasks = []; links = [] }

-- what a list is read as past its end
abbrev pub no_task : Task
no_task = record { time = 0; newest = 0 }

abbrev pub no_link : Link
no_link = record { sender = 0; receiver = 0; size = 0; next = 0 }

-- the number of the newest link of sender s, or 0
abbrev pub newest_of : List Link → ℕ → ℕ
newest_of links s = last_of (λ l. nat_eq l.sender s) links

-- whether a link goes from s to r
abbrev pub joins : ℕ → ℕ → Link → Bool
joins s r l = l.sender == s && l.receiver == r

-- the number of the link from s to r, or 0
abbrev pub linked : List Link → ℕ → ℕ → ℕ
linked links s r = last_of (joins s r) links

-- each link joins two of the n tasks
abbrev pub Joined : ℕ → List Link → Type 0
Joined n links = (i : ℕ) → i < length links → (1 ≤ (slice_index_or links i no_link).sender) × ((slice_index_or links i no_link).sender ≤ n) × (1 ≤ (slice_index_or links i no_link).receiver) × ((slice_index_or links i no_link).receiver ≤ n)

-- no task is linked to itself
abbrev pub Unlooped : List Link → Type 0
Unlooped links = (i : ℕ) → i < length links → (slice_index_or links i no_link).sender ≢ (slice_index_or links i no_link).receiver

-- each size is in range
abbrev pub Sized : List Link → Type 0
Sized links = (i : ℕ) → i < length links → (slice_index_or links i no_link).size ≤ 1000000

-- no pair is linked twice: no older link joins what a link joins
abbrev pub Single : List Link → Type 0
Single links = (i : ℕ) → i < length links → linked (take i links) (slice_index_or links i no_link).sender (slice_index_or links i no_link).receiver ≡ 0

-- each time is in range
abbrev pub Timed : List Task → Type 0
Timed tasks = (i : ℕ) → i < length tasks → (1 ≤ (slice_index_or tasks i no_task).time) × ((slice_index_or tasks i no_task).time ≤ 1000000)

-- each link names the newest older link of its sender
abbrev pub Threaded : List Link → Type 0
Threaded links = (i : ℕ) → i < length links → (slice_index_or links i no_link).next ≡ newest_of (take i links) (slice_index_or links i no_link).sender

-- each task names its newest link
abbrev pub Headed : List Task → List Link → Type 0
Headed tasks links = (i : ℕ) → i < length tasks → (slice_index_or tasks i no_task).newest ≡ newest_of links (i + 1)

-- what holds in every graph
pub record Sound (tasks : List Task) (links : List Link) : Type 0 where
  pub timed : Timed tasks
  pub joined : Joined (length tasks) links
  pub unlooped : Unlooped links
  pub sized : Sized links
  pub single : Single links
  pub threaded : Threaded links
  pub headed : Headed tasks links
