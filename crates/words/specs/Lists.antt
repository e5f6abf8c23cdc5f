-- What is known of words whose lists of links were tested.
use Rattle.std.specs.Prelude.{◌≡◌, ℕ, ◌+◌, ◌*◌, ◌<◌, ◌≤◌, true, List, None, Option, map, slice_index, slice_index_or}
use Rattle.graph.specs.declared.records.Link.{Link}
use Rattle.graph.specs.Net.{linked}
use Rattle.graph.specs.Calls.{is_time}
use Rattle.graph.specs.Walks.{some_number}
use Rattle.words.specs.Reading.{word, task_count, link_count, time_place, newest_place, next_place, times_named, sender_of}

-- every pointer leads to a link that is there and older, and every link is named once
pub record Named (ws : List ℕ) : Type 0 where
  pub there : (t : ℕ) → 1 ≤ t → t ≤ task_count ws → word ws (newest_place t) ≤ link_count ws
  pub older : (l : ℕ) → 1 ≤ l → l ≤ link_count ws → word ws (next_place ws l) < l
  pub once : (l : ℕ) → 1 ≤ l → l ≤ link_count ws → times_named ws l ≡ 1

-- every time is in range
abbrev pub Timely : List ℕ → Type 0
Timely ws = (t : ℕ) → 1 ≤ t → t ≤ task_count ws → is_time (word ws (time_place t)) ≡ true

-- a table of the senders
abbrev pub Sends : List ℕ → List ℕ → Type 0
Sends ws senders = (l : ℕ) → 1 ≤ l → l ≤ link_count ws → slice_index senders l ≡ sender_of ws l

-- the senders are tasks
abbrev pub Known : List ℕ → Type 0
Known ws = (l : ℕ) → 1 ≤ l → l ≤ link_count ws → (1 ≤ sender_of ws l) × (sender_of ws l ≤ task_count ws)

-- each call at a number from 1 to n may be made
abbrev pub Takes : (ℕ → Type 0) → ℕ → Type 0
Takes pre n = (k : ℕ) → 1 ≤ k → k ≤ n → pre k

-- each call at a number from 1 to n answers what f says
abbrev pub Tells : {A : Type 0} → (ℕ → A → Type 0) → ℕ → (ℕ → A) → Type 0
Tells {A} post n f = (k : ℕ) (x : A) → 1 ≤ k → k ≤ n → post k x → x ≡ f k

-- the entries of a table of numbers, in which 0 is none
abbrev pub entries : List ℕ → List (Option ℕ)
entries numbers = map some_number numbers

-- a table of 256 rows: at row a and column b the link from task a + 1 to task b + 1, if there is one
abbrev pub Pairs : List (Option ℕ) → List Link → Type 0
Pairs table links = (a b : ℕ) → a < 256 → b < 256 → slice_index_or table (a * 256 + b) None ≡ some_number (linked links (a + 1) (b + 1))
