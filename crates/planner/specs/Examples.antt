-- Small graphs worked through by hand, as facts about what the calls mean.
use Rattle.std.specs.Prelude.{◌≡◌, ℕ, List, [], ◌∷◌, Ok, Err, slice_set}
use Rattle.graph.specs.declared.records.Link.{Link}
use Rattle.graph.specs.declared.records.Task.{Task}
use Rattle.graph.specs.declared.records.Refusal.TheVariants.{TimeOutOfRange, NoSuchTask, Circle}
use Rattle.graph.specs.Net.{Net}
use Rattle.planner.specs.declared.records.Stage.TheVariants.{Open, Closed}
use Rattle.planner.specs.State.{State, start}
use Rattle.words.specs.declared.refusal.ReadRefusal.TheVariants.{Refused}
use Rattle.words.specs.Words.{words_of}
use Rattle.planner.specs.Reading.{reading}
use Rattle.planner.specs.Calls.{Call, add_task, link, close, step, after}

abbrev task : ℕ → ℕ → Task
task time newest = record { time = time; newest = newest }

abbrev joint : ℕ → ℕ → ℕ → ℕ → Link
joint sender receiver size next = record { sender = sender; receiver = receiver; size = size; next = next }

-- four tasks, the first of which sends to the second and third, and both of these to the last
abbrev pub diamond_calls : List Call
diamond_calls = add_task 4 ∷ add_task 3 ∷ add_task 5 ∷ add_task 2 ∷ link 1 2 1 ∷ link 1 3 2 ∷ link 2 4 1 ∷ link 3 4 1 ∷ []

abbrev pub diamond_net : Net
diamond_net = record {
  tasks = task 4 2 ∷ task 3 3 ∷ task 5 4 ∷ task 2 0 ∷ [];
  links = joint 1 2 1 0 ∷ joint 1 3 2 1 ∷ joint 2 4 1 0 ∷ joint 3 4 1 0 ∷ [];
}

abbrev pub diamond : State
diamond = record { net = diamond_net; stage = Open; blocks = [] }

abbrev pub closed_diamond : State
closed_diamond = record { net = diamond_net; stage = Closed; blocks = 1 ∷ 2 ∷ 3 ∷ 4 ∷ [] }

-- two tasks that send to each other
abbrev pub circle_calls : List Call
circle_calls = add_task 1 ∷ add_task 1 ∷ link 1 2 1 ∷ link 2 1 1 ∷ []

-- the words of the first
abbrev pub diamond_words : List ℕ
diamond_words = 1 ∷ 4 ∷ 4 ∷ 4 ∷ 2 ∷ 3 ∷ 3 ∷ 5 ∷ 4 ∷ 2 ∷ 0 ∷ 2 ∷ 1 ∷ 0 ∷ 3 ∷ 2 ∷ 1 ∷ 4 ∷ 1 ∷ 0 ∷ 4 ∷ 1 ∷ 0 ∷ []

pub record WorkedGraphsStand : Type 0 where
  pub built : after start diamond_calls ≡ diamond
  pub closes : step diamond close ≡ (closed_diamond, Ok 4)
  pub turns : step (after start circle_calls) close ≡ (after start circle_calls, Err (Circle 1))
  pub long : step start (add_task 1000001) ≡ (start, Err TimeOutOfRange)
  pub longest : (step start (add_task 1000000)).1 ≡ Ok 1
  pub written : words_of diamond_net ≡ diamond_words
  pub read : reading start diamond_words ≡ (diamond, Ok 4)
  pub damaged : reading start (slice_set diamond_words 11 9) ≡ (start, Err (Refused 11 (NoSuchTask 9)))
