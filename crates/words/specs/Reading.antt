-- What a list of words says, when it is refused, and the graph that it stands for.
use Rattle.std.specs.Prelude.{ℕ, zero, suc, ◌+◌, ◌-◌, ◌*◌, Bool, cond, not, List, [], ◌∷◌, length, Some, None, Ok, Err, Option, Result, ◌==◌, nat_eq, nat_le, nat_lt, slice_index}
use Rattle.graph.specs.declared.records.Refusal.{Refusal}
use Rattle.graph.specs.declared.records.Refusal.TheVariants.{WrongStage, TimeOutOfRange, TooManyTasks, NoSuchTask, SelfLink, SizeTooLarge, AlreadyLinked, TooManyLinks, NoTask, Circle, OutputTooShort}
use Rattle.graph.specs.Net.{Net, empty}
use Rattle.graph.specs.Calls.{first_of, settle, is_time, link_rows, with_task, with_link}
use Rattle.graph.specs.Tables.{count_below}
use Rattle.graph.specs.Walks.{least}
use Rattle.words.specs.declared.refusal.ReadRefusal.{ReadRefusal}
use Rattle.words.specs.declared.refusal.ReadRefusal.TheVariants.{TooFewWords, WrongEdition, CountTooLarge, WrongLength, WrongPointer, NotNamedOnce, Refused}
use Rattle.words.specs.Words.{word_count}

-- the word at a place, from 0
abbrev pub word : List ℕ → ℕ → ℕ
word ws k = slice_index ws k

-- how many tasks and how many links there are
abbrev pub task_count : List ℕ → ℕ
task_count ws = word ws 1

abbrev pub link_count : List ℕ → ℕ
link_count ws = word ws 2

-- the places of the words of task t and of link l, which count from 1
abbrev pub time_place : ℕ → ℕ
time_place t = 2 * t + 1

abbrev pub newest_place : ℕ → ℕ
newest_place t = 2 * t + 2

abbrev pub receiver_place : List ℕ → ℕ → ℕ
receiver_place ws l = 2 * task_count ws + 3 * l

abbrev pub size_place : List ℕ → ℕ → ℕ
size_place ws l = 2 * task_count ws + 3 * l + 1

abbrev pub next_place : List ℕ → ℕ → ℕ
next_place ws l = 2 * task_count ws + 3 * l + 2

-- the form: enough words, edition 1, counts within the limits, and just as many words as these counts ask for
abbrev pub form_rows : List ℕ → List (Bool × ReadRefusal)
form_rows ws =
    (nat_lt (length ws) 3, TooFewWords (length ws))
    ∷ (not (word ws 0 == 1), WrongEdition)
    ∷ (nat_lt 256 (task_count ws), CountTooLarge 1)
    ∷ (nat_lt 1024 (link_count ws), CountTooLarge 2)
    ∷ (not (length ws == word_count (task_count ws) (link_count ws)), WrongLength (length ws)) ∷ []

-- a newest link that is not there, and a next link that is not older
abbrev pub newest_missing : List ℕ → ℕ → Bool
newest_missing ws t = nat_lt (link_count ws) (word ws (newest_place t))

abbrev pub next_not_older : List ℕ → ℕ → Bool
next_not_older ws l = nat_le l (word ws (next_place ws l))

-- how often link l is named, by tasks as their newest and by links as their next
abbrev pub times_named : List ℕ → ℕ → ℕ
times_named ws l =
    count_below (λ i. nat_eq (word ws (newest_place (i + 1))) l) (task_count ws)
    + count_below (λ j. nat_eq (word ws (next_place ws (j + 1))) l) (link_count ws)

abbrev pub not_named_once : List ℕ → ℕ → Bool
not_named_once ws l = not (times_named ws l == 1)

abbrev pub time_refused : List ℕ → ℕ → Bool
time_refused ws t = not (is_time (word ws (time_place t)))

-- the first task or link, by number, at which a test holds, and the refusal that it makes
abbrev pub at_first : (ℕ → Bool) → ℕ → (ℕ → ReadRefusal) → Bool × ReadRefusal
at_first test count refusal = (not (least test count == 0), refusal (least test count))

-- the lists of links: every pointer to an older link, every link named once, and then the times
abbrev pub list_rows : List ℕ → List (Bool × ReadRefusal)
list_rows ws =
    at_first (newest_missing ws) (task_count ws) (λ t. WrongPointer (newest_place t))
    ∷ at_first (next_not_older ws) (link_count ws) (λ l. WrongPointer (next_place ws l))
    ∷ at_first (not_named_once ws) (link_count ws) (λ l. NotNamedOnce (receiver_place ws l))
    ∷ at_first (time_refused ws) (task_count ws) (λ t. Refused (time_place t) TimeOutOfRange) ∷ []

-- the greatest of the numbers 1 to n that passes a test, or 0
abbrev pub latest : (ℕ → Bool) → ℕ → ℕ
latest p zero = 0
latest p (suc n) = cond (p (suc n)) (suc n) (latest p n)

-- the task that names link l as its newest, and the link that names it as its next; 0 where there is none
abbrev pub naming_task : List ℕ → ℕ → ℕ
naming_task ws l = latest (λ t. nat_eq (word ws (newest_place t)) l) (task_count ws)

abbrev pub naming_link : List ℕ → ℕ → ℕ
naming_link ws l = latest (λ k. nat_eq (word ws (next_place ws k)) l) (link_count ws)

-- the task whose list link l stands in, found by going back from link to link, `most` times at the most
abbrev pub owner : List ℕ → ℕ → ℕ → ℕ
owner ws zero l = 0
owner ws (suc most) l = cond (naming_task ws l == 0) (owner ws most (naming_link ws l)) (naming_task ws l)

abbrev pub sender_of : List ℕ → ℕ → ℕ
sender_of ws l = owner ws (link_count ws) l

-- the graph after adding the first t tasks, and after then linking the first l links, in number order
abbrev pub with_tasks : List ℕ → ℕ → Net
with_tasks ws zero = empty
with_tasks ws (suc t) = with_task (with_tasks ws t) (word ws (time_place (suc t)))

abbrev pub with_links : List ℕ → ℕ → Net
with_links ws zero = with_tasks ws (task_count ws)
with_links ws (suc l) = with_link (with_links ws l) (sender_of ws (suc l)) (word ws (receiver_place ws (suc l))) (word ws (size_place ws (suc l)))

-- the graph that the words stand for
abbrev pub graph_read : List ℕ → Net
graph_read ws = with_links ws (link_count ws)

-- why linking link l after those before it is refused
abbrev pub link_refusal : List ℕ → ℕ → Option Refusal
link_refusal ws l = first_of (link_rows (with_links ws (l - 1)) (sender_of ws l) (word ws (receiver_place ws l)) (word ws (size_place ws l)))

-- the word at fault where linking is refused: the size, or else the receiver
abbrev pub fault_place : List ℕ → ℕ → Refusal → ℕ
fault_place ws l SizeTooLarge = size_place ws l
fault_place ws l WrongStage = receiver_place ws l
fault_place ws l TimeOutOfRange = receiver_place ws l
fault_place ws l TooManyTasks = receiver_place ws l
fault_place ws l (NoSuchTask t) = receiver_place ws l
fault_place ws l (SelfLink t) = receiver_place ws l
fault_place ws l (AlreadyLinked k) = receiver_place ws l
fault_place ws l TooManyLinks = receiver_place ws l
fault_place ws l NoTask = receiver_place ws l
fault_place ws l (Circle t) = receiver_place ws l
fault_place ws l (OutputTooShort n) = receiver_place ws l

-- the first of two that is a refusal
abbrev pub or_else : {R : Type 0} → Option R → Option R → Option R
or_else None other = other
or_else (Some why) other = Some why

abbrev pub at_link : List ℕ → ℕ → Option Refusal → Option ReadRefusal
at_link ws l None = None
at_link ws l (Some why) = Some (Refused (fault_place ws l why) why)

-- the first of the links 1 to l that is refused
abbrev pub first_refused : List ℕ → ℕ → Option ReadRefusal
first_refused ws zero = None
first_refused ws (suc l) = or_else (first_refused ws l) (at_link ws (suc l) (link_refusal ws (suc l)))

-- why a list of words is refused
abbrev pub read_refusal : List ℕ → Option ReadRefusal
read_refusal ws = or_else (first_of (form_rows ws)) (or_else (first_of (list_rows ws)) (first_refused ws (link_count ws)))

-- a test answers nothing, or the refusal
abbrev pub verdict : {R : Type 0} → Option R → Result (Unit {0}) R
verdict None = Ok tt
verdict (Some why) = Err why

-- reading leaves the graph that the words stand for and answers the number of tasks; a refusal leaves all as it was
abbrev pub read_step : Net → List ℕ → Net × Result ℕ ReadRefusal
read_step net ws = settle net (read_refusal ws) (graph_read ws, task_count ws)
