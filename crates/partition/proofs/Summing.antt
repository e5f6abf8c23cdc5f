-- Tables of sums, entry by entry.
use Rattle.std.proofs.Common.{◌≡◌, ℕ, zero, suc, ◌+◌, ◌-◌, ◌*◌, ◌^◌, ◌<◌, ◌≤◌, Bool, true, false, cond, eqb, ◌⊎◌, List, [], ◌∷◌, ◌++◌, length, get_or, take, set, sym, refl, ap, ap₂, ◌∙◌, subst, inl, inr, ⊎_elim, arith}
use Rattle.std.proofs.lemmas.List.{take_more, length-set, get_or-set_same, get_or-set_other}
use Rattle.std.proofs.lemmas.Bool.{cases_eq, eq-eqb, ne_eqb, cond-true, cond-false}
use Rattle.chains.specs.declared.message.Message.{Message}
use Rattle.chains.specs.Lists.{In, total}
use Rattle.chains.proofs.Lists.{in_getD, in_index}
use Rattle.machine.specs.Model.{Model, Lawful}
use Rattle.graph.specs.declared.records.Task.{Task}
use Rattle.graph.specs.Net.{no_task, Timed}
use Rattle.partition.specs.Views.{Least}
use Rattle.partition.specs.Times.{own_time, handling, overhead, block_time, AtEach, Handled, Room}

-- an entry after x is added at place k
pub added : (table : List ℕ) (k x b : ℕ) → k < length table → get_or (set table k (get_or table k 0 + x)) b 0 ≡ get_or table b 0 + cond (eqb k b) x 0
added table k x b lt =
    ⊎_elim
    (λ (e : k ≡ b). subst (λ w. get_or (set table k (get_or table k 0 + x)) w 0 ≡ get_or table w 0 + cond (eqb k w) x 0) e
    (get_or-set_same table k (get_or table k 0 + x) 0 lt ∙ ap (λ y. get_or table k 0 + y) (sym (cond-true (eqb k k) x 0 (eq-eqb k k refl)))))
    (λ (ne : k ≡ b → ⊥). get_or-set_other table k b (get_or table k 0 + x) 0 (λ e. ne (sym e))
    ∙ (let z : cond (eqb k b) x 0 ≡ 0 = cond-false (eqb k b) x 0 (ne_eqb k b ne) in omega (arith, z)))
    (cases_eq k b)

pub total_append : {X : Type 0} (f : X → ℕ) (xs ys : List X) → total f (xs ++ ys) ≡ total f xs + total f ys
total_append f [] ys = omega arith
total_append f (x ∷ xs) ys = omega (arith, total_append f xs ys)

-- a sum with the next of a list
pub total_more : {X : Type 0} (f : X → ℕ) (xs : List X) (i : ℕ) (d : X) → i < length xs → total f (take (i + 1) xs) ≡ total f (take i xs) + f (get_or xs i d)
total_more f xs i d lt =
    ap (total f) (take_more xs i d lt) ∙ total_append f (take i xs) (get_or xs i d ∷ []) ∙ omega arith

cond_le : (t : Bool) (x k : ℕ) → x ≤ k → cond t x 0 ≤ k
cond_le true x k l = l
cond_le false x k l = omega arith

-- what a message costs a block is within the laws
pub handling_le : (m : Model) (b : ℕ) (x : Message) → Lawful m → x.size ≤ 1000000 → handling m b x ≤ 200000000
handling_le m b x law s =
    omega (arith, cond_le (eqb x.to b) (m.reading x.size) 100000000 (law.reads x.size s), cond_le (eqb x.from b) (m.writing x.size) 100000000 (law.writes x.size s))

-- and so is what the first of them cost
pub handlings_le : (m : Model) (b : ℕ) (ms : List Message) (i : ℕ) → Lawful m → Handled ms → total (handling m b) (take i ms) ≤ length ms * 200000000
handlings_le m b [] zero law h = omega arith
handlings_le m b [] (suc i) law h = omega arith
handlings_le m b (x ∷ ms) zero law h = omega arith
handlings_le m b (x ∷ ms) (suc i) law h =
    omega (arith, handling_le m b x law (h x (inl refl)).2, handlings_le m b ms i law (λ y j. h y (inr j)))

-- the overheads with the first i messages
pub record Over (m : Model) (ms : List Message) (table : List ℕ) (i : ℕ) : Type 0 where
  pub long : length table ≡ 257
  pub holds : (b : ℕ) → b ≤ 256 → get_or table b 0 ≡ m.startup + total (handling m b) (take i ms)

-- one message more
module _ (m : Model) (law : Lawful m) (ms : List Message) (few : length ms ≤ 1024) (h : Handled ms) (table : List ℕ) (i : ℕ) (o : Over m ms table i) where
  over_le : (b : ℕ) → b ≤ 256 → get_or table b 0 ≤ 100000 + 1024 * 200000000
  over_le b lb = omega (arith, o.holds b lb, handlings_le m b ms i law h, law.prompt, few)

  pub over_room : Room table
  over_room b lb = omega (arith, over_le b lb)

  pub over_fits : (b x : ℕ) → b ≤ 256 → x ≤ 100000000 → get_or table b 0 + x < 2 ^ 64
  over_fits b x lb lx = omega (arith, over_le b lb, lx)

  module _ (lt : i < length ms) (x : Message) (is : x ≡ get_or ms i (record { from = 0; to = 0; size = 0 })) (read written : ℕ) (er : read ≡ m.reading x.size) (ew : written ≡ m.writing x.size)
      (t1 t2 : List ℕ) (e1 : t1 ≡ set table x.to (get_or table x.to 0 + read)) (e2 : t2 ≡ set t1 x.from (get_or t1 x.from 0 + written)) where
    good : (x.from ≤ 256) × (x.to ≤ 256) × (x.size ≤ 1000000)
    good = h x (subst (λ (y : Message). In y ms) (sym is) (in_getD ms i (record { from = 0; to = 0; size = 0 }) lt))

    long1 : length t1 ≡ 257
    long1 = ap (λ (t : List ℕ). length t) e1 ∙ length-set table x.to (get_or table x.to 0 + read) ∙ o.long

    first : (b : ℕ) → get_or t1 b 0 ≡ get_or table b 0 + cond (eqb x.to b) read 0
    first b = ap (λ (t : List ℕ). get_or t b 0) e1 ∙ added table x.to read b (omega (arith, good.1, o.long))

    second : (b : ℕ) → get_or t2 b 0 ≡ get_or t1 b 0 + cond (eqb x.from b) written 0
    second b = ap (λ (t : List ℕ). get_or t b 0) e2 ∙ added t1 x.from written b (omega (arith, good.0, long1))

    pub over_fits_too : get_or t1 x.from 0 + written < 2 ^ 64
    over_fits_too =
        omega (arith, first x.from, over_le x.from good.0, cond_le (eqb x.to x.from) read 100000000 (omega (arith, er, law.reads x.size good.2)), ew, law.writes x.size good.2)

    pub over_more : Over m ms t2 (i + 1)
    over_more = record {
      long = ap (λ (t : List ℕ). length t) e2 ∙ length-set t1 x.from (get_or t1 x.from 0 + written) ∙ long1;
      holds = λ b lb.
          let t = total_more (handling m b) ms i (record { from = 0; to = 0; size = 0 }) lt in
          let s = ap (handling m b) (sym is) in
          let a = ap (λ r. cond (eqb x.to b) r 0) er in
          let w = ap (λ r. cond (eqb x.from b) r 0) ew in
          omega (arith, second b, first b, o.holds b lb, t, s, a, w);
    }

-- the table, to which the tasks that are left are still to be added
pub record Adding (start : List ℕ) (tasks : List Task) (blocks table : List ℕ) (ts : List Task) (bs : List ℕ) : Type 0 where
  pub long : length table ≡ 257
  pub low : (x : ℕ) → In x bs → x ≤ 256
  pub holds : (b : ℕ) → b ≤ 256 → get_or table b 0 + own_time ts bs b ≡ get_or start b 0 + own_time tasks blocks b

-- the blocks of at most 256 tasks are numbered up to 256
pub blocks_low : (n : ℕ) (blocks : List ℕ) → n ≤ 256 → length blocks ≡ n → Least n blocks → (x : ℕ) → In x blocks → x ≤ 256
blocks_low n blocks few all least x i =
    let k = in_index x blocks 0 i in
    let one : (k.0 + 1) - 1 ≡ k.0 = omega arith in
    let l = (least (k.0 + 1) (omega arith) (omega (arith, k.1, all))).1 in
    omega (arith, ap (λ j. get_or blocks j 0) one, l, k.1, k.2, all, few)

pub own_le : (tasks : List Task) (blocks : List ℕ) (b : ℕ) → Timed tasks → own_time tasks blocks b ≤ length tasks * 1000000
own_le [] blocks b timed = omega arith
own_le (t ∷ tasks) [] b timed = omega arith
own_le (t ∷ tasks) (x ∷ blocks) b timed =
    omega (arith, cond_le (eqb x b) t.time 1000000 (timed 0 (omega arith)).1, own_le tasks blocks b (λ k lt. timed (suc k) (omega (arith, lt))))

-- one task more
module _ (start : List ℕ) (room : Room start) (tasks : List Task) (few : length tasks ≤ 256) (blocks : List ℕ) (timed : Timed tasks) (table : List ℕ) (ts us : List Task) (xs bs : List ℕ)
    (a : Adding start tasks blocks table ts xs) (t : Task) (x time : ℕ) (et : ts ≡ t ∷ us) (ex : xs ≡ x ∷ bs) (is : time ≡ t.time) where
  pub task_known : x ≤ 256
  task_known = a.low x (subst (λ (ys : List ℕ). In x ys) (sym ex) (inl refl))

  next : (b : ℕ) → own_time ts xs b ≡ cond (eqb x b) time 0 + own_time us bs b
  next b = ap₂ (λ (vs : List Task) (ys : List ℕ). own_time vs ys b) et ex ∙ ap (λ k. cond (eqb x b) k 0 + own_time us bs b) (sym is)

  pub task_fits : get_or table x 0 + time < 2 ^ 64
  task_fits = omega (arith, a.holds x task_known, next x, cond-true (eqb x x) time 0 (eq-eqb x x refl), room x task_known, own_le tasks blocks x timed, few)

  pub task_more : (now : List ℕ) → now ≡ set table x (get_or table x 0 + time) → Adding start tasks blocks now us bs
  task_more now now_is = record {
    long = ap (λ (r : List ℕ). length r) now_is ∙ length-set table x (get_or table x 0 + time) ∙ a.long;
    low = λ y i. a.low y (subst (λ (ys : List ℕ). In y ys) (sym ex) (inr i));
    holds = λ b lb. omega (arith, ap (λ (r : List ℕ). get_or r b 0) now_is, added table x time b (omega (arith, task_known, a.long)), next b, a.holds b lb);
  }

own_done : (ts : List Task) (bs : List ℕ) (b : ℕ) → (length ts ≡ 0) ⊎ (length bs ≡ 0) → own_time ts bs b ≡ 0
own_done [] bs b none = refl
own_done (t ∷ ts) [] b none = refl
own_done (t ∷ ts) (x ∷ bs) b none = ⊎_elim (λ e. absurd (omega (arith, e))) (λ e. absurd (omega (arith, e))) none

pub task_last : (start : List ℕ) (tasks : List Task) (blocks table : List ℕ) (ts : List Task) (bs : List ℕ) → Adding start tasks blocks table ts bs → (length ts ≡ 0) ⊎ (length bs ≡ 0)
    → AtEach (λ b. get_or start b 0 + own_time tasks blocks b) table
task_last start tasks blocks table ts bs a none = record { long = a.long; holds = λ b lb. omega (arith, a.holds b lb, own_done ts bs b none) }

totals_le : (m : Model) (b : ℕ) (ms : List Message) → Lawful m → Handled ms → total (handling m b) ms ≤ length ms * 200000000
totals_le m b [] law h = omega arith
totals_le m b (x ∷ ms) law h = omega (arith, handling_le m b x law (h x (inl refl)).2, totals_le m b ms law (λ y j. h y (inr j)))

-- an overhead is far below what a table can hold
pub overhead_le : (m : Model) → Lawful m → (ms : List Message) (b : ℕ) → length ms ≤ 1024 → Handled ms → overhead m ms b < 2 ^ 39
overhead_le m law ms b few h = omega (arith, totals_le m b ms law h, law.prompt, few)

-- and so is a block time
pub time_small : (m : Model) → Lawful m → (tasks : List Task) (blocks : List ℕ) (ms : List Message) (b : ℕ) → length ms ≤ 1024 → Handled ms → length tasks ≤ 256 → Timed tasks
    → block_time m tasks blocks ms b < 2 ^ 40
time_small m law tasks blocks ms b few h small timed =
    omega (arith, own_le tasks blocks b timed, overhead_le m law ms b few h, small)

-- a block takes at least what a task of it takes
pub own_ge : (tasks : List Task) (blocks : List ℕ) (i b : ℕ) → i < length tasks → i < length blocks → get_or blocks i 0 ≡ b → (get_or tasks i no_task).time ≤ own_time tasks blocks b
own_ge [] blocks i b l k e = absurd (omega (arith, l))
own_ge (t ∷ tasks) [] i b l k e = absurd (omega (arith, k))
own_ge (t ∷ tasks) (x ∷ blocks) zero b l k e = omega (arith, cond-true (eqb x b) t.time 0 (eq-eqb x b e))
own_ge (t ∷ tasks) (x ∷ blocks) (suc i) b l k e = omega (arith, own_ge tasks blocks i b (omega (arith, l)) (omega (arith, k)) e)
