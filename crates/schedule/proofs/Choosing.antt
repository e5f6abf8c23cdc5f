-- The earliest start, which blocks are fed, what is best and the rows, one more at a time.
use Rattle.std.proofs.Common.{◌≡◌, ℕ, zero, suc, ◌+◌, ◌-◌, ◌^◌, ◌<◌, ◌≤◌, Bool, true, false, cond, not, ◌&&◌, ◌||◌, eqb, ltb, List, [], ◌∷◌, ◌++◌, length, get_or, take, drop, Option, Some, None, inl, inr, sym, refl, ap, ◌∙◌, subst, ap₂, arith}
use Rattle.std.proofs.lemmas.List.{take_more, at_drop_more, at_drop_all}
use Rattle.chains.specs.Lists.{In}
use Rattle.chains.specs.declared.message.Message.{Message}
use Rattle.machine.specs.Model.{Model}
use Rattle.schedule.specs.declared.board.Board.{Board}
use Rattle.schedule.specs.declared.rows.Row.{Row}
use Rattle.schedule.specs.declared.problem.Problem.{Problem as Lent}
use Rattle.schedule.specs.Orders.{Order}
use Rattle.schedule.specs.Problems.{Problem}
use Rattle.schedule.specs.Seen.{seen, earlier_in, stepped}
use Rattle.schedule.specs.Placing.{is_placed, is_fed, is_candidate, start_on, earliest_upto, earliest, row_of, comes_before, first_of_two, first_among, chosen, with_row, placed}
use Rattle.schedule.specs.Boards.{laid, count, limit, Fitting}
use Rattle.schedule.proofs.Boarding.{Shows}

-- one processor more
pub earliest_more : (M : Model) (g : Problem) (rows : List Row) (b p : ℕ) → 1 ≤ p → (best : ℕ × ℕ) → best ≡ earliest_upto M g rows b (p - 1) → (s : ℕ) → s ≡ start_on M g rows b p
    → (r : ℕ × ℕ) → r ≡ cond (ltb s best.0) (s, p) best → r ≡ earliest_upto M g rows b ((p + 1) - 1)
earliest_more M g rows b p l best eb s es r er =
    let q = p - 1 in
    let up : (p + 1) - 1 ≡ suc q = omega (arith, l) in
    let is : suc q ≡ p = omega (arith, l) in
    let old = earliest_upto M g rows b q in
    let Q : ℕ → Type 0 = λ w. earliest_upto M g rows b (suc q) ≡ cond (ltb (start_on M g rows b w) old.0) (start_on M g rows b w, w) old in
    let here : Q p = subst Q is refl in
    er ∙ ap₂ (λ (t : ℕ) (o : ℕ × ℕ). cond (ltb t o.0) (t, p) o) es eb ∙ sym here ∙ ap (earliest_upto M g rows b) (sym up)

-- the earliest start is the start on its processor, which is one of those
pub earliest_is : (M : Model) (g : Problem) (rows : List Row) (b n : ℕ) → ((earliest_upto M g rows b n).1 ≤ n) × ((earliest_upto M g rows b n).0 ≡ start_on M g rows b (earliest_upto M g rows b n).1)
earliest_is M g rows b zero = (omega arith, refl)
earliest_is M g rows b (suc n) =
    let again = earliest_is M g rows b n in
    let old = earliest_upto M g rows b n in
    let s = start_on M g rows b (suc n) in
    let P : ℕ × ℕ → Type 0 = λ x. (x.1 ≤ suc n) × (x.0 ≡ start_on M g rows b x.1) in
    elim (ltb s old.0) as (λ v. P (cond v (s, suc n) old)) [ true ↦ (omega arith, refl) | false ↦ (omega (arith, again.0), again.1) ]

-- a start on a processor that exists is soon
pub start_soon : (M : Model) (g : Problem) (board : Board) → Shows M g board → (b p : ℕ) → b ≤ 256 → p < M.processors → start_on M g (laid board) b p ≤ limit (count board) + 1000000000
start_soon M g board s b p lb lp = omega (arith, s.frees p lp, s.arrived b p lb lp, s.free_soon p lp, s.arrive_soon b p lb lp)

pub earliest_known : (M : Model) (g : Problem) (board : Board) → Shows M g board → 1 ≤ M.processors → (b : ℕ) → b ≤ 256
    → ((earliest M g (laid board) b).0 ≤ limit (count board) + 1000000000) × ((earliest M g (laid board) b).1 < M.processors)
earliest_known M g board s some b lb =
    let e = earliest_is M g (laid board) b (M.processors - 1) in
    let lt : (earliest M g (laid board) b).1 < M.processors = omega (arith, e.0, some) in
    (omega (arith, e.1, start_soon M g board s b (earliest M g (laid board) b).1 lb lt), lt)

fed_push : (ms : List Message) (m : Message) (rows : List Row) (b : ℕ) → is_fed (ms ++ m ∷ []) rows b ≡ ((not (eqb m.to b) || is_placed rows m.from) && is_fed ms rows b)
fed_push [] m rows b = refl
fed_push (x ∷ ms) m rows b =
    let again = fed_push ms m rows b in
    let t = not (eqb m.to b) || is_placed rows m.from in
    let h = not (eqb x.to b) || is_placed rows x.from in
    ap (λ v. h && v) again ∙ elim h as (λ v. (v && (t && is_fed ms rows b)) ≡ (t && (v && is_fed ms rows b))) [ true ↦ refl | false ↦ elim t as (λ w. false ≡ (w && false)) [ true ↦ refl | false ↦ refl ] ]

-- one message more
pub fed_more : (ms : List Message) (rows : List Row) (b i : ℕ) (d : Message) → i < length ms → (here there after : Bool) → here ≡ is_placed rows (get_or ms i d).from → there ≡ is_fed (take i ms) rows b
    → after ≡ ((not (eqb (get_or ms i d).to b) || here) && there) → after ≡ is_fed (take (i + 1) ms) rows b
fed_more ms rows b i d lt here there after eh et ea =
    ea ∙ ap₂ (λ (x y : Bool). (not (eqb (get_or ms i d).to b) || x) && y) eh et
    ∙ sym (ap (λ (xs : List Message). is_fed xs rows b) (take_more ms i d lt) ∙ fed_push (take i ms) (get_or ms i d) rows b)

-- one block more: what is best of the blocks still to come is best of all
pub among_more : (M : Model) (g : Problem) (earlier : ℕ → ℕ → Bool) (rows : List Row) (bs : List ℕ) (i : ℕ) → i < length bs → (best next whole : Option Row)
    → next ≡ cond (is_candidate g rows (get_or bs i 0)) (first_of_two earlier best (row_of M g rows (get_or bs i 0))) best
    → first_among M g earlier rows best (drop i bs) ≡ whole → first_among M g earlier rows next (drop (i + 1) bs) ≡ whole
among_more M g earlier rows bs i lt best next whole en e =
    ap (λ (o : Option Row). first_among M g earlier rows o (drop (i + 1) bs)) en
    ∙ sym (at_drop_more (λ (rest : List ℕ). first_among M g earlier rows best rest) bs i 0 lt) ∙ e

pub among_all : (M : Model) (g : Problem) (earlier : ℕ → ℕ → Bool) (rows : List Row) (bs : List ℕ) (i : ℕ) → length bs ≤ i → (best whole : Option Row)
    → first_among M g earlier rows best (drop i bs) ≡ whole → best ≡ whole
among_all M g earlier rows bs i le best whole e = sym (at_drop_all (λ (rest : List ℕ). first_among M g earlier rows best rest) bs i le) ∙ e

-- one step more
pub placed_more : (M : Model) (g : Problem) (earlier : ℕ → ℕ → Bool) (k : ℕ) (rows next : List Row) → rows ≡ placed M g earlier k → next ≡ with_row rows (chosen M g earlier rows)
    → next ≡ placed M g earlier (k + 1)
placed_more M g earlier k rows next e en =
    let up : suc k ≡ k + 1 = omega arith in
    en ∙ ap (λ (rs : List Row). with_row rs (chosen M g earlier rs)) e ∙ ap (placed M g earlier) up

-- the same of a lent problem, by what is the same
pub stepped_more : (M M' : Model) (p p' : Lent) (o o' : Order) (k : ℕ) (rows next : List Row) → M' ≡ M → p' ≡ p → o' ≡ o → rows ≡ placed M (seen p) (earlier_in o p) k
    → next ≡ stepped M' p' o' rows → next ≡ placed M (seen p) (earlier_in o p) (k + 1)
stepped_more M M' p p' o o' k rows next eM ep eo e en =
    placed_more M (seen p) (earlier_in o p) k rows next e
    (en ∙ ap (λ (m : Model). stepped m p' o' rows) eM ∙ ap (λ (q : Lent). stepped M q o' rows) ep ∙ ap (λ (q : Order). stepped M p q rows) eo)

-- the row of a block of the problem can come next
row_fits : (M : Model) (g : Problem) (board : Board) → Shows M g board → 1 ≤ M.processors → (b : ℕ) → b ≤ 256 → g.time b < 2 ^ 40
    → Fitting M.processors (count board) (Some (row_of M g (laid board) b))
row_fits M g board s some b lb lt =
    let e = earliest_known M g board s some b lb in
    (lb, e.1, omega (arith, e.0, lt))

first_fits : (P n : ℕ) (earlier : ℕ → ℕ → Bool) (best : Option Row) (r : Row) → Fitting P n best → Fitting P n (Some r) → Fitting P n (first_of_two earlier best r)
first_fits P n earlier None r h k = k
first_fits P n earlier (Some x) r h k =
    elim (comes_before earlier r x) as (λ v. Fitting P n (cond v (Some r) (Some x))) [ true ↦ k | false ↦ h ]

among_fits : (M : Model) (g : Problem) (earlier : ℕ → ℕ → Bool) (rows : List Row) (n : ℕ) (bs : List ℕ) → ((b : ℕ) → In b bs → Fitting M.processors n (Some (row_of M g rows b)))
    → (best : Option Row) → Fitting M.processors n best → Fitting M.processors n (first_among M g earlier rows best bs)
among_fits M g earlier rows n [] h best k = k
among_fits M g earlier rows n (b ∷ bs) h best k =
    let next : Fitting M.processors n (cond (is_candidate g rows b) (first_of_two earlier best (row_of M g rows b)) best) =
    elim (is_candidate g rows b) as (λ v. Fitting M.processors n (cond v (first_of_two earlier best (row_of M g rows b)) best))
    [ true ↦ first_fits M.processors n earlier best (row_of M g rows b) k (h b (inl refl)) | false ↦ k ] in
    among_fits M g earlier rows n bs (λ x i. h x (inr i)) (cond (is_candidate g rows b) (first_of_two earlier best (row_of M g rows b)) best) next

-- the row that comes next, where there is one, can come next
pub chosen_fits : (M : Model) (g : Problem) (earlier : ℕ → ℕ → Bool) (board : Board) → Shows M g board → 1 ≤ M.processors → ((b : ℕ) → In b g.blocks → (b ≤ 256) × (g.time b < 2 ^ 40))
    → Fitting M.processors (count board) (chosen M g earlier (laid board))
chosen_fits M g earlier board s some h =
    among_fits M g earlier (laid board) (count board) g.blocks (λ b i. row_fits M g board s some b (h b i).0 (h b i).1) None tt
