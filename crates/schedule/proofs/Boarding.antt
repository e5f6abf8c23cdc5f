-- A board with one row more, and the board without rows.
use Rattle.std.proofs.Common.{◌≡◌, ℕ, ◌+◌, ◌<◌, ◌≤◌, max, Bool, true, false, cond, ◌||◌, eqb, List, [], ◌∷◌, ◌++◌, length, get_or, set, replicate, sym, refl, ap, ◌∙◌, subst, inl, inr, ⊎_elim, arith}
use Rattle.std.proofs.lemmas.List.{length-set, length-replicate, length_push, get_or-replicate, get_or-set_same, get_or-set_other}
use Rattle.std.proofs.lemmas.Bool.{cases_eq, eq-eqb, ne_eqb, cond-true, cond-false, or_right}
use Rattle.chains.specs.declared.message.Message.{Message}
use Rattle.chains.specs.Lists.{In, greatest}
use Rattle.chains.proofs.Lists.{all_same}
use Rattle.machine.specs.Model.{Model, Lawful}
use Rattle.schedule.specs.declared.board.Board.{Board}
use Rattle.schedule.specs.declared.rows.Row.{Row}
use Rattle.schedule.specs.Problems.{Problem, length_of}
use Rattle.schedule.specs.Placing.{is_placed, free, arrival, data_at}
use Rattle.schedule.specs.Boards.{laid, count, arrived_at, sent, limit, Marks, Frees, Arrivals, FreeSoon, ArriveSoon}
use Rattle.schedule.proofs.Latest.{greatest_push}

-- all that a board has at hand is so
pub record Shows (M : Model) (g : Problem) (board : Board) : Type 0 where
  pub few : count board ≤ 256
  pub wide : length board.placed ≡ 257
  pub all : length board.free ≡ 32
  pub marks : Marks board
  pub frees : Frees M board
  pub arrived : Arrivals M g board
  pub last : board.length ≡ length_of (laid board)
  pub free_soon : FreeSoon M board
  pub arrive_soon : ArriveSoon M board

-- a block has a row above, or it is the block of the last row
placed_push : (rows : List Row) (r : Row) (b : ℕ) → is_placed (rows ++ r ∷ []) b ≡ (is_placed rows b || eqb r.block b)
placed_push [] r b = elim (eqb r.block b) as (λ v. (v || false) ≡ (false || v)) [ true ↦ refl | false ↦ refl ]
placed_push (x ∷ rows) r b =
    let again = placed_push rows r b in
    elim (eqb x.block b) as (λ v. (v || is_placed (rows ++ r ∷ []) b) ≡ ((v || is_placed rows b) || eqb r.block b)) [ true ↦ refl | false ↦ again ]

arrival_push : (M : Model) (rows : List Row) (r : Row) (m : Message) (p : ℕ)
    → arrival M (rows ++ r ∷ []) m p ≡ max (arrival M rows m p) (cond (eqb r.block m.from) (r.finish + M.delay r.processor p m.size) 0)
arrival_push M rows r m p = greatest_push (λ (y : Row). cond (eqb y.block m.from) (y.finish + M.delay y.processor p m.size) 0) rows r

data_push : (M : Model) (ms : List Message) (rows : List Row) (r : Row) (b p : ℕ)
    → data_at M ms (rows ++ r ∷ []) b p ≡ max (data_at M ms rows b p) (greatest (sent M r b p) ms)
data_push M [] rows r b p = omega arith
data_push M (m ∷ ms) rows r b p =
    let again = data_push M ms rows r b p in
    let one = arrival_push M rows r m p in
    let x = arrival M (rows ++ r ∷ []) m p in
    let y = arrival M rows m p in
    let z = cond (eqb r.block m.from) (r.finish + M.delay r.processor p m.size) 0 in
    let here : cond (eqb m.to b) x 0 ≡ max (cond (eqb m.to b) y 0) (cond (eqb m.to b) z 0) =
    elim (eqb m.to b) as (λ v. cond v x 0 ≡ max (cond v y 0) (cond v z 0)) [ true ↦ one | false ↦ refl ] in
    omega (arith, here, again)

cond_le : (t : Bool) (x k : ℕ) → x ≤ k → cond t x 0 ≤ k
cond_le true x k l = l
cond_le false x k l = omega arith

sent_le : (M : Model) → Lawful M → (r : Row) (b p : ℕ) → r.processor < M.processors → p < M.processors → (ms : List Message) → ((m : Message) → In m ms → m.size ≤ 1000000)
    → greatest (sent M r b p) ms ≤ r.finish + 1000000000
sent_le M law r b p lr lp [] h = omega arith
sent_le M law r b p lr lp (m ∷ ms) h =
    let far = law.near r.processor p m.size lr lp (h m (inl refl)) in
    let k = r.finish + 1000000000 in
    let one : r.finish + M.delay r.processor p m.size ≤ k = omega (arith, far) in
    let two = cond_le (eqb m.to b) (cond (eqb r.block m.from) (r.finish + M.delay r.processor p m.size) 0) k (cond_le (eqb r.block m.from) (r.finish + M.delay r.processor p m.size) k one) in
    omega (arith, two, sent_le M law r b p lr lp ms (λ x i. h x (inr i)))

module _ (M : Model) (law : Lawful M) (g : Problem) (sized : (m : Message) → In m g.messages → m.size ≤ 1000000)
    (old new : Board) (r : Row) (s : Shows M g old)
    (room : count old < 256) (low : r.block ≤ 256) (known : r.processor < M.processors) (soon : r.finish ≤ limit (count old + 1))
    (er : laid new ≡ laid old ++ r ∷ []) (ep : new.placed ≡ set old.placed r.block true)
    (ef : new.free ≡ set old.free r.processor (max (get_or old.free r.processor 0) r.finish)) (el : new.length ≡ max old.length r.finish)
    (ea : (b p : ℕ) → b ≤ 256 → p < M.processors → arrived_at new.arrivals b p ≡ max (arrived_at old.arrivals b p) (greatest (sent M r b p) g.messages)) where
  one_more : count new ≡ count old + 1
  one_more = ap (λ (rs : List Row). length rs) er ∙ length_push (laid old) r

  mark : (b : ℕ) → b ≤ 256 → get_or new.placed b false ≡ is_placed (laid new) b
  mark b lb =
      ap (λ (t : List Bool). get_or t b false) ep
      ∙ ⊎_elim
      (λ (e : r.block ≡ b). subst (λ w. get_or (set old.placed r.block true) w false ≡ (is_placed (laid old) w || eqb r.block w)) e
      (get_or-set_same old.placed r.block true false (omega (arith, s.wide, low)) ∙ sym (or_right (is_placed (laid old) r.block) (eqb r.block r.block) (eq-eqb r.block r.block refl))))
      (λ (ne : r.block ≡ b → ⊥). get_or-set_other old.placed r.block b true false (λ e. ne (sym e)) ∙ s.marks b lb
      ∙ (let no : eqb r.block b ≡ false = ne_eqb r.block b ne in
      let P : Bool → Type 0 = λ v. is_placed (laid old) b ≡ (is_placed (laid old) b || v) in
      subst P (sym no) (elim (is_placed (laid old) b) as (λ v. v ≡ (v || false)) [ true ↦ refl | false ↦ refl ])))
      (cases_eq r.block b)
      ∙ sym (placed_push (laid old) r b) ∙ ap (λ (rs : List Row). is_placed rs b) (sym er)

  freed : (p : ℕ) → p < M.processors → get_or new.free p 0 ≡ max (get_or old.free p 0) (cond (eqb r.processor p) r.finish 0)
  freed p lp =
      ap (λ (t : List ℕ). get_or t p 0) ef
      ∙ ⊎_elim
      (λ (e : r.processor ≡ p).
      let x = max (get_or old.free r.processor 0) r.finish in
      let a : get_or (set old.free r.processor x) r.processor 0 ≡ x = get_or-set_same old.free r.processor x 0 (omega (arith, s.all, law.few, known)) in
      let P : ℕ → Type 0 = λ w. get_or (set old.free r.processor x) w 0 ≡ max (get_or old.free w 0) (cond (eqb r.processor w) r.finish 0) in
      let z = cond-true (eqb r.processor r.processor) r.finish 0 (eq-eqb r.processor r.processor refl) in
      subst P e (a ∙ ap (λ w. max (get_or old.free r.processor 0) w) (sym z)))
      (λ (ne : r.processor ≡ p → ⊥).
      let x = max (get_or old.free r.processor 0) r.finish in
      let z : cond (eqb r.processor p) r.finish 0 ≡ 0 = cond-false (eqb r.processor p) r.finish 0 (ne_eqb r.processor p ne) in
      get_or-set_other old.free r.processor p x 0 (λ e. ne (sym e)) ∙ omega (arith, z))
      (cases_eq r.processor p)

  pub shows_more : Shows M g new
  shows_more = record {
    few = omega (arith, one_more, room);
    wide = ap (λ (t : List Bool). length t) ep ∙ length-set old.placed r.block true ∙ s.wide;
    all = ap (λ (t : List ℕ). length t) ef ∙ length-set old.free r.processor (max (get_or old.free r.processor 0) r.finish) ∙ s.all;
    marks = mark;
    frees = λ p lp.
        let a = freed p lp in
        let b = greatest_push (λ (y : Row). cond (eqb y.processor p) y.finish 0) (laid old) r in
        let d = ap (λ (rs : List Row). free rs p) er in
        omega (arith, a, b, d, s.frees p lp);
    arrived = λ b p lb lp.
        let d = ap (λ (rs : List Row). data_at M g.messages rs b p) er in
        omega (arith, ea b p lb lp, s.arrived b p lb lp, data_push M g.messages (laid old) r b p, d);
    last =
        let d = ap length_of er in
        let e = greatest_push (λ (y : Row). y.finish) (laid old) r in
        omega (arith, el, s.last, d, e);
    free_soon = λ p lp.
        let f = cond_le (eqb r.processor p) r.finish (limit (count old + 1)) soon in
        omega (arith, freed p lp, s.free_soon p lp, f, one_more);
    arrive_soon = λ b p lb lp. omega (arith, ea b p lb lp, s.arrive_soon b p lb lp, sent_le M law r b p known lp g.messages sized, soon, one_more);
  }

none_sent : (M : Model) (ms : List Message) (b p : ℕ) → data_at M ms [] b p ≡ 0
none_sent M [] b p = refl
none_sent M (m ∷ ms) b p =
    omega (arith, cond_le (eqb m.to b) 0 0 (omega arith), none_sent M ms b p)

-- the board without rows
pub empty_shows : (M : Model) (g : Problem) → M.processors ≤ 32 → (board : Board) → laid board ≡ [] → board.placed ≡ replicate 257 false → board.free ≡ replicate 32 0
    → board.arrivals ≡ replicate 257 (replicate 32 0) → board.length ≡ 0 → Shows M g board
empty_shows M g few board er ep ef ea el =
    let at : (b p : ℕ) → b ≤ 256 → arrived_at board.arrivals b p ≡ 0 =
    λ b p lb. ap (λ (t : List (List ℕ)). arrived_at t b p) ea ∙ ap (λ (t : List ℕ). get_or t p 0) (get_or-replicate 257 b (replicate 32 0) [] (omega (arith, lb))) ∙ all_same {A = ℕ} 0 32 p in
    let now : (p : ℕ) → get_or board.free p 0 ≡ 0 = λ p. ap (λ (t : List ℕ). get_or t p 0) ef ∙ all_same {A = ℕ} 0 32 p in
    record {
      few = omega (arith, ap (λ (rs : List Row). length rs) er);
      wide = ap (λ (t : List Bool). length t) ep ∙ length-replicate {A = Bool} 257 false;
      all = ap (λ (t : List ℕ). length t) ef ∙ length-replicate {A = ℕ} 32 0;
      marks = λ b lb. ap (λ (t : List Bool). get_or t b false) ep ∙ all_same false 257 b ∙ sym (ap (λ (rs : List Row). is_placed rs b) er);
      frees = λ p lp. now p ∙ sym (ap (λ (rs : List Row). free rs p) er);
      arrived = λ b p lb lp. at b p lb ∙ sym (none_sent M g.messages b p) ∙ sym (ap (λ (rs : List Row). data_at M g.messages rs b p) er);
      last = el ∙ sym (ap length_of er);
      free_soon = λ p lp. omega (arith, now p);
      arrive_soon = λ b p lb lp. omega (arith, at b p lb);
    }
