-- Every row has a chain that accounts for its finish.
use Rattle.std.proofs.Common.{◌≡◌, ℕ, zero, suc, ◌+◌, ◌-◌, ◌*◌, ◌<◌, ◌≤◌, min, Bool, cond, ◌&&◌, eqb, ◌⊎◌, List, [], ◌∷◌, ◌++◌, sym, refl, ap, ◌∙◌, subst, ap₂, inl, inr, ⊎_elim, mul-le-mul_left, arith}
use Rattle.std.proofs.lemmas.Bool.{cases_eq, cases_lt, eq-eqb}
use Rattle.chains.specs.declared.message.Message.{Message}
use Rattle.chains.specs.Chains.{Step, Follows}
use Rattle.chains.specs.Lists.{In, Apart, total}
use Rattle.chains.specs.Sums.{steps_from}
use Rattle.chains.proofs.Lists.{in_append, of_map}
use Rattle.machine.specs.Model.{Model}
use Rattle.partition.specs.Costs.{work, greatest_below, farthest, step_cost}
use Rattle.partition.proofs.Delays.{below_ge}
use Rattle.partition.proofs.Levels.{greatest_ge}
use Rattle.partition.proofs.Summing.{total_append}
use Rattle.schedule.specs.declared.rows.Row.{Row}
use Rattle.schedule.specs.Problems.{Problem, length_of}
use Rattle.bounds.specs.Bounds.{Ends, Explained, LengthsExplained}
use Rattle.bounds.proofs.Sums.{either, total_sub, top}
use Rattle.bounds.proofs.Greedy.{Greedy, turned, turned_alike, greedy}
use Rattle.bounds.proofs.Busy.{used, used_mono, blocks_of, Everywhere, waited}
use Rattle.schedule.specs.Choices.{Chosen}

dec_step : (ms : List Message) (a b : ℕ) → Step ms a b ⊎ (Step ms a b → ⊥)
dec_step ms a b =
    ⊎_elim
    (λ no_one. inr (λ (s : Step ms a b). no_one s.message s.known (s.leaves, s.comes)))
    (λ t. inl (record { message = t.0; known = t.1; leaves = t.2.0; comes = t.2.1 }))
    (either (λ (m : Message). ((m.from ≡ a) × (m.to ≡ b)) → ⊥) (λ (m : Message). (m.from ≡ a) × (m.to ≡ b)) ms
    (λ m i. ⊎_elim (λ (e : m.from ≡ a). ⊎_elim (λ (f : m.to ≡ b). inr (e, f)) (λ (nf : m.to ≡ b → ⊥). inl (λ h. nf h.1)) (cases_eq m.to b)) (λ (ne : m.from ≡ a → ⊥). inl (λ h. ne h.0)) (cases_eq m.from a)))

-- the step cost is at least every delay of every message of the step
covers : (M : Model) (ms : List Message) (m : Message) → In m ms → (p q : ℕ) → p < M.processors → q < M.processors → M.delay p q m.size ≤ step_cost M ms m.from m.to
covers M ms m i p q pl ql =
    let P = M.processors in
    let d : ℕ = farthest M m.size in
    let top : cond (eqb m.from m.from && eqb m.to m.to) d 0 ≤ step_cost M ms m.from m.to =
    greatest_ge (λ (n : Message). cond (eqb n.from m.from && eqb n.to m.to) (farthest M n.size) 0) ms m i in
    let same : cond (eqb m.from m.from && eqb m.to m.to) d 0 ≡ d = ap₂ (λ s t. cond (s && t) d 0) (eq-eqb m.from m.from refl) (eq-eqb m.to m.to refl) in
    omega (arith, top, same, below_ge P (λ p. greatest_below P (λ q. M.delay p q m.size)) p pl, below_ge P (λ q. M.delay p q m.size) q ql)

-- when the data of all senders is everywhere, and which sender is the last
record Latest (ms : List Message) (cost : ℕ → ℕ → ℕ) (b : ℕ) (rs : List Row) : Type 0 where
  by : ℕ
  bound : (y : Row) → In y rs → Step ms y.block b → y.finish + cost y.block b ≤ by
  last : (by ≡ 0) ⊎ ((y : Row) × In y rs × Step ms y.block b × (by ≡ y.finish + cost y.block b))

latest : (ms : List Message) (cost : ℕ → ℕ → ℕ) (b : ℕ) (rs : List Row) → Latest ms cost b rs
latest ms cost b [] = record { by = 0; bound = λ y i. absurd i; last = inl refl }
latest ms cost b (x ∷ rs) =
    let before = latest ms cost b rs in
    let n = x.finish + cost x.block b in
    let kept : (n ≤ before.by) ⊎ (Step ms x.block b → ⊥) → Latest ms cost b (x ∷ rs) =
    λ w. record {
      by = before.by;
      bound = λ y i s. ⊎_elim (λ (e : y ≡ x). ⊎_elim (λ (l : n ≤ before.by). subst (λ (z : Row). z.finish + cost z.block b ≤ before.by) (sym e) l) (λ (none : Step ms x.block b → ⊥). absurd (none (subst (λ (z : Row). Step ms z.block b) e s))) w) (λ j. before.bound y j s) i;
      last = ⊎_elim inl (λ t. inr (t.0, inr t.1, t.2, t.3)) before.last;
    } in
    ⊎_elim
    (λ (s : Step ms x.block b). ⊎_elim
    (λ (l : before.by < n). record {
      by = n;
      bound = λ y i t. ⊎_elim (λ (e : y ≡ x). subst (λ (z : Row). z.finish + cost z.block b ≤ n) (sym e) (omega arith)) (λ j. omega (arith, before.bound y j t)) i;
      last = inr (x, inl refl, s, refl);
    })
    (λ l. kept (inl l)) (cases_lt before.by n))
    (λ none. kept (inr none)) (dec_step ms x.block b)

-- a chain with one block more at its end
module _ (ms : List Message) (y b : ℕ) where
  follows_more : (a : ℕ) (rest : List ℕ) → Follows ms a rest → Ends (a ∷ rest) y → Step ms y b → Follows ms a (rest ++ (b ∷ []))
  follows_more a [] f e s = (subst (λ (x : ℕ). Step ms x b) (sym e) s, tt)
  follows_more a (x ∷ rest) f e s = (f.0, follows_more x rest f.1 e s)

  ends_more : (a : ℕ) (rest : List ℕ) → Ends (a ∷ (rest ++ (b ∷ []))) b
  ends_more a [] = refl
  ends_more a (x ∷ rest) = ends_more x rest

  steps_more : (cost : ℕ → ℕ → ℕ) (a : ℕ) (rest : List ℕ) → Ends (a ∷ rest) y → steps_from cost a (rest ++ (b ∷ [])) ≡ cost y b + steps_from cost a rest
  steps_more cost a [] e = let same : cost a b ≡ cost y b = ap (λ (x : ℕ). cost x b) e in omega arith
  steps_more cost a (x ∷ rest) e = omega (arith, steps_more cost x rest e)

-- a chain from `first` that ends in the row's block and accounts for its finish
record Chained (M : Model) (g : Problem) (cost : ℕ → ℕ → ℕ) (rs : List Row) (y : Row) : Type 0 where
  first : ℕ
  rest : List ℕ
  is : Follows g.messages first rest
  ends : Ends (first ∷ rest) y.block
  known : (b : ℕ) → In b (first ∷ rest) → In b g.blocks
  bound : M.processors * y.finish + total g.time (first ∷ rest) ≤ used rs y.finish + M.processors * total g.time (first ∷ rest) + M.processors * steps_from cost first rest

-- the sums of the step
alone_sums : (P S fi T uS uF : ℕ) → P * S ≤ uS → uS ≤ uF → fi ≡ S + T → P * fi + (T + 0) ≤ ((min fi fi - min S fi) + uF) + P * (T + 0) + P * 0
alone_sums P S fi T uS uF w le is = let e : P * fi ≡ P * S + P * T = ap (λ (x : ℕ). P * x) is ∙ omega arith in omega arith

late : (P S yf c d uY uA uS : ℕ) → S ≡ yf + c + d → uA + P * d ≤ uS → uY ≤ uA → P * S + uY ≤ P * yf + P * c + uS
late P S yf c d uY uA uS is w le = let e : P * S ≡ P * yf + P * c + P * d = ap (λ (x : ℕ). P * x) is ∙ omega arith in omega arith

early : (P S yf c uY uS : ℕ) → S ≤ yf + c → uY ≤ uS → P * S + uY ≤ P * yf + P * c + uS
early P S yf c uY uS h le = omega (arith, mul-le-mul_left P h)

longer_sums : (P S yf c fi T t s t' s' uY uS uF : ℕ) → t' ≡ T + t → s' ≡ c + s → P * S + uY ≤ P * yf + P * c + uS → P * yf + t ≤ uY + P * t + P * s → uS ≤ uF → fi ≡ S + T
    → P * fi + t' ≤ ((min fi fi - min S fi) + uF) + P * t' + P * s'
longer_sums P S yf c fi T t s t' s' uY uS uF et es w ih le is =
    let e : P * fi ≡ P * S + P * T = ap (λ (x : ℕ). P * x) is ∙ omega arith in
    let f : P * t' ≡ P * T + P * t = ap (λ (x : ℕ). P * x) et ∙ omega arith in
    let h : P * s' ≡ P * c + P * s = ap (λ (x : ℕ). P * x) es ∙ omega arith in
    omega arith

module _ (M : Model) (g : Problem) (earlier : ℕ → ℕ → Bool) where
  within : (rs : List Row) → Greedy M g earlier rs → (y : Row) → In y rs → y.processor < M.processors
  within [] h y i = absurd i
  within (x ∷ rs) h y i = ⊎_elim (λ (e : y ≡ x). subst (λ (z : Row). z.processor < M.processors) (sym e) h.0.exists) (within rs h.1 y) i

  used_total : (rs : List Row) → Greedy M g earlier rs → (x : ℕ) → used rs x ≤ total g.time (blocks_of rs)
  used_total [] h x = omega arith
  used_total (r ∷ rs) h x = omega (arith, h.0.unbroken, used_total rs h.1 x)

  once : (rs : List Row) → Greedy M g earlier rs → Apart (blocks_of rs)
  once [] h = tt
  once (r ∷ rs) h = (λ i. let p = of_map (λ (x : Row). x.block) r.block rs i in h.0.candidate.unplaced (record { row = p.0; there = p.1; is = sym p.2 }), once rs h.1)

  known : (rs : List Row) → Greedy M g earlier rs → (b : ℕ) → In b (blocks_of rs) → In b g.blocks
  known [] h b i = absurd i
  known (r ∷ rs) h b i = ⊎_elim (λ (e : b ≡ r.block). subst (λ (x : ℕ). In x g.blocks) (sym e) h.0.candidate.known) (known rs h.1 b) i

  used_work : (rs : List Row) → Greedy M g earlier rs → (x : ℕ) → used rs x ≤ work g.time g.blocks
  used_work rs h x = omega (arith, used_total rs h x, total_sub g.time (blocks_of rs) g.blocks (once rs h) (known rs h))

  abbrev cost : ℕ → ℕ → ℕ
  cost = step_cost M g.messages

  everywhere : (b : ℕ) (rs : List Row) → Greedy M g earlier rs → (l : Latest g.messages cost b rs) → Everywhere M g b l.by rs
  everywhere b rs h l p pl m i e y j f =
      let s : Step g.messages y.block b = record { message = m; known = i; leaves = sym f; comes = e } in
      let c : cost m.from m.to ≡ cost y.block b = ap₂ cost (sym f) e in
      omega (arith, covers M g.messages m i y.processor p (within rs h y j) pl, l.bound y j s)

  newest : (r : Row) (rs : List Row) → Greedy M g earlier (r ∷ rs) → ((y : Row) → In y rs → Chained M g cost rs y) → Chained M g cost (r ∷ rs) r
  newest r rs h before =
      let b = r.block in
      let l = latest g.messages cost b rs in
      let ev : Everywhere M g b l.by rs = everywhere b rs h.1 l in
      let here : In b g.blocks = h.0.candidate.known in
      let grows : used rs r.start ≤ used rs r.finish = used_mono rs r.start r.finish (omega (arith, h.0.unbroken)) in
      ⊎_elim
      (λ (none : l.by ≡ 0).
      let w = waited M g earlier r rs l.by r.start h ev (omega arith) in
      record {
        first = b;
        rest = [];
        is = tt;
        ends = refl;
        known = λ x i. ⊎_elim (λ (e : x ≡ b). subst (λ (z : ℕ). In z g.blocks) (sym e) here) (λ j. absurd j) i;
        bound = alone_sums M.processors r.start r.finish (g.time b) (used rs r.start) (used rs r.finish) (omega arith) grows h.0.unbroken;
      })
      (λ t.
      let y = t.0 in
      let c = cost y.block b in
      let ih = before y t.1 in
      let s = t.2 in
      let a = ih.first in
      let rest = ih.rest in
      let arrives : y.finish ≤ r.start = omega (arith, h.0.able.arrived s.message s.known s.comes y t.1 (sym s.leaves)) in
      let w : M.processors * r.start + used rs y.finish ≤ M.processors * y.finish + M.processors * c + used rs r.start =
      ⊎_elim
      (λ (lt : r.start < l.by). early M.processors r.start y.finish c (used rs y.finish) (used rs r.start) (omega (arith, t.3)) (used_mono rs y.finish r.start arrives))
      (λ (le : l.by ≤ r.start).
      let d = r.start - l.by in
      late M.processors r.start y.finish c d (used rs y.finish) (used rs l.by) (used rs r.start) (omega (arith, t.3))
      (waited M g earlier r rs l.by d h ev (omega arith)) (used_mono rs y.finish l.by (omega (arith, t.3))))
      (cases_lt r.start l.by) in
      record {
        first = a;
        rest = rest ++ (b ∷ []);
        is = follows_more g.messages y.block b a rest ih.is ih.ends s;
        ends = ends_more g.messages y.block b a rest;
        known = λ x i. ⊎_elim (ih.known x) (λ j. ⊎_elim (λ (e : x ≡ b). subst (λ (z : ℕ). In z g.blocks) (sym e) here) (λ k. absurd k) j) (in_append x (a ∷ rest) (b ∷ []) i);
        bound = longer_sums M.processors r.start y.finish c r.finish (g.time b) (total g.time (a ∷ rest)) (steps_from cost a rest)
            (total g.time (a ∷ (rest ++ (b ∷ [])))) (steps_from cost a (rest ++ (b ∷ [])))
            (used rs y.finish) (used rs r.start) (used rs r.finish)
            (omega (arith, total_append g.time (a ∷ rest) (b ∷ []))) (steps_more g.messages y.block b cost a rest ih.ends)
            w ih.bound grows h.0.unbroken;
      })
      l.last

  -- with one row more the bound still holds
  older : (r : Row) (rs : List Row) (y : Row) → Chained M g cost rs y → Chained M g cost (r ∷ rs) y
  older r rs y c = record { first = c.first; rest = c.rest; is = c.is; ends = c.ends; known = c.known; bound = omega (arith, c.bound) }

  chained : (rs : List Row) → Greedy M g earlier rs → (y : Row) → In y rs → Chained M g cost rs y
  chained [] h y i = absurd i
  chained (r ∷ rs) h y i =
      let before = chained rs h.1 in
      ⊎_elim (λ (e : y ≡ r). subst (λ (z : Row). Chained M g cost (r ∷ rs) z) (sym e) (newest r rs h before)) (λ j. older r rs y (before y j)) i

  explained_at : (rows : List Row) → Chosen M g earlier rows → (y : Row) → In y rows → y.finish ≡ length_of rows → Explained M g rows
  explained_at rows c y i is =
      let h = greedy M g earlier rows c in
      let j = (turned_alike rows).1 y i in
      let k = chained (turned rows) h y j in
      let P = M.processors in
      let t = total g.time (k.first ∷ k.rest) in
      let e : P * y.finish ≡ P * length_of rows = ap (λ (x : ℕ). P * x) is in
      record {
        chain = k.first ∷ k.rest;
        is = k.is;
        known = k.known;
        last = y;
        there = i;
        latest = is;
        ends = k.ends;
        bound = omega (arith, k.bound, used_work (turned rows) h y.finish, less_one P t (omega (arith, within (turned rows) h y j)));
      }
    where
      less_one : (P n : ℕ) → 1 ≤ P → P * n ≡ (P - 1) * n + n
      less_one zero n h = absurd (omega arith)
      less_one (suc P) n h = let e : suc P - 1 ≡ P = omega arith in rw e (omega arith)

pub lengths_explained : LengthsExplained
lengths_explained M g e [] c l = absurd (omega arith)
lengths_explained M g e (r ∷ rows) c l = let t = top (λ (x : Row). x.finish) r rows in explained_at M g e (r ∷ rows) c t.0 t.1 t.2
