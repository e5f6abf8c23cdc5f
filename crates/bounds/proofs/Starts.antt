-- Candidates and starts as they are computed, and what they mean.
use Rattle.std.proofs.Common.{◌≡◌, ℕ, zero, suc, ◌+◌, ◌<◌, ◌≤◌, true, cond, not, ◌||◌, eqb, ltb, List, [], ◌∷◌, sym, refl, ap, ◌∙◌, subst, inl, inr, ⊎_elim, arith}
use Rattle.std.proofs.lemmas.Bool.{false≢true, both_ways, not-true, not_from_false, or_cases, or_left, or_right, and_parts, and_from, ltb-true, ltb-false, eqb-true, eq-eqb, ne_eqb, cases_eq, cases_Bool, cond_both}
use Rattle.chains.specs.declared.message.Message.{Message}
use Rattle.chains.specs.Lists.{In}
use Rattle.machine.specs.Model.{Model}
use Rattle.partition.proofs.Levels.{greatest_ge, greatest_le}
use Rattle.schedule.specs.declared.rows.Row.{Row}
use Rattle.schedule.specs.Problems.{Problem}
use Rattle.schedule.specs.Placing.{is_placed, is_fed, is_candidate, free, arrival, start_on, earliest_upto}
use Rattle.schedule.specs.Choices.{Free, Able, Placed, Candidate}

pub placed_is : (rows : List Row) (b : ℕ) → is_placed rows b ≡ true → Placed rows b
placed_is [] b h = absurd (false≢true h)
placed_is (r ∷ rows) b h =
    ⊎_elim (λ t. record { row = r; there = inl refl; is = eqb-true r.block b t })
    (λ t. let p = placed_is rows b t in record { row = p.row; there = inr p.there; is = p.is })
    (or_cases (eqb r.block b) (is_placed rows b) h)

is_in : (rows : List Row) (b : ℕ) (r : Row) → In r rows → r.block ≡ b → is_placed rows b ≡ true
is_in [] b r i e = absurd i
is_in (x ∷ rows) b r (inl d) e = or_left (eqb x.block b) (is_placed rows b) (eq-eqb x.block b (ap (λ (z : Row). z.block) (sym d) ∙ e))
is_in (x ∷ rows) b r (inr i) e = or_right (eqb x.block b) (is_placed rows b) (is_in rows b r i e)

pub is_there : (rows : List Row) (b : ℕ) → Placed rows b → is_placed rows b ≡ true
is_there rows b p = is_in rows b p.row p.there p.is

fed_is : (ms : List Message) (rows : List Row) (b : ℕ) → is_fed ms rows b ≡ true → (m : Message) → In m ms → m.to ≡ b → Placed rows m.from
fed_is [] rows b h m i e = absurd i
fed_is (x ∷ ms) rows b h m i e =
    let p = and_parts (not (eqb x.to b) || is_placed rows x.from) (is_fed ms rows b) h in
    ⊎_elim
    (λ (d : m ≡ x).
    let to : x.to ≡ b = ap (λ (z : Message). z.to) (sym d) ∙ e in
    ⊎_elim (λ t. absurd (both_ways (eqb x.to b) (not-true (eqb x.to b) t) (eq-eqb x.to b to)))
    (λ t. subst (λ (z : Message). Placed rows z.from) (sym d) (placed_is rows x.from t))
    (or_cases (not (eqb x.to b)) (is_placed rows x.from) p.0))
    (λ j. fed_is ms rows b p.1 m j e) i

is_fed_so : (ms : List Message) (rows : List Row) (b : ℕ) → ((m : Message) → In m ms → m.to ≡ b → Placed rows m.from) → is_fed ms rows b ≡ true
is_fed_so [] rows b h = refl
is_fed_so (x ∷ ms) rows b h =
    and_from (not (eqb x.to b) || is_placed rows x.from) (is_fed ms rows b)
    (⊎_elim (λ (e : x.to ≡ b). or_right (not (eqb x.to b)) (is_placed rows x.from) (is_there rows x.from (h x (inl refl) e)))
    (λ (ne : x.to ≡ b → ⊥). or_left (not (eqb x.to b)) (is_placed rows x.from) (not_from_false (eqb x.to b) (ne_eqb x.to b ne)))
    (cases_eq x.to b))
    (is_fed_so ms rows b (λ m i. h m (inr i)))

pub candidate_is : (g : Problem) (rows : List Row) (b : ℕ) → In b g.blocks → is_candidate g rows b ≡ true → Candidate g rows b
candidate_is g rows b i h =
    let p = and_parts (not (is_placed rows b)) (is_fed g.messages rows b) h in
    record {
      known = i;
      unplaced = λ q. both_ways (is_placed rows b) (not-true (is_placed rows b) p.0) (is_there rows b q);
      fed = fed_is g.messages rows b p.1;
    }

pub is_candidate_so : (g : Problem) (rows : List Row) (b : ℕ) → Candidate g rows b → is_candidate g rows b ≡ true
is_candidate_so g rows b c =
    and_from (not (is_placed rows b)) (is_fed g.messages rows b)
    (not_from_false (is_placed rows b) (⊎_elim (λ t. absurd (c.unplaced (placed_is rows b t))) (λ t. t) (cases_Bool (is_placed rows b))))
    (is_fed_so g.messages rows b c.fed)

-- a number under a test
when_le : (a b n s : ℕ) → (a ≡ b → n ≤ s) → cond (eqb a b) n 0 ≤ s
when_le a b n s h = cond_both (eqb a b) n 0 (λ x. x ≤ s) (λ e. h (eqb-true a b e)) (λ e. omega arith)

le_when : (a b n s : ℕ) → cond (eqb a b) n 0 ≤ s → a ≡ b → n ≤ s
le_when a b n s h e = subst (λ t. cond t n 0 ≤ s) (eq-eqb a b e) h

pub free_le : (rows : List Row) (p s : ℕ) → free rows p ≤ s → Free rows p s
free_le rows p s h r i e =
    let a = greatest_ge (λ (r : Row). cond (eqb r.processor p) r.finish 0) rows r i in
    le_when r.processor p r.finish s (omega arith) e

pub able_start : (M : Model) (g : Problem) (rows : List Row) (b p s : ℕ) → start_on M g rows b p ≤ s → Able M g rows b p s
able_start M g rows b p s h = record {
  idle = free_le rows p s (omega arith);
  arrived = λ m i e y j f.
      let a = greatest_ge (λ (m : Message). cond (eqb m.to b) (arrival M rows m p) 0) g.messages m i in
      let c : arrival M rows m p ≤ s = le_when m.to b (arrival M rows m p) s (omega arith) e in
      let d = greatest_ge (λ (y : Row). cond (eqb y.block m.from) (y.finish + M.delay y.processor p m.size) 0) rows y j in
      le_when y.block m.from (y.finish + M.delay y.processor p m.size) s (omega arith) f;
}

pub start_able : (M : Model) (g : Problem) (rows : List Row) (b p s : ℕ) → Able M g rows b p s → start_on M g rows b p ≤ s
start_able M g rows b p s h =
    let late = greatest_le (λ (m : Message). cond (eqb m.to b) (arrival M rows m p) 0) g.messages s
    (λ m i. when_le m.to b (arrival M rows m p) s (λ e. greatest_le (λ (y : Row). cond (eqb y.block m.from) (y.finish + M.delay y.processor p m.size) 0) rows s
    (λ y j. when_le y.block m.from (y.finish + M.delay y.processor p m.size) s (λ f. h.arrived m i e y j f)))) in
    let idle = greatest_le (λ (r : Row). cond (eqb r.processor p) r.finish 0) rows s (λ r i. when_le r.processor p r.finish s (λ e. h.idle r i e)) in
    omega (arith, late, idle)

-- the earliest start on the processors up to n, and the lowest that has it
pub record Earliest (M : Model) (g : Problem) (rows : List Row) (b n : ℕ) (at : ℕ × ℕ) : Type 0 where
  pub low : at.1 ≤ n
  pub is : at.0 ≡ start_on M g rows b at.1
  pub least : (p : ℕ) → p ≤ n → at.0 ≤ start_on M g rows b p
  pub lowest : (p : ℕ) → p ≤ n → start_on M g rows b p ≤ at.0 → at.1 ≤ p

module _ (M : Model) (g : Problem) (rows : List Row) (b : ℕ) where
  start_same : (p q : ℕ) → p ≡ q → start_on M g rows b p ≡ start_on M g rows b q
  start_same p q e = ap (λ (x : ℕ). start_on M g rows b x) e

  pub earliest_is : (n : ℕ) → Earliest M g rows b n (earliest_upto M g rows b n)
  earliest_is zero = record {
    low = omega arith;
    is = refl;
    least = λ p l. let e : p ≡ 0 = omega arith in omega (arith, start_same p 0 e);
    lowest = λ p l k. omega arith;
  }
  earliest_is (suc n) =
      let s = start_on M g rows b (suc n) in
      let at = earliest_upto M g rows b n in
      let before = earliest_is n in
      cond_both (ltb s at.0) (s, suc n) at (λ (z : ℕ × ℕ). Earliest M g rows b (suc n) z)
      (λ e. let sooner : s < at.0 = ltb-true s at.0 e in
      record {
        low = omega arith;
        is = refl;
        least = λ p l. ⊎_elim (λ (d : p ≡ suc n). omega (arith, start_same p (suc n) d)) (λ (ne : p ≡ suc n → ⊥). omega (arith, before.least p (omega arith), sooner)) (cases_eq p (suc n));
        lowest = λ p l k. ⊎_elim (λ (d : p ≡ suc n). omega arith) (λ (ne : p ≡ suc n → ⊥). absurd (omega (arith, before.least p (omega arith), sooner, k))) (cases_eq p (suc n));
      })
      (λ e. let later : at.0 ≤ s = ltb-false s at.0 e in
      record {
        low = omega (arith, before.low);
        is = before.is;
        least = λ p l. ⊎_elim (λ (d : p ≡ suc n). omega (arith, start_same p (suc n) d, later)) (λ (ne : p ≡ suc n → ⊥). before.least p (omega arith)) (cases_eq p (suc n));
        lowest = λ p l k. ⊎_elim (λ (d : p ≡ suc n). omega (arith, before.low)) (λ (ne : p ≡ suc n → ⊥). before.lowest p (omega arith) k) (cases_eq p (suc n));
      })
