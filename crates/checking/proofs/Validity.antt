-- Nothing is refused exactly of valid schedules.
use Rattle.std.proofs.Common.{◌≡◌, ℕ, ◌+◌, ◌≤◌, Bool, true, false, not, ◌&&◌, eqb, ltb, ◌⊎◌, List, [], ◌∷◌, map, length, None, sym, refl, ap, ◌∙◌, subst, inl, inr, ⊎_elim, arith}
use Rattle.std.proofs.lemmas.List.{length-map}
use Rattle.std.proofs.lemmas.Bool.{cases_eq, eqb-true, eqb-false, eq-eqb, ne_eqb, ltb-true, ltb-false, lt-ltb, le-ltb, and_cases, and_left, and_right, not-false, not_from_true}
use Rattle.std.specs.List.{list_any}
use Rattle.chains.specs.declared.message.Message.{Message}
use Rattle.chains.specs.Lists.{In, Apart}
use Rattle.chains.proofs.Lists.{in_map, of_map}
use Rattle.machine.specs.Model.{Model}
use Rattle.schedule.specs.declared.rows.Row.{Row}
use Rattle.schedule.specs.Problems.{Problem}
use Rattle.schedule.specs.Valid.{Valid, OneAtATime}
use Rattle.checking.specs.Checking.{Test, first_row, misnames, strays, breaks, overlap, overlaps, comes_late, is_awaited, lacks}
use Rattle.checking.specs.Questions.{Housed}
use Rattle.checking.proofs.Somes.{none_passes, all_fail, one_passes, passes_one}
use Rattle.checking.proofs.Clear.{Pairwise, clear_from, from_clear, each_clear, clear_each, first_clear, second_clear, both_clear, pairs_clear, clear_pairs}
use Rattle.checking.proofs.Pigeons.{no_longer, has_all}

abbrev block_at : Row → ℕ
block_at r = r.block

-- what each test says of rows of which it takes none
pub record Passed (M : Model) (g : Problem) (rows : List Row) : Type 0 where
  pub many : length rows ≡ length g.blocks
  pub named : first_row (misnames g.blocks) rows ≡ None
  pub housed : first_row (λ above r. strays M.processors r) rows ≡ None
  pub whole : first_row (λ above r. breaks g.time r) rows ≡ None
  pub alone : first_row overlaps rows ≡ None
  pub fed : first_row (λ above r. lacks M g.messages rows r) rows ≡ None

-- blocks
abbrev unlisted : List ℕ → Test
unlisted blocks above r = not (list_any (λ b. eqb b r.block) blocks)

abbrev same_block : Row → Row → Bool
same_block y r = eqb y.block r.block

abbrev renamed : Test
renamed above r = list_any (λ y. same_block y r) above

listed_in : (blocks : List ℕ) (b : ℕ) → not (list_any (λ x. eqb x b) blocks) ≡ false → In b blocks
listed_in blocks b e =
    let one = one_passes (λ x. eqb x b) blocks (not-false (list_any (λ x. eqb x b) blocks) e) in
    subst (λ (k : ℕ). In k blocks) (eqb-true one.0 b one.2) one.1

in_listed : (blocks : List ℕ) (b : ℕ) → In b blocks → not (list_any (λ x. eqb x b) blocks) ≡ false
in_listed blocks b i = not_from_true (list_any (λ x. eqb x b) blocks) (passes_one (λ x. eqb x b) blocks b i (eq-eqb b b refl))

apart_from : (rows : List Row) → Pairwise same_block rows → Apart (map block_at rows)
apart_from [] p = tt
apart_from (r ∷ rows) p =
    (λ i. let q = of_map block_at r.block rows i in eqb-false r.block q.0.block (p.0 q.0 q.1) q.2, apart_from rows p.1)

from_apart : (rows : List Row) → Apart (map block_at rows) → Pairwise same_block rows
from_apart [] a = tt
from_apart (r ∷ rows) a =
    (λ y i. ne_eqb r.block y.block (λ e. a.0 (subst (λ (k : ℕ). In k (map block_at rows)) (sym e) (in_map block_at y rows i))), from_apart rows a.1)

-- overlaps
apart_in_time : (r y : Row) → overlap r y ≡ false → y.processor ≡ r.processor → (y.finish ≤ r.start) ⊎ (r.finish ≤ y.start)
apart_in_time r y e same =
    ⊎_elim
    (λ (f : eqb r.processor y.processor ≡ false). absurd (eqb-false r.processor y.processor f (sym same)))
    (λ (f : (ltb r.start y.finish && ltb y.start r.finish) ≡ false). ⊎_elim
    (λ (z : ltb r.start y.finish ≡ false). inl (ltb-false r.start y.finish z))
    (λ (z : ltb y.start r.finish ≡ false). inr (ltb-false y.start r.finish z))
    (and_cases (ltb r.start y.finish) (ltb y.start r.finish) f))
    (and_cases (eqb r.processor y.processor) (ltb r.start y.finish && ltb y.start r.finish) e)

no_overlap : (r y : Row) → (y.processor ≡ r.processor → (y.finish ≤ r.start) ⊎ (r.finish ≤ y.start)) → overlap r y ≡ false
no_overlap r y h =
    ⊎_elim
    (λ (e : r.processor ≡ y.processor). and_right (eqb r.processor y.processor) (ltb r.start y.finish && ltb y.start r.finish) (⊎_elim
    (λ (z : y.finish ≤ r.start). and_left (ltb r.start y.finish) (ltb y.start r.finish) (le-ltb r.start y.finish z))
    (λ (z : r.finish ≤ y.start). and_right (ltb r.start y.finish) (ltb y.start r.finish) (le-ltb y.start r.finish z))
    (h (sym e))))
    (λ (ne : r.processor ≡ y.processor → ⊥). and_left (eqb r.processor y.processor) (ltb r.start y.finish && ltb y.start r.finish) (ne_eqb r.processor y.processor ne))
    (cases_eq r.processor y.processor)

alone_from : (rows : List Row) → Pairwise overlap rows → OneAtATime rows
alone_from [] p = tt
alone_from (r ∷ rows) p = (λ y i same. apart_in_time r y (p.0 y i) same, alone_from rows p.1)

from_alone : (rows : List Row) → OneAtATime rows → Pairwise overlap rows
from_alone [] p = tt
from_alone (r ∷ rows) p = (λ y i. no_overlap r y (λ same. p.0 y i same), from_alone rows p.1)

-- data
and_rest : (a b : Bool) → (a && b) ≡ false → a ≡ true → b ≡ false
and_rest a b h e = ap (λ (t : Bool). t && b) (sym e) ∙ h

in_time : (M : Model) (ms : List Message) (rows : List Row) (y : Row) → lacks M ms rows y ≡ false
    → (m : Message) → In m ms → (x : Row) → In x rows → x.block ≡ m.from → y.block ≡ m.to → x.finish + M.delay x.processor y.processor m.size ≤ y.start
in_time M ms rows y e m i x j from to =
    let one = none_passes (is_awaited M rows y) ms e m i in
    let all = and_rest (eqb m.to y.block) (list_any (comes_late M y m) rows) one (eq-eqb m.to y.block (sym to)) in
    let late = none_passes (comes_late M y m) rows all x j in
    ltb-false y.start (x.finish + M.delay x.processor y.processor m.size)
    (and_rest (eqb x.block m.from) (ltb y.start (x.finish + M.delay x.processor y.processor m.size)) late (eq-eqb x.block m.from from))

has_data : (M : Model) (ms : List Message) (rows : List Row) (y : Row)
    → ((m : Message) → In m ms → (x : Row) → In x rows → x.block ≡ m.from → y.block ≡ m.to → x.finish + M.delay x.processor y.processor m.size ≤ y.start)
    → lacks M ms rows y ≡ false
has_data M ms rows y h = all_fail (is_awaited M rows y) ms (λ m i.
    ⊎_elim
    (λ (to : m.to ≡ y.block). and_right (eqb m.to y.block) (list_any (comes_late M y m) rows) (all_fail (comes_late M y m) rows (λ x j.
    ⊎_elim
    (λ (from : x.block ≡ m.from). and_right (eqb x.block m.from) (ltb y.start (x.finish + M.delay x.processor y.processor m.size))
    (le-ltb y.start (x.finish + M.delay x.processor y.processor m.size) (h m i x j from (sym to))))
    (λ (ne : x.block ≡ m.from → ⊥). and_left (eqb x.block m.from) (ltb y.start (x.finish + M.delay x.processor y.processor m.size)) (ne_eqb x.block m.from ne))
    (cases_eq x.block m.from))))
    (λ (ne : m.to ≡ y.block → ⊥). and_left (eqb m.to y.block) (list_any (comes_late M y m) rows) (ne_eqb m.to y.block ne))
    (cases_eq m.to y.block))

-- processors
pub housed_from : (processors : ℕ) (rows : List Row) → first_row (λ above r. strays processors r) rows ≡ None → Housed processors rows
housed_from processors rows e r i =
    ltb-true r.processor processors (not-false (ltb r.processor processors) (each_clear (strays processors) [] rows (clear_from (λ above r. strays processors r) [] rows e) r i))

pub passed_valid : (M : Model) (g : Problem) (rows : List Row) → Passed M g rows → Valid M g rows
passed_valid M g rows h =
    let named = clear_from (misnames g.blocks) [] rows h.named in
    let listed = each_clear (λ (r : Row). not (list_any (λ b. eqb b r.block) g.blocks)) [] rows (first_clear (unlisted g.blocks) renamed [] rows named) in
    let once = apart_from rows (pairs_clear same_block [] rows (second_clear (unlisted g.blocks) renamed [] rows named)) in
    let only : (r : Row) → In r rows → In r.block g.blocks = λ r i. listed_in g.blocks r.block (listed r i) in
    let whole = each_clear (breaks g.time) [] rows (clear_from (λ above r. breaks g.time r) [] rows h.whole) in
    let fed = each_clear (lacks M g.messages rows) [] rows (clear_from (λ above r. lacks M g.messages rows r) [] rows h.fed) in
    record {
      every = λ b i.
          let j = has_all (map block_at rows) g.blocks once
          (λ x k. let q = of_map block_at x rows k in subst (λ (n : ℕ). In n g.blocks) (sym q.2) (only q.0 q.1))
          (length-map rows block_at ∙ h.many) b i in
          let q = of_map block_at b rows j in
          record { row = q.0; there = q.1; is = sym q.2 };
      only = only;
      once = once;
      exists = housed_from M.processors rows h.housed;
      unbroken = λ r i. eqb-true r.finish (r.start + g.time r.block) (not-false (eqb r.finish (r.start + g.time r.block)) (whole r i));
      alone = alone_from rows (pairs_clear overlap [] rows (clear_from overlaps [] rows h.alone));
      arrived = λ m i x y j k from to. in_time M g.messages rows y (fed y k) m i x j from to;
    }

pub valid_passed : (M : Model) (g : Problem) (rows : List Row) → Apart g.blocks → Valid M g rows → Passed M g rows
valid_passed M g rows apart v =
    let le = no_longer (map block_at rows) g.blocks v.once
    (λ x k. let q = of_map block_at x rows k in subst (λ (n : ℕ). In n g.blocks) (sym q.2) (v.only q.0 q.1)) in
    let ge = no_longer g.blocks (map block_at rows) apart
    (λ b i. let p = v.every b i in subst (λ (n : ℕ). In n (map block_at rows)) p.is (in_map block_at p.row rows p.there)) in
    let long = length-map rows block_at in
    record {
      many = omega (arith, le, ge, long);
      named = from_clear (misnames g.blocks) [] rows (both_clear (unlisted g.blocks) renamed [] rows
          (clear_each (λ (r : Row). not (list_any (λ b. eqb b r.block) g.blocks)) [] rows (λ r i. in_listed g.blocks r.block (v.only r i)))
          (clear_pairs same_block [] rows (λ y r i j. absurd i) (from_apart rows v.once)));
      housed = from_clear (λ above r. strays M.processors r) [] rows (clear_each (strays M.processors) [] rows
          (λ r i. not_from_true (ltb r.processor M.processors) (lt-ltb r.processor M.processors (v.exists r i))));
      whole = from_clear (λ above r. breaks g.time r) [] rows (clear_each (breaks g.time) [] rows
          (λ r i. not_from_true (eqb r.finish (r.start + g.time r.block)) (eq-eqb r.finish (r.start + g.time r.block) (v.unbroken r i))));
      alone = from_clear overlaps [] rows (clear_pairs overlap [] rows (λ y r i j. absurd i) (from_alone rows v.alone));
      fed = from_clear (λ above r. lacks M g.messages rows r) [] rows (clear_each (lacks M g.messages rows) [] rows
          (λ y k. has_data M g.messages rows y (λ m i x j from to. v.arrived m i x y j k from to)));
    }
