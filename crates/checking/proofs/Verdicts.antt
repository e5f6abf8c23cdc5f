-- The refusal of rows by the rows that the tests took.
use Rattle.std.proofs.Common.{◌≡◌, ℕ, eqb, List, length, Some, None, Ok, Option, sym, refl, ap, ◌∙◌, ⊎_elim, arith}
use Rattle.std.specs.Option.{option_or, option_map}
use Rattle.std.proofs.lemmas.Bool.{cases_eq, eq-eqb, ne_eqb, cond-true, cond-false}
use Rattle.chains.specs.Lists.{Apart}
use Rattle.machine.specs.Model.{Model}
use Rattle.schedule.specs.declared.rows.Row.{Row}
use Rattle.schedule.specs.Problems.{Problem, length_of}
use Rattle.checking.specs.declared.refusal.CheckRefusal.{CheckRefusal}
use Rattle.checking.specs.declared.refusal.CheckRefusal.TheVariants.{RowCount, Block, Processor, Finish, Overlap, Arrival}
use Rattle.checking.specs.Checking.{first_row, misnames, strays, breaks, overlaps, lacks, row_refusal, check_refusal, unless, check_answer}
use Rattle.checking.specs.Accepting.{Judges}
use Rattle.checking.proofs.Validity.{Passed, passed_valid, valid_passed}

-- where nothing is refused each test takes none
none_here : (o : Option ℕ) (why : ℕ → CheckRefusal) (rest : Option CheckRefusal) → option_or (option_map why o) rest ≡ None → (o ≡ None) × (rest ≡ None)
none_here None why rest e = (refl, e)
none_here (Some n) why rest e = absurd (grind (arith, e))

none_last : (o : Option ℕ) (why : ℕ → CheckRefusal) → option_map why o ≡ None → o ≡ None
none_last None why e = refl
none_last (Some n) why e = absurd (grind (arith, e))

module _ (M : Model) (g : Problem) (rows : List Row) where
  unrefused_by : Passed M g rows → row_refusal M g rows ≡ None
  unrefused_by p = rw (p.named, p.housed, p.whole, p.alone, p.fed) refl

  unrefused : row_refusal M g rows ≡ None → length rows ≡ length g.blocks → Passed M g rows
  unrefused n many =
      let a = none_here (first_row (misnames g.blocks) rows) (λ n. Block n) _ n in
      let b = none_here (first_row (λ above r. strays M.processors r) rows) (λ n. Processor n) _ a.1 in
      let c = none_here (first_row (λ above r. breaks g.time r) rows) (λ n. Finish n) _ b.1 in
      let d = none_here (first_row overlaps rows) (λ n. Overlap n) _ c.1 in
      let e = none_last (first_row (λ above r. lacks M g.messages rows r) rows) (λ n. Arrival n) d.1 in
      record { many = many; named = a.0; housed = b.0; whole = c.0; alone = d.0; fed = e }

  passed_from : check_refusal M g rows ≡ None → Passed M g rows
  passed_from e =
      ⊎_elim
      (λ (many : length rows ≡ length g.blocks).
      unrefused (sym (cond-true (eqb (length rows) (length g.blocks)) (row_refusal M g rows) (Some (RowCount (length rows))) (eq-eqb (length rows) (length g.blocks) many)) ∙ e) many)
      (λ (ne : length rows ≡ length g.blocks → ⊥).
      let q : Some (RowCount (length rows)) ≡ None = sym (cond-false (eqb (length rows) (length g.blocks)) (row_refusal M g rows) (Some (RowCount (length rows))) (ne_eqb (length rows) (length g.blocks) ne)) ∙ e in
      absurd (grind (arith, q)))
      (cases_eq (length rows) (length g.blocks))

  from_passed : Passed M g rows → check_refusal M g rows ≡ None
  from_passed p =
      cond-true (eqb (length rows) (length g.blocks)) (row_refusal M g rows) (Some (RowCount (length rows))) (eq-eqb (length rows) (length g.blocks) p.many)
      ∙ unrefused_by p

  none_from : (o : Option CheckRefusal) (n : ℕ) → unless o (length_of rows) ≡ Ok n → o ≡ None
  none_from None n e = refl
  none_from (Some why) n e = absurd (grind (arith, e))

  long_from : (o : Option CheckRefusal) (n : ℕ) → unless o (length_of rows) ≡ Ok n → n ≡ length_of rows
  long_from None n e = cc
  long_from (Some why) n e = absurd (grind (arith, e))

  pub judges : Apart g.blocks → Judges M g rows (check_answer M g rows)
  judges apart = record {
    only = λ n e. passed_valid M g rows (passed_from (none_from (check_refusal M g rows) n e));
    long = λ n e. long_from (check_refusal M g rows) n e;
    every = λ v. ap (λ (o : Option CheckRefusal). unless o (length_of rows)) (from_passed (valid_passed M g rows apart v));
  }
