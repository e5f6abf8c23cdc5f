-- The first refusal of a table, row by row.
use Rattle.std.proofs.Common.{◌≡◌, ℕ, Bool, true, false, cond, List, ◌∷◌, Some, None, Ok, Err, Option, refl, sym, ap, ◌∙◌}
use Rattle.std.proofs.lemmas.Bool.{cond-true, ne_eqb, not_from_false}
use Rattle.graph.specs.Calls.{first_of}
use Rattle.graph.specs.Walks.{least}
use Rattle.words.specs.declared.refusal.ReadRefusal.{ReadRefusal}
use Rattle.words.specs.Reading.{at_first, verdict}

module _ (test : ℕ → Bool) (count : ℕ) (refusal : ℕ → ReadRefusal) (rows : List (Bool × ReadRefusal)) (x : ℕ) (is : x ≡ least test count) where
  pub row_holds : (x ≡ 0 → ⊥) → Err (refusal x) ≡ verdict (first_of (at_first test count refusal ∷ rows))
  row_holds nz =
      ap (λ k. Err (refusal k)) is ∙ sym (ap verdict (cond-true _ _ _ (not_from_false _ (ne_eqb _ _ (λ z. nz (is ∙ z))))))

-- a table whose first row is passed, and one whose first row refuses
pub first_passes : (b : Bool) (x : ReadRefusal) (rest : Option ReadRefusal) → Ok tt ≡ verdict (cond b (Some x) None) → verdict rest ≡ verdict (cond b (Some x) rest)
first_passes true x rest e = cc
first_passes false x rest e = refl

pub first_refuses : (b : Bool) (x y : ReadRefusal) (rest : Option ReadRefusal) → Err y ≡ verdict (cond b (Some x) None) → Err y ≡ verdict (cond b (Some x) rest)
first_refuses true x y rest e = e
first_refuses false x y rest e = cc
