-- Tests that take no row, and what that says of the rows.
use Rattle.std.proofs.Common.{◌≡◌, ◌+◌, Bool, true, false, ◌||◌, List, [], ◌∷◌, ◌++◌, length, Some, None, sym, refl, ◌∙◌, subst, inl, inr, ⊎_elim, arith}
use Rattle.std.proofs.lemmas.Bool.{cases_Bool, cond-true, cond-false, or_from, or_parts}
use Rattle.std.specs.List.{list_any}
use Rattle.chains.specs.Lists.{In}
use Rattle.chains.proofs.Lists.{in_left, in_right, in_append}
use Rattle.schedule.specs.declared.rows.Row.{Row}
use Rattle.checking.specs.Checking.{Test, first_after}
use Rattle.checking.proofs.Somes.{none_passes, all_fail}

-- after the rows above a test takes none of these
abbrev pub Clear : Test → List Row → List Row → Type 0
Clear takes above [] = Unit {0}
Clear takes above (r ∷ rows) = (takes above r ≡ false) × Clear takes (above ++ (r ∷ [])) rows

pub clear_from : (takes : Test) (above rows : List Row) → first_after takes above rows ≡ None → Clear takes above rows
clear_from takes above [] e = tt
clear_from takes above (r ∷ rows) e =
    ⊎_elim
    (λ (t : takes above r ≡ true).
    let z = sym (cond-true (takes above r) (Some (length above + 1)) (first_after takes (above ++ (r ∷ [])) rows) t) ∙ e in absurd (grind (arith, z)))
    (λ (f : takes above r ≡ false).
    (f, clear_from takes (above ++ (r ∷ [])) rows (sym (cond-false (takes above r) (Some (length above + 1)) (first_after takes (above ++ (r ∷ [])) rows) f) ∙ e)))
    (cases_Bool (takes above r))

pub from_clear : (takes : Test) (above rows : List Row) → Clear takes above rows → first_after takes above rows ≡ None
from_clear takes above [] h = refl
from_clear takes above (r ∷ rows) h =
    cond-false (takes above r) (Some (length above + 1)) (first_after takes (above ++ (r ∷ [])) rows) h.0 ∙ from_clear takes (above ++ (r ∷ [])) rows h.1

-- a test of the row alone
pub each_clear : (p : Row → Bool) (above rows : List Row) → Clear (λ ab r. p r) above rows → (r : Row) → In r rows → p r ≡ false
each_clear p above [] h r i = absurd i
each_clear p above (x ∷ rows) h r i =
    ⊎_elim (λ (e : r ≡ x). subst (λ (z : Row). p z ≡ false) (sym e) h.0) (λ j. each_clear p (above ++ (x ∷ [])) rows h.1 r j) i

pub clear_each : (p : Row → Bool) (above rows : List Row) → ((r : Row) → In r rows → p r ≡ false) → Clear (λ ab r. p r) above rows
clear_each p above [] h = tt
clear_each p above (x ∷ rows) h = (h x (inl refl), clear_each p (above ++ (x ∷ [])) rows (λ r i. h r (inr i)))

-- one of two tests
pub first_clear : (p q : Test) (above rows : List Row) → Clear (λ ab r. p ab r || q ab r) above rows → Clear p above rows
first_clear p q above [] h = tt
first_clear p q above (x ∷ rows) h = ((or_parts (p above x) (q above x) h.0).0, first_clear p q (above ++ (x ∷ [])) rows h.1)

pub second_clear : (p q : Test) (above rows : List Row) → Clear (λ ab r. p ab r || q ab r) above rows → Clear q above rows
second_clear p q above [] h = tt
second_clear p q above (x ∷ rows) h = ((or_parts (p above x) (q above x) h.0).1, second_clear p q (above ++ (x ∷ [])) rows h.1)

pub both_clear : (p q : Test) (above rows : List Row) → Clear p above rows → Clear q above rows → Clear (λ ab r. p ab r || q ab r) above rows
both_clear p q above [] h k = tt
both_clear p q above (x ∷ rows) h k = (or_from (p above x) (q above x) h.0 k.0, both_clear p q (above ++ (x ∷ [])) rows h.1 k.1)

-- no row clashes with one below it
abbrev pub Pairwise : (Row → Row → Bool) → List Row → Type 0
Pairwise clash [] = Unit {0}
Pairwise clash (r ∷ rows) = ((y : Row) → In y rows → clash r y ≡ false) × Pairwise clash rows

-- a test whether the row clashes with one above
pub across : (clash : Row → Row → Bool) (above rows : List Row) → Clear (λ ab r. list_any (λ y. clash y r) ab) above rows
    → (y r : Row) → In y above → In r rows → clash y r ≡ false
across clash above [] h y r i j = absurd j
across clash above (x ∷ rows) h y r i j =
    ⊎_elim
    (λ (e : r ≡ x). subst (λ (z : Row). clash y z ≡ false) (sym e) (none_passes (λ (z : Row). clash z x) above h.0 y i))
    (λ k. across clash (above ++ (x ∷ [])) rows h.1 y r (in_left y above (x ∷ []) i) k)
    j

pub pairs_clear : (clash : Row → Row → Bool) (above rows : List Row) → Clear (λ ab r. list_any (λ y. clash y r) ab) above rows → Pairwise clash rows
pairs_clear clash above [] h = tt
pairs_clear clash above (x ∷ rows) h =
    (λ y i. across clash (above ++ (x ∷ [])) rows h.1 x y (in_right x above (x ∷ []) (inl refl)) i, pairs_clear clash (above ++ (x ∷ [])) rows h.1)

pub clear_pairs : (clash : Row → Row → Bool) (above rows : List Row) → ((y r : Row) → In y above → In r rows → clash y r ≡ false) → Pairwise clash rows
    → Clear (λ ab r. list_any (λ y. clash y r) ab) above rows
clear_pairs clash above [] a p = tt
clear_pairs clash above (x ∷ rows) a p = (
  all_fail (λ (y : Row). clash y x) above (λ y i. a y x i (inl refl)),
  clear_pairs clash (above ++ (x ∷ [])) rows
      (λ y r i j. ⊎_elim
      (λ k. a y r k (inr j))
      (λ k. ⊎_elim (λ (e : y ≡ x). subst (λ (z : Row). clash z r ≡ false) (sym e) (p.0 r j)) (λ z. absurd z) k)
      (in_append y above (x ∷ []) i))
      p.1,
)
