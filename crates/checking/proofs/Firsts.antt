-- The first row that a test takes, turn by turn of a loop.
use Rattle.std.proofs.Common.{◌≡◌, ℕ, ◌+◌, ◌<◌, true, false, List, [], ◌∷◌, ◌++◌, length, get_or, take, drop, Some, sym, ap, ◌∙◌, arith}
use Rattle.std.proofs.lemmas.List.{at_drop_more, take_more, length-take-le}
use Rattle.std.proofs.lemmas.Bool.{cond-true, cond-false}
use Rattle.schedule.specs.declared.rows.Row.{Row}
use Rattle.checking.specs.Checking.{Test, first_after}

pub first_here : (takes : Test) (rows : List Row) (i : ℕ) (d : Row) → i < length rows → takes (take i rows) (get_or rows i d) ≡ true
    → first_after takes (take i rows) (drop i rows) ≡ Some (i + 1)
first_here takes rows i d l e =
    at_drop_more (first_after takes (take i rows)) rows i d l
    ∙ cond-true (takes (take i rows) (get_or rows i d)) (Some (length (take i rows) + 1)) (first_after takes (take i rows ++ (get_or rows i d ∷ [])) (drop (i + 1) rows)) e
    ∙ ap (λ n. Some (n + 1)) (length-take-le i rows (omega arith))

pub first_more : (takes : Test) (rows : List Row) (i : ℕ) (d : Row) → i < length rows → takes (take i rows) (get_or rows i d) ≡ false
    → first_after takes (take (i + 1) rows) (drop (i + 1) rows) ≡ first_after takes (take i rows) (drop i rows)
first_more takes rows i d l e =
    ap (λ (above : List Row). first_after takes above (drop (i + 1) rows)) (take_more rows i d l)
    ∙ sym (at_drop_more (first_after takes (take i rows)) rows i d l
    ∙ cond-false (takes (take i rows) (get_or rows i d)) (Some (length (take i rows) + 1)) (first_after takes (take i rows ++ (get_or rows i d ∷ [])) (drop (i + 1) rows)) e)
