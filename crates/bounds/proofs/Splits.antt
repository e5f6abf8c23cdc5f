-- Where a row stands in a list of rows.
use Rattle.std.proofs.Common.{◌≡◌, ◌⊎◌, List, [], ◌∷◌, ◌++◌, length, sym, refl, ap, ◌∙◌, inl, inr, ⊎_elim, length-append, arith}
use Rattle.chains.specs.Lists.{In}
use Rattle.schedule.specs.declared.rows.Row.{Row}

-- what stands in a list parts it in two
pub split_at : (y : Row) (rows : List Row) → In y rows → (above : List Row) × (below : List Row) × (rows ≡ above ++ (y ∷ below))
split_at y [] i = absurd i
split_at y (x ∷ rows) (inl e) = ([], rows, ap (λ (z : Row). z ∷ rows) (sym e))
split_at y (x ∷ rows) (inr i) = let t = split_at y rows i in (x ∷ t.0, t.1, ap (λ (l : List Row). x ∷ l) t.2)

pub not_empty : (xs : List Row) (y : Row) (ys : List Row) → [] ≡ xs ++ (y ∷ ys) → ⊥
not_empty xs y ys e = omega (arith, ap length e, length-append xs (y ∷ ys))

-- where a row stands in a list with one more at its end: it is the last, or it stood there before
pub with_last : (rows : List Row) (r : Row) (above below : List Row) (x : Row) → rows ++ (r ∷ []) ≡ above ++ (x ∷ below)
    → ((rows ≡ above) × (r ≡ x)) ⊎ ((less : List Row) × (rows ≡ above ++ (x ∷ less)))
with_last [] r [] below x e = inl (refl, cc)
with_last [] r (a ∷ above) below x e = absurd (not_empty above x below cc)
with_last (q ∷ rows) r [] below x e = let h : q ≡ x = cc in inr (rows, ap (λ (z : Row). z ∷ rows) h)
with_last (q ∷ rows) r (a ∷ above) below x e =
    let h : q ≡ a = cc in
    let tail : rows ++ (r ∷ []) ≡ above ++ (x ∷ below) = cc in
    ⊎_elim
    (λ t. inl (ap (λ (z : Row). z ∷ rows) h ∙ ap (λ (l : List Row). a ∷ l) t.0, t.1))
    (λ t. inr (t.0, ap (λ (z : Row). z ∷ rows) h ∙ ap (λ (l : List Row). a ∷ l) t.1))
    (with_last rows r above below x tail)
