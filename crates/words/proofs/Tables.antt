-- A table that is written place by place.
use Rattle.std.proofs.Common.{◌≡◌, ℕ, zero, suc, ◌+◌, ◌<◌, List, [], ◌∷◌, ◌++◌, length, get_or, drop, set, sym, refl, ap, ◌∙◌, add-one}
use Rattle.std.proofs.lemmas.List.{append_assoc, length_push, drop_more, set_at}
use Rattle.words.specs.Bytes.{table}

pub length_table : (f : ℕ → ℕ) (n : ℕ) → length (table f n) ≡ n
length_table f zero = refl
length_table f (suc n) = length_push (table f n) (f n) ∙ ap (λ k. k + 1) (length_table f n) ∙ add-one n

pub table_more : (f : ℕ → ℕ) (i : ℕ) → table f i ++ f i ∷ [] ≡ table f (i + 1)
table_more f i = sym (ap (table f) (add-one i))

pub table_over : (f : ℕ → ℕ) (d was : List ℕ) (i v : ℕ) → i < length d → was ≡ table f i ++ drop i d → v ≡ f i → set was i v ≡ table f (i + 1) ++ drop (i + 1) d
table_over f d was i v lt w e =
    ap (λ z. set z i v) (w ∙ ap (table f i ++◌) (drop_more d i 0 lt))
    ∙ set_at (table f i) (get_or d i 0) (drop (i + 1) d) v i (length_table f i)
    ∙ ap (λ z. table f i ++ z ∷ drop (i + 1) d) e
    ∙ sym (append_assoc (table f i) (f i ∷ []) (drop (i + 1) d))
    ∙ ap (λ z. z ++ drop (i + 1) d) (table_more f i)
