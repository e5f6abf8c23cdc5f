-- The least of a union, and room for both sides of its order.
use Rattle.std.proofs.Common.{◌≡◌, ℕ, suc, ◌+◌, ◌<◌, ◌≤◌, min, Bool, true, false, cond, List, [], ◌∷◌, ◌++◌, length, get_or, take, drop, filter, fold, sym, refl, ap, ◌∙◌, arith}
use Rattle.std.proofs.lemmas.List.Elements.{filter-append, filter_more}
use Rattle.std.proofs.lemmas.List.{take-append-drop, length-append}
use Rattle.std.proofs.lemmas.Bool.{cond-true}
use Rattle.partition.specs.Joins.{least_among, early, late, order_after}

-- the least is found by folding over what passes
pub least_folded : (p : ℕ → Bool) (l : ℕ) (xs : List ℕ) → fold (λ a x. min a x) l (filter p xs) ≡ least_among p l xs
least_folded p l [] = refl
least_folded p l (x ∷ xs) = step (p x) (λ k. least_folded p k xs)
  where
    step : (b : Bool) → ((k : ℕ) → fold (λ a y. min a y) k (filter p xs) ≡ least_among p k xs)
        → fold (λ a y. min a y) l (cond b (x ∷ filter p xs) (filter p xs)) ≡ least_among p (cond b (min x l) l) xs
    step true rest = let e : min l x ≡ min x l = omega arith in ap (λ k. fold (λ a y. min a y) k (filter p xs)) e ∙ rest (min x l)
    step false rest = rest l

-- one more that passes is kept of a part than of the whole
pub kept_room : (p : ℕ → Bool) (xs : List ℕ) (i : ℕ) → i < length xs → p (get_or xs i 0) ≡ true → length (filter p (take i xs)) < length (filter p xs)
kept_room p xs i lt t =
    let whole : length (filter p (take (i + 1) xs) ++ filter p (drop (i + 1) xs)) ≡ length (filter p xs)
    = ap length (sym (filter-append p (take (i + 1) xs) (drop (i + 1) xs)) ∙ ap (filter p) (take-append-drop (i + 1) xs)) in
    let more : filter p (take (i + 1) xs) ≡ filter p (take i xs) ++ get_or xs i 0 ∷ []
    = filter_more p xs i 0 lt ∙ ap (λ (ys : List ℕ). filter p (take i xs) ++ ys) (cond-true (p (get_or xs i 0)) (get_or xs i 0 ∷ []) [] t) in
    omega (arith, whole, ap length more, length-append (filter p (take (i + 1) xs)) (filter p (drop (i + 1) xs)), length-append (filter p (take i xs)) (get_or xs i 0 ∷ []))

-- both sides and the union have room where the order has
pub sides_fit : (reach : ℕ → ℕ → Bool) (a b number : ℕ) (order : List ℕ) → length (order_after reach a b number order) ≤ 256
    → length (filter (early reach a b) order) + suc (length (filter (late reach a b) order)) ≤ 256
sides_fit reach a b number order h = omega (arith, h, length-append (filter (early reach a b) order) (number ∷ filter (late reach a b) order))
