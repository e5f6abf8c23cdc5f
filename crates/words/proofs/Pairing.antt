-- The table of the pairs that are linked already.
use Rattle.std.proofs.Common.{◌≡◌, ℕ, zero, suc, Some, None, Option, ◌+◌, ◌-◌, ◌*◌, ◌<◌, ◌≤◌, true, false, ◌≢◌, List, [], ◌∷◌, ◌++◌, length, map, get_or, set, replicate, refl, sym, ap, ◌∙◌, ⊎_elim, arith}
use Rattle.std.proofs.lemmas.List.{get_or-set_same, get_or-set_other, map-set}
use Rattle.std.proofs.lemmas.Bool.{cases_eq, cases_lt, and_from, and_left, and_right, eq-eqb, ne_eqb, cond-true, cond-false}
use Rattle.graph.specs.declared.records.Link.{Link}
use Rattle.graph.specs.Net.{joins, linked}
use Rattle.graph.specs.Walks.{some_number}
use Rattle.graph.proofs.LastOfs.{last_push}
use Rattle.graph.proofs.Walks.{some_is}
use Rattle.words.specs.Lists.{Pairs, entries}

pub pair_read : (T : List (Option ℕ)) (links : List Link) → Pairs T links → (s r : ℕ) → 1 ≤ s → s ≤ 256 → 1 ≤ r → r ≤ 256 → get_or T ((s - 1) * 256 + (r - 1)) None ≡ some_number (linked links s r)
pair_read T links pairs s r s1 s2 r1 r2 =
    let es : s - 1 + 1 ≡ s = omega arith in
    let er : r - 1 + 1 ≡ r = omega arith in
    pairs (s - 1) (r - 1) (omega arith) (omega arith) ∙ ap (λ x. some_number (linked links x (r - 1 + 1))) es ∙ ap (λ x. some_number (linked links s x)) er

pub pairs_more : (T : List (Option ℕ)) (links : List Link) (x : Link) (k : ℕ) → length T ≡ 65536 → Pairs T links → 1 ≤ x.sender → x.sender ≤ 256 → 1 ≤ x.receiver → x.receiver ≤ 256 → k ≡ length links + 1
    → Pairs (set T ((x.sender - 1) * 256 + (x.receiver - 1)) (Some k)) (links ++ x ∷ [])
pairs_more T links x k long pairs s1 s2 r1 r2 e a b la lb =
    let s = x.sender in
    let r = x.receiver in
    let push = last_push (joins (a + 1) (b + 1)) links x in
    ⊎_elim
    (λ (p : a ≡ s - 1). ⊎_elim
    (λ (q : b ≡ r - 1).
    let hit : joins (a + 1) (b + 1) x ≡ true = and_from _ _ (eq-eqb s (a + 1) (omega arith)) (eq-eqb r (b + 1) (omega arith)) in
    let read : get_or (set T ((s - 1) * 256 + (r - 1)) (Some k)) (a * 256 + b) None ≡ Some k = rw (p, q) (get_or-set_same T ((s - 1) * 256 + (r - 1)) (Some k) None (omega arith)) in
    read ∙ some_is k (λ z. omega (arith, e)) ∙ ap some_number (e ∙ sym (push ∙ cond-true _ _ _ hit)))
    (λ (q : b ≡ r - 1 → ⊥). miss (and_right _ _ (ne_eqb r (b + 1) (λ (m : r ≡ b + 1). q (omega arith)))) (λ m. q (omega arith)))
    (cases_eq b (r - 1)))
    (λ (p : a ≡ s - 1 → ⊥).
    miss (and_left _ _ (ne_eqb s (a + 1) (λ (m : s ≡ a + 1). p (omega arith))))
    (λ m. ⊎_elim (λ (l : a < s - 1). omega arith) (λ (l : s - 1 ≤ a). omega arith) (cases_lt a (s - 1))))
    (cases_eq a (s - 1))
  where
    miss : joins (a + 1) (b + 1) x ≡ false → a * 256 + b ≢ (x.sender - 1) * 256 + (x.receiver - 1)
        → get_or (set T ((x.sender - 1) * 256 + (x.receiver - 1)) (Some k)) (a * 256 + b) None ≡ some_number (linked (links ++ x ∷ []) (a + 1) (b + 1))
    miss no_hit ne =
        get_or-set_other T ((x.sender - 1) * 256 + (x.receiver - 1)) (a * 256 + b) (Some k) None ne ∙ pairs a b la lb ∙ ap some_number (sym (last_push (joins (a + 1) (b + 1)) links x ∙ cond-false _ _ _ no_hit))

-- a table of numbers as one of entries: what is put at a place, and one of zeros
pub entry_put : (numbers : List ℕ) (p k : ℕ) → (k ≡ 0 → ⊥) → entries (set numbers p k) ≡ set (entries numbers) p (Some k)
entry_put numbers p k nz = map-set some_number numbers p k ∙ ap (set (entries numbers) p) (sym (some_is k nz))

pub entries_none : (n : ℕ) → entries (replicate n 0) ≡ replicate n None
entries_none zero = refl
entries_none (suc n) = ap (λ xs. None ∷ xs) (entries_none n)
