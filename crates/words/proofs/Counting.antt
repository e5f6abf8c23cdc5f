-- Counts of what words name.
use Rattle.std.proofs.Common.{◌≡◌, ℕ, ◌+◌, ◌<◌, ◌≤◌, ◌⊎◌, eqb, List, length, get_or, set, sym, ap, ◌∙◌, subst, ⊎_elim, arith}
use Rattle.std.proofs.lemmas.List.{get_or-set_same, get_or-set_other}
use Rattle.std.proofs.lemmas.Bool.{cases_eq, eq-eqb, ne_eqb}
use Rattle.graph.specs.Tables.{count_below}
use Rattle.graph.proofs.Tables.{count_hit, count_miss}

-- the table after one more count, where there is an entry for it
abbrev pub Bumped : List ℕ → List ℕ → ℕ → Type 0
Bumped T T' m = ((m < 1025) × (T' ≡ set T m (get_or T m 0 + 1))) ⊎ ((1025 ≤ m) × (T' ≡ T))

-- no count rises by more than 1
pub bumped_low : (T T' : List ℕ) (m b : ℕ) → length T ≡ 1025 → Bumped T T' m → ((k : ℕ) → k < 1025 → get_or T k 0 ≤ b) → (k : ℕ) → k < 1025 → get_or T' k 0 ≤ b + 1
bumped_low T T' m b n step low k lt = ⊎_elim
    (λ (h : (m < 1025) × (T' ≡ set T m (get_or T m 0 + 1))).
    let p : get_or T' k 0 ≡ get_or (set T m (get_or T m 0 + 1)) k 0 = ap (λ X. get_or X k 0) h.1 in
    ⊎_elim
    (λ (same : k ≡ m).
    let read : get_or (set T m (get_or T m 0 + 1)) k 0 ≡ get_or T m 0 + 1 = rw same (get_or-set_same T m (get_or T m 0 + 1) 0 (omega arith)) in
    omega (arith, p, low m h.0))
    (λ (ne : k ≡ m → ⊥). omega (arith, p, get_or-set_other T m k (get_or T m 0 + 1) 0 ne, low k lt))
    (cases_eq k m))
    (λ (h : (1025 ≤ m) × (T' ≡ T)). omega (arith, ap (λ X. get_or X k 0) h.1, low k lt))
    step

module _ (f : ℕ → ℕ) (E : List ℕ) where
  -- the counts after the first i
  abbrev pub Counted : List ℕ → ℕ → Type 0
  Counted T i = (length T ≡ 1025) × ((k : ℕ) → k < 1025 → get_or T k 0 ≡ get_or E k 0 + count_below (λ j. eqb (f j) k) i)

  pub counted_none : length E ≡ 1025 → Counted E 0
  counted_none e = (e, λ k l. omega arith)

  pub counted_hit : (T : List ℕ) (i m : ℕ) → f i ≡ m → m < 1025 → Counted T i → Counted (set T m (get_or T m 0 + 1)) (i + 1)
  counted_hit T i m e lt c = (
    let n = lib.ListN.length-set T m (get_or T m 0 + 1) in n ∙ c.0,
    λ k l.
        ⊎_elim
        (λ (same : k ≡ m).
        let read : get_or (set T m (get_or T m 0 + 1)) k 0 ≡ get_or T m 0 + 1 = rw same (get_or-set_same T m (get_or T m 0 + 1) 0 (omega (arith, c.0))) in
        let more = count_hit (λ j. eqb (f j) k) i (eq-eqb _ _ (e ∙ sym same)) in
        let was : get_or T m 0 ≡ get_or E k 0 + count_below (λ j. eqb (f j) k) i = ap (λ x. get_or T x 0) (sym same) ∙ c.1 k l in
        omega arith)
        (λ (ne : k ≡ m → ⊥).
        let read : get_or (set T m (get_or T m 0 + 1)) k 0 ≡ get_or T k 0 = get_or-set_other T m k (get_or T m 0 + 1) 0 ne in
        let more = count_miss (λ j. eqb (f j) k) i (ne_eqb _ _ (λ q. ne (sym q ∙ e))) in
        omega (arith, c.1 k l))
        (cases_eq k m),
  )

  pub counted_miss : (T : List ℕ) (i m : ℕ) → f i ≡ m → 1025 ≤ m → Counted T i → Counted T (i + 1)
  counted_miss T i m e ge c = (
    c.0,
    λ k l.
        let more = count_miss (λ j. eqb (f j) k) i (ne_eqb (f i) k (λ (q : f i ≡ k). omega arith)) in
        omega (arith, c.1 k l),
  )

  pub counted_step : (T T' : List ℕ) (i m : ℕ) → f i ≡ m → Bumped T T' m → Counted T i → Counted T' (i + 1)
  counted_step T T' i m e step c = ⊎_elim
      (λ (h : (m < 1025) × (T' ≡ set T m (get_or T m 0 + 1))). subst (λ X. Counted X (i + 1)) (sym h.1) (counted_hit T i m e h.0 c))
      (λ (h : (1025 ≤ m) × (T' ≡ T)). subst (λ X. Counted X (i + 1)) (sym h.1) (counted_miss T i m e h.0 c))
      step
