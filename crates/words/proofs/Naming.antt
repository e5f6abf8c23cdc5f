-- The table of who named each number last.
use Rattle.std.proofs.Common.{◌≡◌, ℕ, suc, ◌+◌, ◌<◌, eqb, List, length, get_or, set, sym, ap, ◌∙◌, ⊎_elim, add-one, arith, length-set}
use Rattle.std.proofs.lemmas.List.{get_or-set_same, get_or-set_other}
use Rattle.std.proofs.lemmas.Bool.{cases_eq, eq-eqb, ne_eqb}
use Rattle.words.specs.Reading.{latest}
use Rattle.words.proofs.Senders.{latest_hit, latest_miss}

module _ (f : ℕ → ℕ) where
  -- the numbers 1 to i have named theirs
  abbrev pub Noted : List ℕ → ℕ → Type 0
  Noted T i = (length T ≡ 1025) × ((k : ℕ) → k < 1025 → get_or T k 0 ≡ latest (λ t. eqb (f t) k) i)

  pub noted_hit : (T : List ℕ) (i m : ℕ) → f (i + 1) ≡ m → m < 1025 → Noted T i → Noted (set T m (i + 1)) (i + 1)
  noted_hit T i m e lt c = (
    length-set T m (i + 1) ∙ c.0,
    λ k l.
        let step = ap (latest (λ t. eqb (f t) k)) (add-one i) in
        let at : f (suc i) ≡ m = ap f (sym (add-one i)) ∙ e in
        ⊎_elim
        (λ (same : k ≡ m).
        let read : get_or (set T m (i + 1)) k 0 ≡ i + 1 = rw same (get_or-set_same T m (i + 1) 0 (omega (arith, c.0))) in
        read ∙ add-one i ∙ sym (latest_hit (λ t. eqb (f t) k) i (eq-eqb _ _ (at ∙ sym same))) ∙ sym step)
        (λ (ne : k ≡ m → ⊥).
        get_or-set_other T m k (i + 1) 0 ne ∙ c.1 k l ∙ sym (latest_miss (λ t. eqb (f t) k) i (ne_eqb _ _ (λ q. ne (sym q ∙ at)))) ∙ sym step)
        (cases_eq k m),
  )
