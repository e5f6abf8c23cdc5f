-- The order of blocks that a lawful order gives, and of rows by start and then by block, has no circles.
use Rattle.std.proofs.Common.{◌≡◌, ℕ, ◌<◌, Bool, true, ◌&&◌, eqb, ltb, ◌⊎◌, sym, refl, ap, ◌∙◌, inl, inr, ⊎_elim, arith}
use Rattle.std.proofs.lemmas.Bool.{false≢true, or_cases, or_left, or_right, and_parts, and_from, ltb-true, lt-ltb, eqb-true, eq-eqb}
use Rattle.schedule.specs.declared.rows.Row.{Row}
use Rattle.schedule.specs.declared.priority.Standing.{Standing}
use Rattle.schedule.specs.declared.priority.Rank.{Rank}
use Rattle.schedule.specs.declared.priority.Rank.TheVariants.{Ahead, Even, Behind}
use Rattle.schedule.specs.Orders.{Order, Lawful, is_ahead, is_even, reversed, no_worse, earlier}
use Rattle.schedule.specs.Placing.{comes_before}

-- nothing is before itself, and before is transitive
pub record Strict (e : ℕ → ℕ → Bool) : Type 0 where
  pub never : (a : ℕ) → e a a ≡ true → ⊥
  pub through : (a b c : ℕ) → e a b ≡ true → e b c ≡ true → e a c ≡ true

ahead_is : (r : Rank) → is_ahead r ≡ true → r ≡ Ahead
ahead_is Ahead h = refl
ahead_is Even h = absurd (false≢true h)
ahead_is Behind h = absurd (false≢true h)

even_is : (r : Rank) → is_even r ≡ true → r ≡ Even
even_is Ahead h = absurd (false≢true h)
even_is Even h = refl
even_is Behind h = absurd (false≢true h)

no_worse_is : (r : Rank) → no_worse r ≡ true → (r ≡ Ahead) ⊎ (r ≡ Even)
no_worse_is Ahead h = inl refl
no_worse_is Even h = inr refl
no_worse_is Behind h = absurd (false≢true h)

abbrev Earlier : Order → (ℕ → Standing) → ℕ → ℕ → Type 0
Earlier o st a b = (o (st a) (st b) ≡ Ahead) ⊎ ((o (st a) (st b) ≡ Even) × (a < b))

module _ (o : Order) (law : Lawful o) (st : ℕ → Standing) where
  to_earlier : (a b : ℕ) → earlier o st a b ≡ true → Earlier o st a b
  to_earlier a b h =
      ⊎_elim
      (λ t. inl (ahead_is (o (st a) (st b)) t))
      (λ t. let p = and_parts (is_even (o (st a) (st b))) (ltb a b) t in inr (even_is (o (st a) (st b)) p.0, ltb-true a b p.1))
      (or_cases (is_ahead (o (st a) (st b))) (is_even (o (st a) (st b)) && ltb a b) h)

  of_earlier : (a b : ℕ) → Earlier o st a b → earlier o st a b ≡ true
  of_earlier a b (inl h) = or_left (is_ahead (o (st a) (st b))) (is_even (o (st a) (st b)) && ltb a b) (ap is_ahead h)
  of_earlier a b (inr h) =
      or_right (is_ahead (o (st a) (st b))) (is_even (o (st a) (st b)) && ltb a b) (and_from (is_even (o (st a) (st b))) (ltb a b) (ap is_even h.0) (lt-ltb a b h.1))

  fine : (a b : ℕ) → Earlier o st a b → no_worse (o (st a) (st b)) ≡ true
  fine a b (inl h) = ap no_worse h
  fine a b (inr h) = ap no_worse h.0

  -- what is ahead is not behind
  clash : (x y : Standing) → o x y ≡ Ahead → no_worse (o y x) ≡ true → ⊥
  clash x y h k = false≢true (sym (ap no_worse (law.exchange x y ∙ ap reversed h)) ∙ k)

  back : (x y : Standing) → o x y ≡ Even → no_worse (o y x) ≡ true
  back x y h = ap no_worse (law.exchange x y ∙ ap reversed h)

  through_ranks : (a b c : ℕ) → Earlier o st a b → Earlier o st b c → Earlier o st a c
  through_ranks a b c h k =
      let ab = fine a b h in
      let bc = fine b c k in
      ⊎_elim inl
      (λ (v : o (st a) (st c) ≡ Even).
      let ca = back (st a) (st c) v in
      ⊎_elim (λ (u : o (st a) (st b) ≡ Ahead). absurd (clash (st a) (st b) u (law.transitive (st b) (st c) (st a) bc ca)))
      (λ s. ⊎_elim (λ (u : o (st b) (st c) ≡ Ahead). absurd (clash (st b) (st c) u (law.transitive (st c) (st a) (st b) ca ab)))
      (λ t. let s1 : a < b = s.1 in let t1 : b < c = t.1 in inr (v, omega arith)) k) h)
      (no_worse_is (o (st a) (st c)) (law.transitive (st a) (st b) (st c) ab bc))

  pub strict : Strict (earlier o st)
  strict = record {
    never = λ a h. ⊎_elim (λ (u : o (st a) (st a) ≡ Ahead). clash (st a) (st a) u (ap no_worse u)) (λ t. let l : a < a = t.1 in omega arith) (to_earlier a a h);
    through = λ a b c h k. of_earlier a c (through_ranks a b c (to_earlier a b h) (to_earlier b c k));
  }

-- a row starts sooner, or at the same time with a block that is earlier
abbrev pub Before : (ℕ → ℕ → Bool) → Row → Row → Type 0
Before e x y = (x.start < y.start) ⊎ ((x.start ≡ y.start) × (e x.block y.block ≡ true))

pub to_before : (e : ℕ → ℕ → Bool) (x y : Row) → comes_before e x y ≡ true → Before e x y
to_before e x y h =
    ⊎_elim (λ t. inl (ltb-true x.start y.start t))
    (λ t. let p = and_parts (eqb x.start y.start) (e x.block y.block) t in inr (eqb-true x.start y.start p.0, p.1))
    (or_cases (ltb x.start y.start) (eqb x.start y.start && e x.block y.block) h)

pub of_before : (e : ℕ → ℕ → Bool) (x y : Row) → Before e x y → comes_before e x y ≡ true
of_before e x y (inl h) = or_left (ltb x.start y.start) (eqb x.start y.start && e x.block y.block) (lt-ltb x.start y.start h)
of_before e x y (inr h) =
    or_right (ltb x.start y.start) (eqb x.start y.start && e x.block y.block)
    (and_from (eqb x.start y.start) (e x.block y.block) (eq-eqb x.start y.start h.0) h.1)

pub never_before : (e : ℕ → ℕ → Bool) → Strict e → (x : Row) → Before e x x → ⊥
never_before e s x (inl h) = omega arith
never_before e s x (inr h) = s.never x.block h.1

pub before_through : (e : ℕ → ℕ → Bool) → Strict e → (x y z : Row) → Before e x y → Before e y z → Before e x z
before_through e s x y z (inl h) (inl k) = inl (omega arith)
before_through e s x y z (inl h) (inr k) = let d : y.start ≡ z.start = k.0 in inl (omega arith)
before_through e s x y z (inr h) (inl k) = let d : x.start ≡ y.start = h.0 in inl (omega arith)
before_through e s x y z (inr h) (inr k) = inr (h.0 ∙ k.0, s.through x.block y.block z.block h.1 k.1)
