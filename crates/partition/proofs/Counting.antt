-- The list of all blocks, and how many there are.
use Rattle.std.proofs.Common.{◌≡◌, ℕ, zero, suc, ◌+◌, ◌<◌, ◌≤◌, Bool, true, false, cond, not, eqb, List, [], ◌∷◌, length, filter, sym, refl, ap, subst, inl, inr, ⊎_elim, arith}
use Rattle.std.proofs.lemmas.Bool.{cases_eq, eq-eqb, ne_eqb, eqb-true, cond-true, cond-false}
use Rattle.chains.specs.Chains.{place, Once}
use Rattle.chains.specs.Lists.{In, Apart, total}
use Rattle.chains.proofs.Lists.{in_left, in_right, in_append, apart_append, once_apart, place_in}
use Rattle.partition.specs.Blocks.{block_of, blocks_among, block_list}
use Rattle.partition.specs.Views.{Listed, Numbered}
use Rattle.partition.proofs.Places.{in_kept}

abbrev one : List ℕ → ℕ → List ℕ
one blocks b = cond (eqb (block_of blocks b) b) (b ∷ []) []

of_one : (blocks : List ℕ) (b x : ℕ) → In x (one blocks b) → (x ≡ b) × (block_of blocks b ≡ b)
of_one blocks b x i =
    let P : Bool → Type 0 = λ t. eqb (block_of blocks b) b ≡ t → In x (cond t (b ∷ []) []) → (x ≡ b) × (block_of blocks b ≡ b) in
    let both : P (eqb (block_of blocks b) b) = elim (eqb (block_of blocks b) b) as P [
      | true ↦ λ e j. (⊎_elim (λ (q : x ≡ b). q) (λ k. absurd k) j, eqb-true (block_of blocks b) b e)
      | false ↦ λ e j. absurd j
    ] in
    both refl i

pub of_among : (blocks : List ℕ) (n x : ℕ) → In x (blocks_among blocks n) → (1 ≤ x) × (x ≤ n) × (block_of blocks x ≡ x)
of_among blocks zero x i = absurd i
of_among blocks (suc n) x i =
    ⊎_elim
    (λ j. let r = of_among blocks n x j in (r.0, omega (arith, r.1), r.2))
    (λ j. let r = of_one blocks (suc n) x j in
    (omega (arith, r.0), omega (arith, r.0), subst (λ k. block_of blocks k ≡ k) (sym r.0) r.1))
    (in_append x (blocks_among blocks n) (one blocks (suc n)) i)

pub in_among : (blocks : List ℕ) (n x : ℕ) → 1 ≤ x → x ≤ n → block_of blocks x ≡ x → In x (blocks_among blocks n)
in_among blocks zero x lo hi e = absurd (omega (arith, lo, hi))
in_among blocks (suc n) x lo hi e =
    ⊎_elim
    (λ (q : x ≡ suc n). in_right x (blocks_among blocks n) (one blocks (suc n))
    (subst (λ (ys : List ℕ). In x ys) (sym (cond-true (eqb (block_of blocks (suc n)) (suc n)) (suc n ∷ []) [] (eq-eqb (block_of blocks (suc n)) (suc n) (subst (λ k. block_of blocks k ≡ k) q e)))) (inl q)))
    (λ (ne : x ≡ suc n → ⊥). in_left x (blocks_among blocks n) (one blocks (suc n)) (in_among blocks n x lo (omega (arith, hi, ne)) e))
    (cases_eq x (suc n))

apart_one : (t : Bool) (b : ℕ) → Apart (cond t (b ∷ []) [])
apart_one true b = (λ i. i, tt)
apart_one false b = tt

pub apart_among : (blocks : List ℕ) (n : ℕ) → Apart (blocks_among blocks n)
apart_among blocks zero = tt
apart_among blocks (suc n) =
    apart_append (blocks_among blocks n) (one blocks (suc n)) (apart_among blocks n) (apart_one (eqb (block_of blocks (suc n)) (suc n)) (suc n))
    (λ x i j. omega (arith, (of_among blocks n x i).1, (of_one blocks (suc n) x j).0))

-- what a test keeps sums to no more
kept_le : (f : ℕ → ℕ) (p : ℕ → Bool) (ys : List ℕ) → total f (filter p ys) ≤ total f ys
kept_le f p [] = omega arith
kept_le f p (y ∷ ys) =
    let ih = kept_le f p ys in
    elim (p y) as (λ t. total f (cond t (y ∷ filter p ys) (filter p ys)) ≤ f y + total f ys) [ true ↦ omega (arith, ih) | false ↦ omega (arith, ih) ]

-- a test that one of a list does not pass keeps less
kept_less : (f : ℕ → ℕ) (p : ℕ → Bool) (ys : List ℕ) (x : ℕ) → In x ys → p x ≡ false → f x + total f (filter p ys) ≤ total f ys
kept_less f p [] x i out = absurd i
kept_less f p (y ∷ ys) x i out =
    ⊎_elim
    (λ (e : x ≡ y). omega (arith, ap (total f) (cond-false (p y) (y ∷ filter p ys) (filter p ys) (subst (λ k. p k ≡ false) e out)), ap f e, kept_le f p ys))
    (λ j. let ih = kept_less f p ys x j out in
    elim (p y) as (λ t. f x + total f (cond t (y ∷ filter p ys) (filter p ys)) ≤ f y + total f ys) [ true ↦ omega (arith, ih) | false ↦ omega (arith, ih) ])
    i

-- a list without repeats sums to no more than one that has all of it
no_more : (f : ℕ → ℕ) (xs ys : List ℕ) → Apart xs → ((x : ℕ) → In x xs → In x ys) → total f xs ≤ total f ys
no_more f [] ys a sub = omega arith
no_more f (x ∷ xs) ys a sub =
    let p : ℕ → Bool = λ y. not (eqb y x) in
    let self : p x ≡ false = ap not (eq-eqb x x refl) in
    let rest = no_more f xs (filter p ys) a.1 (λ y i. in_kept p ys y (sub y (inr i)) (ap not (ne_eqb y x (λ e. a.0 (subst (λ k. In k xs) e i))))) in
    omega (arith, rest, kept_less f p ys x (sub x (inl refl)) self)

ones : (xs : List ℕ) → length xs ≡ total (λ (x : ℕ). 1) xs
ones [] = refl
ones (x ∷ xs) = omega (arith, ones xs)

-- and is no longer
pub no_longer : (xs ys : List ℕ) → Apart xs → ((x : ℕ) → In x xs → In x ys) → length xs ≤ length ys
no_longer xs ys a sub = omega (arith, no_more (λ _. 1) xs ys a sub, ones xs, ones ys)

-- a processing order has each block once, and nothing else
module _ (blocks order : List ℕ) (once : Once order) (listed : Listed (length blocks) blocks order) (numbered : Numbered (length blocks) blocks order) where
  pub to_order : (x : ℕ) → In x (block_list blocks) → In x order
  to_order x i = let r = of_among blocks (length blocks) x i in place_in order x (subst (λ k. place order k < length order) r.2 (listed x r.0 r.1))

  pub of_order : (x : ℕ) → In x order → In x (block_list blocks)
  of_order x i = let r = numbered x i in in_among blocks (length blocks) x r.0 r.1 r.2

  pub order_total : (f : ℕ → ℕ) → total f order ≡ total f (block_list blocks)
  order_total f =
      omega (arith, no_more f order (block_list blocks) (once_apart order once) of_order, no_more f (block_list blocks) order (apart_among blocks (length blocks)) to_order)

  -- it has as many places as there are blocks
  pub counted : length (block_list blocks) ≡ length order
  counted = omega (arith, ones order, ones (block_list blocks), order_total (λ _. 1))
