-- Joining by a table that tells what leads to what.
use Rattle.std.proofs.Common.{◌≡◌, ℕ, min, Bool, cond, List, [], ◌∷◌, filter, refl, ap, ◌∙◌, inl, inr}
use Rattle.chains.specs.Lists.{In}
use Rattle.chains.proofs.Lists.{map_same}
use Rattle.partition.specs.Joins.{between, least_among, united, joining, early, late, order_after}

least_same : (p q : ℕ → Bool) (l : ℕ) (xs : List ℕ) → ((x : ℕ) → In x xs → p x ≡ q x) → least_among p l xs ≡ least_among q l xs
least_same p q l [] h = refl
least_same p q l (x ∷ xs) h =
    least_same p q (cond (p x) (min x l) l) xs (λ y i. h y (inr i))
    ∙ ap (λ v. least_among q (cond v (min x l) l) xs) (h x (inl refl))

kept_same : (p q : ℕ → Bool) (xs : List ℕ) → ((x : ℕ) → In x xs → p x ≡ q x) → filter p xs ≡ filter q xs
kept_same p q [] h = refl
kept_same p q (x ∷ xs) h =
    ap (λ v. cond v (x ∷ filter p xs) (filter p xs)) (h x (inl refl))
    ∙ ap (λ (ys : List ℕ). cond (q x) (x ∷ ys) ys) (kept_same p q xs (λ y i. h y (inr i)))

module _ (order : List ℕ) (reach other : ℕ → ℕ → Bool) (same : (a b : ℕ) → In a order → reach a b ≡ other a b) (a b : ℕ) (ia : In a order) (ib : In b order) where
  between_same : (y : ℕ) → In y order → between reach a b y ≡ between other a b y
  between_same y i = cc (same a y ia, same y b i, same b y ib, same y a i)

  early_same : (y : ℕ) → In y order → early reach a b y ≡ early other a b y
  early_same y i = cc (between_same y i, same y a i, same y b i)

  late_same : (y : ℕ) → In y order → late reach a b y ≡ late other a b y
  late_same y i = cc (between_same y i, same y a i, same y b i)

  module _ (blocks : List ℕ) (known : (y : ℕ) → In y blocks → In y order) where
    pub number_same : least_among (between reach a b) a blocks ≡ least_among (between other a b) a blocks
    number_same = least_same (between reach a b) (between other a b) a blocks (λ y i. between_same y (known y i))

    pub joining_same : joining reach blocks a b ≡ joining other blocks a b
    joining_same =
        let k = least_among (between reach a b) a blocks in
        map_same (λ x. cond (between reach a b x) k x) (λ x. cond (between other a b x) k x) blocks (λ y i. ap (λ v. cond v k y) (between_same y (known y i)))
        ∙ ap (λ v. united (between other a b) v blocks) number_same

    pub order_same : order_after reach a b (least_among (between reach a b) a blocks) order ≡ order_after other a b (least_among (between other a b) a blocks) order
    order_same =
        let first = kept_same (early reach a b) (early other a b) order early_same in
        let second = kept_same (late reach a b) (late other a b) order late_same in
        cc (first, second, number_same)
