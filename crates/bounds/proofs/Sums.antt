-- Sums below a bound, sums over part of a list, and lists of the same elements.
use Rattle.std.proofs.Common.{◌≡◌, ℕ, zero, suc, ◌+◌, ◌*◌, ◌<◌, ◌≤◌, ◌⊎◌, List, [], ◌∷◌, length, sym, refl, ap, ◌∙◌, subst, inl, inr, ⊎_elim, arith}
use Rattle.std.proofs.lemmas.Bool.{cases_eq, cases_lt}
use Rattle.chains.specs.Lists.{In, Apart, total, greatest}

-- each element is of one kind, or some is of the other
pub either : {A : Type 0} (P Q : A → Type 0) (xs : List A) → ((x : A) → In x xs → P x ⊎ Q x) → ((x : A) → In x xs → P x) ⊎ ((x : A) × In x xs × Q x)
either P Q [] h = inl (λ x i. absurd i)
either {A} P Q (x ∷ xs) h = ⊎_elim (λ p. ⊎_elim (λ all. inl (λ y i. ⊎_elim (λ e. subst P (sym e) p) (all y) i)) (λ t. inr (t.0, inr t.1, t.2)) (either P Q xs (λ y i. h y (inr i)))) (λ q. inr (x, inl refl, q)) (h x (inl refl))

-- the sum of f over the numbers below n
abbrev pub sum_to : ℕ → (ℕ → ℕ) → ℕ
sum_to zero f = 0
sum_to (suc n) f = f n + sum_to n f

sum_mono : (n : ℕ) (f g : ℕ → ℕ) → ((p : ℕ) → p < n → f p ≤ g p) → sum_to n f ≤ sum_to n g
sum_mono zero f g h = omega arith
sum_mono (suc n) f g h = omega (arith, h n (omega arith), sum_mono n f g (λ p l. h p (omega arith)))

-- one term more by d at most
pub sum_one : (n : ℕ) (f g : ℕ → ℕ) (q d : ℕ) → ((p : ℕ) → (p ≡ q → ⊥) → f p ≤ g p) → f q ≤ g q + d → sum_to n f ≤ sum_to n g + d
sum_one zero f g q d h k = omega arith
sum_one (suc n) f g q d h k =
    ⊎_elim
    (λ (e : n ≡ q). let one : f n ≤ g n + d = subst (λ (x : ℕ). f x ≤ g x + d) (sym e) k in omega (arith, one, sum_mono n f g (λ p l. h p (omega arith))))
    (λ (ne : n ≡ q → ⊥). omega (arith, h n ne, sum_one n f g q d h k)) (cases_eq n q)

-- one term less by d at least
pub sum_one_below : (n : ℕ) (f g : ℕ → ℕ) (q d : ℕ) → q < n → ((p : ℕ) → g p ≤ f p) → g q + d ≤ f q → sum_to n g + d ≤ sum_to n f
sum_one_below zero f g q d l h k = absurd (omega arith)
sum_one_below (suc n) f g q d l h k =
    ⊎_elim
    (λ (e : n ≡ q). let one : g n + d ≤ f n = subst (λ (x : ℕ). g x + d ≤ f x) (sym e) k in omega (arith, one, sum_mono n g f (λ p l. h p)))
    (λ (ne : n ≡ q → ⊥). omega (arith, h n, sum_one_below n f g q d (omega arith) h k)) (cases_eq n q)

pub sum_at_least : (n d : ℕ) (f : ℕ → ℕ) → ((p : ℕ) → p < n → d ≤ f p) → n * d ≤ sum_to n f
sum_at_least zero d f h = omega arith
sum_at_least (suc n) d f h = omega (arith, h n (omega arith), sum_at_least n d f (λ p l. h p (omega arith)))

pub sum_at_most : (n d : ℕ) (f : ℕ → ℕ) → ((p : ℕ) → p < n → f p ≤ d) → sum_to n f ≤ n * d
sum_at_most zero d f h = omega arith
sum_at_most (suc n) d f h = omega (arith, h n (omega arith), sum_at_most n d f (λ p l. h p (omega arith)))

-- some element has the greatest
pub top : {A : Type 0} (f : A → ℕ) (x : A) (xs : List A) → (y : A) × In y (x ∷ xs) × (f y ≡ greatest f (x ∷ xs))
top f x [] = (x, inl refl, omega arith)
top f x (z ∷ xs) =
    let t = top f z xs in
    ⊎_elim
    (λ (l : f x < greatest f (z ∷ xs)). let e : f t.0 ≡ greatest f (z ∷ xs) = t.2 in (t.0, inr t.1, omega arith))
    (λ (l : greatest f (z ∷ xs) ≤ f x). (x, inl refl, omega arith))
    (cases_lt (f x) (greatest f (z ∷ xs)))

-- ys without one x
record Without (x : ℕ) (ys : List ℕ) : Type 0 where
  left : List ℕ
  size : length ys ≡ suc (length left)
  sums : (f : ℕ → ℕ) → total f ys ≡ f x + total f left
  keeps : (z : ℕ) → In z ys → (z ≡ x → ⊥) → In z left

without : (x : ℕ) (ys : List ℕ) → In x ys → Without x ys
without x [] i = absurd i
without x (y ∷ ys) (inl e) = record {
  left = ys;
  size = refl;
  sums = λ f. ap (λ (z : ℕ). f z + total f ys) (sym e);
  keeps = λ z i ne. ⊎_elim (λ (d : z ≡ y). absurd (ne (d ∙ sym e))) (λ j. j) i;
}
without x (y ∷ ys) (inr i) =
    let w = without x ys i in
    record {
      left = y ∷ w.left;
      size = omega (arith, w.size);
      sums = λ f. omega (arith, w.sums f);
      keeps = λ z i ne. ⊎_elim inl (λ j. inr (w.keeps z j ne)) i;
    }

rest_in : (x : ℕ) (xs ys : List ℕ) → Apart (x ∷ xs) → ((z : ℕ) → In z (x ∷ xs) → In z ys) → (w : Without x ys) → (z : ℕ) → In z xs → In z w.left
rest_in x xs ys a h w z i = w.keeps z (h z (inr i)) (λ e. a.0 (subst (λ (y : ℕ). In y xs) e i))

pub total_sub : (f : ℕ → ℕ) (xs ys : List ℕ) → Apart xs → ((z : ℕ) → In z xs → In z ys) → total f xs ≤ total f ys
total_sub f [] ys a h = omega arith
total_sub f (x ∷ xs) ys a h =
    let w = without x ys (h x (inl refl)) in
    omega (arith, w.sums f, total_sub f xs w.left a.1 (rest_in x xs ys a h w))

-- distinct elements of ys, as many as ys has, are all of ys
pub all_there : (xs ys : List ℕ) → Apart xs → ((z : ℕ) → In z xs → In z ys) → length xs ≡ length ys → (y : ℕ) → In y ys → In y xs
all_there [] [] a h e y i = i
all_there [] (z ∷ ys) a h e y i = absurd (omega arith)
all_there (x ∷ xs) ys a h e y i =
    let w = without x ys (h x (inl refl)) in
    ⊎_elim inl (λ (ne : y ≡ x → ⊥). inr (all_there xs w.left a.1 (rest_in x xs ys a h w) (omega (arith, w.size)) y (w.keeps y i ne))) (cases_eq y x)

ones : (xs : List ℕ) → total (λ _. 1) xs ≡ length xs
ones [] = refl
ones (x ∷ xs) = omega (arith, ones xs)

-- two lists of distinct numbers with the same elements are equally long
pub as_many : (xs ys : List ℕ) → Apart xs → Apart ys → ((z : ℕ) → In z xs → In z ys) → ((z : ℕ) → In z ys → In z xs) → length xs ≡ length ys
as_many xs ys a b h k = omega (arith, total_sub (λ _. 1) xs ys a h, total_sub (λ _. 1) ys xs b k, ones xs, ones ys)
