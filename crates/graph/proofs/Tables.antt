-- A square table of 256 rows after a write, and counts.
use Rattle.std.proofs.Common.{◌≡◌, ℕ, zero, suc, ◌+◌, ◌-◌, ◌<◌, ◌≤◌, Bool, true, false, ◌&&◌, ◌||◌, List, [], ◌++◌, length, get_or, take, drop, set, Some, None, Option, sym, refl, ap, ◌∙◌, subst, ⊎_elim, add-one, add-zero, zero-add, arith, length-set}
use Rattle.std.proofs.lemmas.List.{get_or-set_same, get_or-set_other, get_or-take, get_or-drop, get_or_append_left, get_or-append_right}
use Rattle.std.proofs.lemmas.List.FromFn.{get_or-range_with_len, length-range_with_len}
use Rattle.std.proofs.lemmas.Bool.{cases_eq, cases_lt}
use Rattle.std.proofs.lemmas.Bool.Decides.{nat_tests}
use Rattle.std.specs.List.{range_with_len, AllWithin, HoldsAt}
use Rattle.std.specs.Option.{MatchOption}
use Rattle.graph.specs.declared.records.Link.{Link}
use Rattle.graph.specs.Net.{no_link, joins, Joined}
use Rattle.graph.specs.Tables.{at, Shows, count_below}
use Rattle.graph.specs.Walks.{through, least, some_number}
use Rattle.graph.proofs.LastOfs.{last_take_more}
use Rattle.graph.proofs.Walks.{some_is, least_here, through_past}

-- 256 rows of 256 places
pub record Square (rows : List (List Bool)) : Type 0 where
  pub tall : length rows ≡ 256
  pub wide : (a : ℕ) → a < 256 → length (get_or rows a []) ≡ 256

module _ (rows : List (List Bool)) (square : Square rows) (x y : ℕ) (xs : x < 256) (ys : y < 256) (v : Bool) where
  at_set_same : at (set rows x (set (get_or rows x []) y v)) x y ≡ v
  at_set_same = let wide = square.wide x xs in grind (arith, get_or-set_same)

  at_set_other : (a b : ℕ) → ((a ≡ x) × (b ≡ y) → ⊥) → at (set rows x (set (get_or rows x []) y v)) a b ≡ at rows a b
  at_set_other a b ne = let tall = square.tall in let wide = square.wide x xs in grind (arith, get_or-set_same, get_or-set_other, cases_eq a x, cases_eq b y)

  pub square_set : Square (set rows x (set (get_or rows x []) y v))
  square_set = record {
    tall = length-set rows x _ ∙ square.tall;
    wide = λ a l. let there = square.wide x xs in let here = square.wide a l in grind (arith, get_or-set_same, get_or-set_other, length-set, cases_eq a x);
  }

-- the table of one link more
module _ (links : List Link) (i : ℕ) (h : i < length links) (rows : List (List Bool)) (square : Square rows) (shows : Shows rows (through (take i links) 0))
    (s r : ℕ) (si : (get_or links i no_link).sender ≡ s) (ri : (get_or links i no_link).receiver ≡ r) (s1 : 1 ≤ s) (s2 : s ≤ 256) (r1 : 1 ≤ r) (r2 : r ≤ 256) where
  pub direct_more : Shows (set rows (s - 1) (set (get_or rows (s - 1) []) (r - 1) true)) (through (take (i + 1) links) 0)
  direct_more a b la lb =
      let new = last_take_more (joins (a + 1) (b + 1)) links i no_link h in
      let old = shows a b la lb in
      let same = at_set_same rows square (s - 1) (r - 1) (omega arith) (omega arith) true in
      let other = at_set_other rows square (s - 1) (r - 1) (omega arith) (omega arith) true a b in
      grind (arith, nat_tests, cases_eq a (s - 1), cases_eq b (r - 1))

-- the rows below i have let one task through, and the others are as they were
pub record Passing (E T : List (List Bool)) (via i : ℕ) : Type 0 where
  pub tall : length T ≡ length E
  pub done : (a b : ℕ) → a < i → b < 256 → at T a b ≡ (at E a b || (at E a via && at E via b))
  pub left : (a : ℕ) → i ≤ a → get_or T a [] ≡ get_or E a []

pub pass_more : (E T : List (List Bool)) (via i : ℕ) (row : List Bool) → i < length E → Passing E T via i
    → ((b : ℕ) → b < 256 → get_or row b false ≡ (at E i b || (at E i via && at E via b))) → Passing E (set T i row) via (i + 1)
pass_more E T via i row il p new = record {
  tall = length-set T i row ∙ p.tall;
  done = λ a b la lb. let here = new b lb in let before = p.done a b in grind (arith, get_or-set_same, get_or-set_other, cases_eq a i);
  left = λ a l. let after = p.left a in grind (arith, get_or-set_other);
}

-- the table after one more task was let through
pub shows_more : (links : List Link) (k : ℕ) (rows rows' : List (List Bool)) → k < 256 → Shows rows (through links k)
    → ((a b : ℕ) → a < 256 → b < 256 → at rows' a b ≡ (at rows a b || (at rows a k && at rows k b))) → Shows rows' (through links (k + 1))
shows_more links k rows rows' l shows passes a b la lb =
    let here = passes a b la lb in
    let straight = shows a b la lb in
    let before = shows a k la l in
    let after = shows k b l lb in
    rw (add-one k) (cc (add-one k))

-- the table whose first rows have let one more task through, where links join only the tasks of these rows
pub shows_front : (links : List Link) (n k : ℕ) (E T : List (List Bool)) → n ≤ 256 → Joined n links → k < n → length E ≡ 256 → length T ≡ n → Shows E (through links k)
    → ((a b : ℕ) → a < n → b < 256 → at T a b ≡ (at (take n E) a b || (at (take n E) a k && at (take n E) k b))) → Shows (T ++ drop n E) (through links (k + 1))
shows_front links n k E T few joined kn tall long shows passes =
    shows_more links k E (T ++ drop n E) (omega arith) shows (λ a b la lb.
    let via : get_or (take n E) k [] ≡ get_or E k [] = get_or-take n E k [] kn in
    ⊎_elim
    (λ (l : a < n).
    let here : get_or (take n E) a [] ≡ get_or E a [] = get_or-take n E a [] l in
    let new : get_or (T ++ drop n E) a [] ≡ get_or T a [] = get_or_append_left T (drop n E) [] a (omega arith) in
    let front = passes a b l lb in
    cc)
    (λ (g : n ≤ a).
    let back : n + (a - n) ≡ a = omega arith in
    let old : get_or (T ++ drop n E) a [] ≡ get_or E a [] = get_or-append_right T (drop n E) n a [] long g ∙ get_or-drop n E (a - n) [] ∙ ap (λ i. get_or E i []) back in
    let none : at E a k ≡ false = shows a k la (omega arith) ∙ through_past links n joined k (a + 1) (k + 1) (omega arith) in
    grind (arith))
    (cases_lt a n))

-- where none passes, there is no least
least_zero : (p : ℕ → Bool) (n : ℕ) → ((j : ℕ) → j < n → p (j + 1) ≡ false) → least p n ≡ 0
least_zero p zero h = refl
least_zero p (suc n) h =
    let ih = least_zero p n (λ j l. h j (omega arith)) in
    let here = rw add-one at (h n (omega arith)) in
    grind (arith, nat_tests)

-- of two tests, where the first passes only what the second does, and once less
pub count_le : (p q : ℕ → Bool) (n : ℕ) → ((k : ℕ) → k < n → p k ≡ true → q k ≡ true) → count_below p n ≤ count_below q n
count_le p q zero h = omega arith
count_le p q (suc n) h =
    let here = h n (omega arith) in
    let ih : count_below p n ≤ count_below q n = count_le p q n (λ k l. h k (omega arith)) in
    grind (arith, nat_tests)

pub count_lt : (p q : ℕ → Bool) (n j : ℕ) → ((k : ℕ) → k < n → p k ≡ true → q k ≡ true) → j < n → p j ≡ false → q j ≡ true → count_below p n < count_below q n
count_lt p q zero j h l miss hit = absurd (omega arith)
count_lt p q (suc n) j h l miss hit =
    let here = h n (omega arith) in
    let le = count_le p q n (λ k l. h k (omega arith)) in
    ⊎_elim
    (λ (e : j ≡ n). let m = rw e at miss in let y = rw e at hit in grind (arith, nat_tests))
    (λ (ne : j ≡ n → ⊥). let ih : count_below p n < count_below q n = count_lt p q n j (λ k l. h k (omega arith)) (omega arith) miss hit in grind (arith, nat_tests))
    (cases_eq j n)

pub count_bound : (p : ℕ → Bool) (n : ℕ) → count_below p n ≤ n
count_bound p zero = omega arith
count_bound p (suc n) = let ih = count_bound p n in grind (arith, nat_tests)

-- one number more
pub count_hit : (p : ℕ → Bool) (n : ℕ) → p n ≡ true → count_below p (n + 1) ≡ count_below p n + 1
count_hit p n y = ap (count_below p) (add-one n) ∙ grind (arith, nat_tests)

pub count_miss : (p : ℕ → Bool) (n : ℕ) → p n ≡ false → count_below p (n + 1) ≡ count_below p n
count_miss p n y = ap (count_below p) (add-one n) ∙ grind (arith, nat_tests)

-- what passes first stays the least
pub least_far : (p : ℕ → Bool) (n k : ℕ) → (least p n ≡ 0 → ⊥) → least p (n + k) ≡ least p n
least_far p n zero nz = rw add-zero refl
least_far p n (suc k) nz =
    let ih = least_far p n k nz in
    let e : n + suc k ≡ suc (n + k) = omega arith in
    ap (least p) e ∙ grind (arith, nat_tests)

-- what a search from the front finds is the least
pub least_found : (f p : ℕ → Bool) (n : ℕ) (r s : Option ℕ) → ((t : ℕ) → t < n → f t ≡ p (t + 1))
    → MatchOption r (AllWithin (λ t. f t ≡ false) (range_with_len 0 n) 0 (length (range_with_len 0 n)))
    (λ x. (f x ≡ true) × (i : ℕ) × (i < length (range_with_len 0 n)) × HoldsAt (λ y. y ≡ x) (range_with_len 0 n) i × AllWithin (λ t. f t ≡ false) (range_with_len 0 n) 0 i)
    → MatchOption r (s ≡ None) (λ x. s ≡ Some (x + 1)) → s ≡ some_number (least p n)
least_found f p n None s same none e =
    let long : length (range_with_len 0 n) ≡ n = length-range_with_len 0 n in
    let zero_is : least p n ≡ 0 = least_zero p n (λ j l. sym (same j l) ∙ subst (λ t. f t ≡ false) (get_or-range_with_len 0 n j 0 l ∙ zero-add j) (none j 0 (omega arith) (omega arith))) in
    e ∙ sym (ap some_number zero_is)
least_found f p n (Some x) s same found e =
    let long : length (range_with_len 0 n) ≡ n = length-range_with_len 0 n in
    let i = found.1 in
    let il : i < n = omega (arith, found.2) in
    let is : i ≡ x = sym (get_or-range_with_len 0 n i 0 il ∙ zero-add i) ∙ found.3 0 in
    let before : least p x ≡ 0 =
    least_zero p x (λ j l. sym (same j (omega arith)) ∙ subst (λ t. f t ≡ false) (get_or-range_with_len 0 n j 0 (omega arith) ∙ zero-add j) (found.4 j 0 (omega arith) (omega arith))) in
    let here : least p (suc x) ≡ suc x = least_here p x before (ap p (sym (add-one x)) ∙ sym (same x (omega arith)) ∙ found.0) in
    let far : suc x + (n - suc x) ≡ n = omega arith in
    let whole : least p n ≡ suc x = ap (least p) (sym far) ∙ least_far p (suc x) (n - suc x) (λ z. omega (arith, here)) ∙ here in
    e ∙ ap Some (add-one x) ∙ some_is (suc x) (omega arith) ∙ sym (ap some_number whole)
