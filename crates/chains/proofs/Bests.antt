-- What the laws of a figure give of the best over all chains.
use Rattle.std.proofs.Common.{◌≡◌, ℕ, zero, suc, ◌+◌, ◌<◌, ◌≤◌, List, [], ◌∷◌, ◌++◌, map, length, get_or, set, fold, sym, refl, ap, ◌∙◌, subst, inl, ⊎_elim, arith}
use Rattle.std.specs.List.{flat_map}
use Rattle.std.proofs.lemmas.List.{map-append, get_or-set_same, get_or-set_other}
use Rattle.std.proofs.lemmas.Bool.{cases_eq}
use Rattle.chains.specs.Lists.{In}
use Rattle.chains.specs.Chains.{Step, successors, place, rests, Ordered}
use Rattle.chains.specs.Figures.{Figure, Laws, value, best_of, best}
use Rattle.chains.specs.declared.message.Message.{Message}
use Rattle.chains.proofs.Lists.{map_same, at_place, in_getD}
use Rattle.chains.proofs.Every.{in_step, rises}

folded_append : {A B : Type 0} (f : B → A → B) (a : B) (xs ys : List A) → fold f a (xs ++ ys) ≡ fold f (fold f a xs) ys
folded_append f a [] ys = refl
folded_append f a (x ∷ xs) ys = folded_append f (f a x) xs ys

-- the blocks from place k of the order on have their best
abbrev pub Done : {V : Type 0} → Figure V → List Message → List ℕ → List V → ℕ → Type 0
Done {V} f ms order out k = (d : V) (b n : ℕ) → k ≤ place order b → place order b < length order → length order ≤ n + place order b + 1 → get_or out b d ≡ best f ms n b

module _ {V : Type 0} (f : Figure V) (laws : Laws f) where
  folded_better : (a x : V) (xs : List V) → f.better a (fold f.better x xs) ≡ fold f.better (f.better a x) xs
  folded_better a x [] = refl
  folded_better a x (y ∷ ys) = folded_better a (f.better x y) ys ∙ ap (λ z. fold f.better z ys) (sym (laws.assoc a x y))

  -- one value more, at the front of the list
  pub folded_more : (a x : V) (xs : List V) → fold f.better a (x ∷ xs) ≡ f.better (fold f.better a xs) x
  folded_more a x xs = ap (λ z. fold f.better z xs) (laws.comm a x) ∙ sym (folded_better x a xs) ∙ laws.comm x (fold f.better a xs)

  folded_extended : (p q : ℕ) (x : V) (xs : List V) → f.extended p q (fold f.better x xs) ≡ fold f.better (f.extended p q x) (map (f.extended p q) xs)
  folded_extended p q x [] = refl
  folded_extended p q x (y ∷ ys) = folded_extended p q (f.better x y) ys ∙ ap (λ z. fold f.better z (map (f.extended p q) ys)) (laws.distributes p q x y)

  -- chains from s, with b put in front of each
  in_front : (b s : ℕ) (rs : List (List ℕ)) → map (value f) (map (λ r. b ∷ r) (map (λ r. s ∷ r) rs)) ≡ map (f.extended b s) (map (value f) (map (λ r. s ∷ r) rs))
  in_front b s [] = refl
  in_front b s (r ∷ rs) = ap (λ vs. f.extended b s (value f (s ∷ r)) ∷ vs) (in_front b s rs)

  through : (a d : V) (b s : ℕ) (r : List ℕ) (rs : List (List ℕ)) →
      fold f.better a (map (value f) (map (λ r. b ∷ r) (map (λ r. s ∷ r) (r ∷ rs)))) ≡ f.better a (f.extended b s (best_of f d (map (value f) (map (λ r. s ∷ r) (r ∷ rs)))))
  through a d b s r rs =
      let v = value f (s ∷ r) in
      let vs = map (value f) (map (λ r. s ∷ r) rs) in
      ap (fold f.better a) (in_front b s (r ∷ rs)) ∙ sym (folded_better a (f.extended b s v) (map (f.extended b s) vs)) ∙ ap (f.better a) (sym (folded_extended b s v vs))

  module _ (ms : List Message) where
    through_rests : (a : V) (b s n : ℕ) → fold f.better a (map (value f) (map (λ r. b ∷ r) (map (λ r. s ∷ r) (rests ms n s)))) ≡ f.better a (f.extended b s (best f ms n s))
    unfolding best
    through_rests a b s zero = through a (f.alone s) b s [] []
    through_rests a b s (suc n) = through a (f.alone s) b s [] (flat_map (λ t. map (λ r. t ∷ r) (rests ms n t)) (successors ms s))

    over : (a : V) (b n : ℕ) (ss : List ℕ) → fold f.better a (map (value f) (map (λ r. b ∷ r) (flat_map (λ s. map (λ r. s ∷ r) (rests ms n s)) ss))) ≡ fold f.better a (map (λ s. f.extended b s (best f ms n s)) ss)
    over a b n [] = refl
    over a b n (s ∷ ss) =
        let xs = map (λ r. s ∷ r) (rests ms n s) in
        let ys = flat_map (λ s. map (λ r. s ∷ r) (rests ms n s)) ss in
        ap (λ l. fold f.better a (map (value f) l)) (map-append (λ r. b ∷ r) xs ys)
        ∙ ap (fold f.better a) (map-append (value f) (map (λ r. b ∷ r) xs) (map (λ r. b ∷ r) ys))
        ∙ folded_append f.better a (map (value f) (map (λ r. b ∷ r) xs)) (map (value f) (map (λ r. b ∷ r) ys))
        ∙ ap (λ z. fold f.better z (map (value f) (map (λ r. b ∷ r) ys))) (through_rests a b s n)
        ∙ over (f.better a (f.extended b s (best f ms n s))) b n ss

    -- the best from b is the better of b alone and of the best from each successor, extended
    pub best_step : (n b : ℕ) → best f ms (suc n) b ≡ fold f.better (f.alone b) (map (λ s. f.extended b s (best f ms n s)) (successors ms b))
    unfolding best
    best_step n b = over (f.alone b) b n (successors ms b)

    best_lone : (b : ℕ) → best f ms 0 b ≡ f.alone b
    unfolding best
    best_lone b = refl

    module _ (order : List ℕ) (ordered : Ordered ms order) where
      -- with what is done, the successors of the block before give its best
      pub next : (out : List V) (d : V) (b n : ℕ) → Done f ms order out (suc (place order b)) → place order b < length order → length order ≤ n + place order b + 1
          → fold f.better (f.alone b) (map (λ s. f.extended b s (get_or out s d)) (successors ms b)) ≡ best f ms n b
      next out d b zero done l h =
          let none : (ss : List ℕ) → ((s : ℕ) → In s ss → Step ms b s) → fold f.better (f.alone b) (map (λ s. f.extended b s (get_or out s d)) ss) ≡ f.alone b =
          λ ss. elim ss as (λ ss. ((s : ℕ) → In s ss → Step ms b s) → fold f.better (f.alone b) (map (λ s. f.extended b s (get_or out s d)) ss) ≡ f.alone b)
          [ [] ↦ λ _. refl | s ∷ rest ↦ λ e. absurd (let r = rises ms order ordered b s (e s (inl refl)) in let r0 : place order b < place order s = r.0 in let r1 : place order s < length order = r.1 in omega arith) ] in
          none (successors ms b) (in_step ms b) ∙ sym (best_lone b)
      next out d b (suc n) done l h =
          ap (fold f.better (f.alone b)) (map_same (λ s. f.extended b s (get_or out s d)) (λ s. f.extended b s (best f ms n s)) (successors ms b)
          (λ s i. let r = rises ms order ordered b s (in_step ms b s i) in
          let r0 : place order b < place order s = r.0 in
          ap (f.extended b s) (done d s n (omega arith) r.1 (omega arith))))
          ∙ sym (best_step n b)

      pub done_more : (out : List V) (k b : ℕ) (v : V) → k < length order → get_or order k 0 ≡ b → length out ≡ 257 → Done f ms order out (k + 1)
          → ((d : V) → v ≡ fold f.better (f.alone b) (map (λ s. f.extended b s (get_or out s d)) (successors ms b)))
          → Done f ms order (set out b v) k
      done_more out k b v l at size done is d c n low has long =
          let here : place order b ≡ k = ap (place order) (sym at) ∙ ordered.once k l in
          let In-order : ℕ → Type 0 = λ x. In x order in
          let most : b ≤ 256 = (ordered.blocks b (subst In-order at (in_getD order k 0 l))).1 in
          let done' : Done f ms order out (suc (place order b)) = λ d c n low has long. done d c n (omega arith) has long in
          ⊎_elim
          (λ (e : c ≡ b). let e' : place order c ≡ place order b = ap (place order) e in
          ap (λ x. get_or (set out b v) x d) e ∙ get_or-set_same out b v d (omega arith) ∙ is d ∙ next out d b n done' (omega arith) (omega arith) ∙ ap (best f ms n) (sym e))
          (λ (ne : c ≡ b → ⊥).
          let other : place order c ≡ k → ⊥ = λ e. ne (sym (at_place order c has) ∙ ap (λ x. get_or order x 0) e ∙ at) in
          let above : k + 1 ≤ place order c = ⊎_elim (λ (e : place order c ≡ k). absurd (other e)) (λ (n : place order c ≡ k → ⊥). omega arith) (cases_eq (place order c) k) in
          get_or-set_other out b c v d ne ∙ done d c n above has long)
          (cases_eq c b)
