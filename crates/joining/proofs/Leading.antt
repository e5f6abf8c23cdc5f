-- Whether one block leads to another is whether some chain from the one contains the other.
use Rattle.std.proofs.Common.{◌≡◌, ℕ, Bool, true, false, List, [], ◌∷◌, length, Decides, sym, refl, ap, ◌∙◌, subst, inl, inr, ⊎_elim}
use Rattle.std.proofs.lemmas.Bool.{both_ways, cases_Bool, or_cases, or_left, or_right}
use Rattle.chains.specs.declared.message.Message.{Message}
use Rattle.chains.specs.Chains.{Enumerates, Ordered, chains, has}
use Rattle.chains.specs.Lists.{In}
use Rattle.chains.specs.Reach.{Reaches, RowsAtEach}
use Rattle.chains.proofs.Every.{enumerates}
use Rattle.chains.proofs.Lists.{has_in, in_has}
use Rattle.partition.specs.Blocks.{block_list}
use Rattle.partition.specs.Views.{Listed, Numbered}
use Rattle.partition.specs.declared.partition.Partition.{Partition}
use Rattle.partition.proofs.Counting.{counted}
use Rattle.partition.specs.Joins.{any, leads}
use Rattle.joining.specs.Tables.{TellsReach}

any_found : {X : Type 0} (p : X → Bool) (xs : List X) → any p xs ≡ true → (x : X) × In x xs × (p x ≡ true)
any_found p [] t = absurd (both_ways false refl t)
any_found p (x ∷ xs) t =
    ⊎_elim (λ y. (x, inl refl, y)) (λ y. let r = any_found p xs y in (r.0, inr r.1, r.2)) (or_cases (p x) (any p xs) t)

any_from : {X : Type 0} (p : X → Bool) (xs : List X) (x : X) → In x xs → p x ≡ true → any p xs ≡ true
any_from p [] x i t = absurd i
any_from p (y ∷ xs) x i t =
    ⊎_elim (λ (e : x ≡ y). or_left (p y) (any p xs) (subst (λ k. p k ≡ true) e t)) (λ j. or_right (p y) (any p xs) (any_from p xs x j t)) i

pub leads_decides : (ms : List Message) (n a b : ℕ) → Enumerates ms n a → Decides (leads ms n a b) (Reaches ms a b)
leads_decides ms n a b all = (
  λ t. let r = any_found (has b) (chains ms n a) t in
      record { chain = r.0; begins = all.only r.0 r.1; contains = has_in b r.0 r.2 },
  λ r. any_from (has b) (chains ms n a) r.chain (all.every r.chain r.begins) (in_has b r.chain r.contains),
)

-- two answers to one question are the same
pub same_answer : (x y : Bool) {P : Type 0} → Decides x P → Decides y P → x ≡ y
same_answer x y d e =
    ⊎_elim
    (λ (t : x ≡ true). t ∙ sym (e.1 (d.0 t)))
    (λ (f : x ≡ false). f ∙ sym (⊎_elim (λ (t : y ≡ true). absurd (both_ways x f (d.1 (e.0 t)))) (λ (g : y ≡ false). g) (cases_Bool y)))
    (cases_Bool x)

-- what the run over the order leaves tells what leads to what
pub rows_tell : (ms : List Message) (order : List ℕ) → Ordered ms order → (before after : List (List Bool)) → RowsAtEach ms order before after → TellsReach ms (length order) order after
rows_tell ms order o before after r a b i = same_answer _ _ (r.found a b i) (leads_decides ms (length order) a b (enumerates ms order o a i))

-- a partition's order has as many places as there are blocks
pub order_counted : (p : Partition) → length (block_list p.blocks.now) ≡ length p.order.now
order_counted p =
    counted p.blocks.now p.order.now p.once
    (subst (λ n. Listed n p.blocks.now p.order.now) (sym p.all) p.listed)
    (subst (λ n. Numbered n p.blocks.now p.order.now) (sym p.all) p.numbered)

pub tells_as : (ms other : List Message) (n k : ℕ) (order : List ℕ) (rows : List (List Bool)) → ms ≡ other → n ≡ k → TellsReach ms n order rows → TellsReach other k order rows
tells_as ms other n k order rows e f t a b i = t a b i ∙ ap (λ (xs : List Message). leads xs n a b) e ∙ ap (λ x. leads other x a b) f
