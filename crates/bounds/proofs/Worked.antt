-- The four blocks meet what the theorems ask for.
use Rattle.std.proofs.Common.{◌≡◌, ℕ, ◌<◌, ◌≤◌, false, List, [], ◌∷◌, length, sym, refl, subst, inl, inr, ⊎_elim, lit<, lit≤}
use Rattle.std.proofs.lemmas.Bool.{both_ways}
use Rattle.chains.specs.declared.message.Message.{Message}
use Rattle.chains.specs.Chains.{place, has, Ordered}
use Rattle.chains.specs.Lists.{In, Apart}
use Rattle.chains.proofs.Lists.{in_has, apart_once}
use Rattle.machine.specs.Model.{Model}
use Rattle.schedule.specs.Problems.{Sound}
use Rattle.schedule.specs.Orders.{Lawful, by_number, earlier}
use Rattle.schedule.specs.Valid.{silent}
use Rattle.schedule.specs.Examples.{four_blocks, four_standings, two_processors}
use Rattle.bounds.specs.Problems.{Processed}
use Rattle.bounds.specs.Examples.{by_numbers, FourBlocksAreNear}
use Rattle.bounds.proofs.Placed.{placing_chooses}
use Rattle.bounds.proofs.Valid.{chosen_valid}

-- what holds of every element, one by one
abbrev All : {A : Type 0} → (A → Type 0) → List A → Type 0
All P [] = Unit {0}
All P (x ∷ xs) = P x × All P xs

each : {A : Type 0} (P : A → Type 0) (xs : List A) → All P xs → (x : A) → In x xs → P x
each P [] h x i = absurd i
each P (y ∷ xs) h x i = ⊎_elim (λ e. subst P (sym e) h.0) (each P xs h.1 x) i

abbrev four : List ℕ
four = 1 ∷ 2 ∷ 3 ∷ 4 ∷ []

out : (x : ℕ) (xs : List ℕ) → has x xs ≡ false → In x xs → ⊥
out x xs h i = both_ways (has x xs) h (in_has x xs i)

apart : Apart four
apart = (out 1 (2 ∷ 3 ∷ 4 ∷ []) refl, (out 2 (3 ∷ 4 ∷ []) refl, (out 3 (4 ∷ []) refl, (λ i. i, tt))))

ordered : Ordered four_blocks.messages four
ordered = record {
  few = lit≤ tt;
  short = lit≤ tt;
  blocks = each (λ b. (1 ≤ b) × (b ≤ 256)) four ((lit≤ tt, lit≤ tt), ((lit≤ tt, lit≤ tt), ((lit≤ tt, lit≤ tt), ((lit≤ tt, lit≤ tt), tt))));
  once = apart_once four apart;
  forward = each (λ (m : Message). (place four m.from < place four m.to) × (place four m.to < length four)) four_blocks.messages
      ((lit< tt, lit< tt), ((lit< tt, lit< tt), ((lit< tt, lit< tt), ((lit< tt, lit< tt), tt))));
}

sound : Sound four_blocks
sound = record {
  once = apart;
  long = each (λ b. 1 ≤ four_blocks.time b) four (lit≤ tt, (lit≤ tt, (lit≤ tt, (lit≤ tt, tt))));
  joins = each (λ (m : Message). In m.from four × In m.to four) four_blocks.messages
      ((inl refl, inr (inl refl)), ((inl refl, inr (inr (inl refl))), ((inr (inl refl), inr (inr (inr (inl refl)))), ((inr (inr (inl refl)), inr (inr (inr (inl refl)))), tt))));
}

processed : (M : Model) → 1 ≤ M.processors → Processed M four_blocks four
processed M some = record { some = some; sound = sound; ordered = ordered; listed = λ b i. i; known = λ b i. i }

lawful : Lawful by_number
lawful = record { itself = λ x. refl; exchange = λ x y. refl; transitive = λ x y z h k. refl }

pub four_blocks_are_near : FourBlocksAreNear
four_blocks_are_near =
    let M = silent two_processors in
    let c = placing_chooses M four_blocks four by_number four_standings (processed M (lit≤ tt)) lawful in
    record {
      processed = processed two_processors (lit≤ tt);
      long = refl;
      rival = chosen_valid M four_blocks (earlier by_number four_standings) (by_numbers M) c.chosen c.every;
      short = refl;
      delays = refl;
    }
