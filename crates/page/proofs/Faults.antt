-- The numbers of several faults, fault by fault.
use Rattle.std.proofs.Common.{◌≡◌, ℕ, List, [], ◌∷◌, ◌++◌, map, decimal, refl, ap, ◌∙◌, append_assoc}
use Rattle.std.specs.List.{flat_map}
use Rattle.page.specs.declared.fault.Fault.{Fault}
use Rattle.page.specs.Text.{spaced, fault_numbers}

-- the numbers of a fault, each after a space
abbrev pub spaced_fault : Fault → List ℕ
spaced_fault f = spaced (map decimal (fault_numbers f))

spaced_append : (xs ys : List ℕ) → spaced (map decimal xs) ++ spaced (map decimal ys) ≡ spaced (map decimal (xs ++ ys))
spaced_append [] ys = refl
spaced_append (x ∷ xs) ys = ap (32 ∷◌) (append_assoc (decimal x) (spaced (map decimal xs)) (spaced (map decimal ys)) ∙ ap (decimal x ++◌) (spaced_append xs ys))

pub spaced_faults : (fs : List Fault) → flat_map spaced_fault fs ≡ spaced (map decimal (flat_map fault_numbers fs))
spaced_faults [] = refl
spaced_faults (f ∷ fs) = ap (spaced_fault f ++◌) (spaced_faults fs) ∙ spaced_append (fault_numbers f) (flat_map fault_numbers fs)
