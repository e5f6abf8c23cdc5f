use Rattle.std.proofs.Common.{◌≡◌, ℕ, ltb, List, [], ◌∷◌, arith, rules, tests}
use Rattle.std.specs.List.{find}
use Rattle.std.specs.Option.{option_map}
use Rattle.std.proofs.lemmas.Bool.Decides.{nat_tests}
use Rattle.std.proofs.lemmas.Grind.{common_steps}
use Rattle.std.proofs.lemmas.Iterator.{YieldsList-from_slice}
use Rattle.std.proofs.lemmas.Iterator.Search.{find_from_yields_List}
use Rattle.machine.specs.declared.figures.Figures.{Figures}
use Rattle.machine.specs.Figures.{first_large}
use Rattle.machine.proofs.figures.Figures.first_too_large.Goals as goal

-- each place with its figure and the limit
abbrev table : Figures → List (ℕ × ℕ × ℕ)
table f =
    (1, f.delay_base, 10000) ∷ ((2, f.delay_unit, 99) ∷ ((3, f.startup, 100000) ∷ ((4, f.reading_base, 10000) ∷ ((5, f.reading_unit, 99) ∷ ((6, f.writing_base, 10000) ∷ ((7, f.writing_unit, 99) ∷ []))))))

found : (f : Figures) → option_map (λ row. row.0) (find (λ row. ltb row.2 row.1) (table f)) ≡ first_large f
found f = grind (arith, nat_tests)

pub returns : goal.returns
returns c =
    let f = c.args.self.now in
    let by_call = find_from_yields_List (λ row. ltb row.2 row.1) _ _ c.find.result c.find.ensures.ran (YieldsList-from_slice (table f) cc) (λ x b q k. search (rules, tests)) in
    let place = c.map.ensures.cases in
    let by_table = found f in
    grind (arith, common_steps)
