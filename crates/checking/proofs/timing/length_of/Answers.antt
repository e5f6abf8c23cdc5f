use Rattle.std.proofs.Common.{◌≡◌, ℕ, max, List, [], ◌∷◌, map, unwrap_or, fold, sym, refl, ap, ◌∙◌, arith, rules}
use Rattle.std.specs.List.{reduce}
use Rattle.std.proofs.lemmas.Iterator.{YieldsList-from_slice, YieldsList-from_map}
use Rattle.std.proofs.lemmas.Iterator.Consumers.{max_from_yields_List}
use Rattle.std.proofs.lemmas.Iterator.Adapters.{option_map_id}
use Rattle.chains.specs.Lists.{greatest}
use Rattle.schedule.specs.declared.rows.Row.{Row}
use Rattle.checking.proofs.timing.length_of.Goals as goal

-- the greatest of the finishes, one after another from a number on
greatest_fold : (n : ℕ) (rows : List Row) → fold max n (map (λ (r : Row). r.finish) rows) ≡ max n (greatest (λ (r : Row). r.finish) rows)
greatest_fold n [] = omega arith
greatest_fold n (r ∷ rows) = omega (arith, greatest_fold (max n r.finish) rows)

greatest_reduce : (rows : List Row) → unwrap_or (reduce max (map (λ (r : Row). r.finish) rows)) 0 ≡ greatest (λ (r : Row). r.finish) rows
greatest_reduce [] = refl
greatest_reduce (r ∷ rows) = greatest_fold r.finish rows

pub returns : goal.returns
returns c =
    let rows = c.args.rows.now in
    let most = max_from_yields_List {v = λ (n : ℕ). n} c.map.result c.max.result c.max.ensures.ran (YieldsList-from_map _ (λ (r : Row). r.finish) (YieldsList-from_slice rows cc) c.map.ensures.closure (λ x r q k. search rules)) in
    c.unwrap_or.ensures ∙ ap (λ o. unwrap_or o 0) (sym (option_map_id c.max.result) ∙ most) ∙ greatest_reduce rows
