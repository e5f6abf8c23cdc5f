use Rattle.std.proofs.Common.{◌≡◌, ℕ, ◌+◌, Bool, true, false, Some, None, refl, arith, rules}
use Rattle.std.specs.Option.{MatchOption}
use Rattle.std.proofs.lemmas.Iterator.{YieldsList-from_range, first_from_find}
use Rattle.graph.specs.Tables.{at}
use Rattle.graph.specs.Walks.{through}
use Rattle.graph.proofs.Tables.{least_found}
use Rattle.graph.proofs.reach.ReachTable.least_on_circle.Goals as goal

pub returns : goal.returns
returns c =
    let t = c.args.self.now in
    let n = t.tasks in
    let f : ℕ → Bool = λ k. at t.rows.now k k in
    let found = first_from_find _ _ _ (λ k. f k ≡ true) (λ k. f k ≡ false) c.find.ensures.ran (YieldsList-from_range 0 n n refl (omega arith)) (λ x q k. search rules) (λ x q k. search rules) in
    let named : MatchOption c.find.result (c.map.result ≡ None) (λ x. c.map.result ≡ Some (x + 1)) = search rules in
    least_found f (λ k. through t.links.now n k k) n c.find.result c.map.result (λ k l. t.shows k k (omega arith) (omega arith)) found named
