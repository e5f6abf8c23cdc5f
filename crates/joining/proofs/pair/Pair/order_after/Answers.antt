use Rattle.std.proofs.Common.{ℕ, suc, ◌+◌, ◌<◌, ◌≤◌, List, [], ◌∷◌, ◌++◌, length, filter, ap, ◌∙◌, append_assoc, arith, rules, of_calls}
use Rattle.std.proofs.lemmas.List.{length-append}
use contract.BorrowLft.{⊑_meet, ⊑_static}
use Rattle.fixed_list.specs.Items.{items_of}
use Rattle.joining.specs.Pairs.{before, behind, reach_of, order_of}
use Rattle.joining.specs.declared.pair.Pair.{Pair}
use Rattle.joining.proofs.Outcome.{order_room}
use Rattle.joining.proofs.Uniting.{sides_fit}
use Rattle.joining.proofs.pair.Pair.order_after.Goals as goal

-- both sides and the union have room
fit : (p : Pair) → length (filter (before p) (order_of p)) + suc (length (filter (behind p) (order_of p))) ≤ 256
fit p = let w = p.reach.now in sides_fit (reach_of p) p.one p.other _ (order_of p) (order_room w.partition w.rows w.tells p.one p.other p.one_known p.other_known)

pub append-requires : goal.append-requires
append-requires c κs within =
    let p = c.args.self.now in
    let room : length (items_of c.new-after.result) + length (filter (before p) (order_of p)) ≤ 256 = omega (arith, fit p, ap length c.new-after.ensures) in
    (search (⊑_meet, ⊑_static, within.0, within.1.0, within.1.1.0) depth 20 fits 100000, (search (rules, of_calls), search (rules, room)))

pub push-requires : goal.push-requires
push-requires c =
    let p = c.args.self.now in
    let lt : length (items_of c.append.new.to) < 256 = omega (arith, fit p, ap length c.append.ensures, ap length c.new-after.ensures, length-append (items_of c.new-after.result) (filter (before p) (order_of p))) in
    (omega arith, lt)

pub append-requires-2 : goal.append-requires-2
append-requires-2 c κs within =
    let p = c.args.self.now in
    let room : length (items_of c.push.new.self) + length (filter (behind p) (order_of p)) ≤ 256
    = omega (arith, fit p, c.push.ensures.len, ap length c.append.ensures, ap length c.new-after.ensures, length-append (items_of c.new-after.result) (filter (before p) (order_of p))) in
    (search (⊑_meet, ⊑_static, within.0, within.1.0, within.1.1.0) depth 20 fits 100000, (search (rules, of_calls), search (rules, room)))

pub returns : goal.returns
returns c =
    let p = c.args.self.now in
    c.append-2.ensures ∙ ap (λ (xs : List ℕ). xs ++ filter (behind p) (order_of p)) (c.push.ensures.items ∙ ap (λ (xs : List ℕ). xs ++ c.args.number ∷ []) (c.append.ensures ∙ ap (λ (xs : List ℕ). xs ++ filter (before p) (order_of p)) c.new-after.ensures))
    ∙ append_assoc (filter (before p) (order_of p)) (c.args.number ∷ []) (filter (behind p) (order_of p))
