use Rattle.std.proofs.Common.{ℕ, ◌+◌, Bool, false, List, get_or, sym, ap, subst, arith}
use Rattle.graph.proofs.Tables.{Passing, pass_more}
use Rattle.graph.proofs.reach.pass_through.Goals as goal
use Rattle.graph.proofs.reach.pass_through.Goals.{then-row-via, else-row-via}

pub loop-row-preserved : goal.loop-row-preserved
loop-row-preserved c =
    let E = c.args.rows.now in
    let i = c.loop-row.row-index in
    let P : List (List Bool) → Type 0 = λ T. Passing E T c.args.via (i + 1) in
    let same = λ (b : ℕ). ap (λ r. get_or r b false) (c.loop-row.invariant.left i (omega arith)) in
    let more = λ (row : List Bool). pass_more E c.loop-row.row-items c.args.via i row c.loop-row-test.true c.loop-row.invariant in
    elim c.if-row-via.branch [
      | then-row-via w ↦ subst P (sym w.row-items-is) (more _ (λ b l. let held = same c.args.via in let here = same b in let new = w.unite.ensures b l in let test = w.if-row-via.true in grind arith))
      | else-row-via w ↦ subst P (sym w.row-items-is) (more _ (λ b l. let held = same c.args.via in let here = same b in let test = w.if-row-via.false in grind arith))
    ]

pub returns : goal.returns
returns c = record { long = c.loop-row.invariant.tall; passed = λ a b la lb. c.loop-row.invariant.done a b (omega arith) lb }
