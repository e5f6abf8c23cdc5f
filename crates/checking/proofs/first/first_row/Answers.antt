use Rattle.std.proofs.Common.{sym, ◌∙◌}
use Rattle.checking.proofs.Firsts.{first_here, first_more}
use Rattle.checking.proofs.first.first_row.Goals as goal

pub returns-then-takes : goal.returns-then-takes
returns-then-takes g c = λ t agrees.
    sym (first_here t c.args.rows.now c.loop-i.i (record { block = 0; processor = 0; start = 0; finish = 0 }) c.loop-i-test.true (sym (agrees _ _ _ c.if-takes.ensures))) ∙ c.loop-i.invariant t agrees

pub loop-i-preserved : goal.loop-i-preserved
loop-i-preserved g c = λ t agrees.
    first_more t c.args.rows.now c.loop-i.i (record { block = 0; processor = 0; start = 0; finish = 0 }) c.loop-i-test.true (sym (agrees _ _ _ c.if-takes.ensures)) ∙ c.loop-i.invariant t agrees
