use Rattle.std.proofs.Common.{arith, rules}
use Rattle.page.specs.Pages.{page_text}
use Rattle.page.specs.Text.{row_line}
use Rattle.page.proofs.Appending.{joined_one, joined_all}
use Rattle.page.proofs.page.Page.put_rows.Goals as goal

pub loop-row-preserved : goal.loop-row-preserved
loop-row-preserved c =
    (joined_one row_line (page_text c.args.self.now) c.args.rows.now c.loop-row.row-index _ _ _ (omega arith) (search rules) c.loop-row.invariant.0 c.put_row.ensures.text, omega arith)

pub returns : goal.returns
returns c =
    record { text = joined_all row_line (page_text c.args.self.now) c.args.rows.now c.loop-row.row-index _ (omega arith) c.loop-row.invariant.0; len = omega arith }
