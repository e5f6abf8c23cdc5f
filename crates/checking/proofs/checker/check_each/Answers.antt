use Rattle.std.proofs.Common.{◌≡◌, None, sym, ◌∙◌, rules}
use Rattle.checking.specs.Jobs.{seen}
use Rattle.checking.proofs.Told.{told_first}
use Rattle.checking.proofs.checker.check_each.Goals as goal

pub returns : goal.returns
returns g c =
    let j = c.args.job.now in
    let none : c.first_stray.result ≡ None = search rules in
    let lacking = c.first_lacking.ensures ∙ told_first (g.M.Machine.meaning c.args.machine.now) (seen j).messages c.args.rows.now (sym c.first_stray.ensures ∙ none) j.sized in
    search (rules, lacking)
