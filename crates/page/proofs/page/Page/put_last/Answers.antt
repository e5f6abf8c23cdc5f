use Rattle.std.proofs.Common.{append_assoc, append-nil, rules}
use Rattle.page.proofs.page.Page.put_last.Goals as goal

pub returns : goal.returns
returns c = search (rules, append_assoc, append-nil)
