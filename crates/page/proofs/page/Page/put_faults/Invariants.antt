use Rattle.std.proofs.Common.{◌≡◌, ◌+◌, ◌*◌, ◌≤◌, ◌++◌, take}
use Rattle.std.specs.List.{flat_map}
use Rattle.page.specs.Pages.{page_text, page_len}
use Rattle.page.proofs.Faults.{spaced_fault}
use Rattle.page.proofs.page.Page.put_faults.Given as goal

abbrev pub invariant-loop-fault : goal.invariant-loop-fault
invariant-loop-fault l = (page_text l.self ≡ page_text l.initial.self ++ flat_map spaced_fault (take l.fault-index l.faults)) × (page_len l.self ≤ page_len l.initial.self + 63 * l.fault-index)
