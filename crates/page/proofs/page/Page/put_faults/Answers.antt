use Rattle.std.proofs.Common.{[], ◌∷◌, ◌++◌, ap, ◌∙◌, append_assoc, arith, rules}
use Rattle.std.specs.List.{flat_map}
use Rattle.page.specs.Pages.{page_text}
use Rattle.page.proofs.Appending.{joined_one, joined_all}
use Rattle.page.proofs.Faults.{spaced_fault, spaced_faults}
use Rattle.page.proofs.page.Page.put_faults.Goals as goal

pub loop-fault-preserved : goal.loop-fault-preserved
loop-fault-preserved c =
    (joined_one spaced_fault (page_text c.args.self.now) c.args.faults.now c.loop-fault.fault-index _ _ _ (omega arith) (search rules) c.loop-fault.invariant.0 c.put_fault.ensures.text, omega arith)

pub returns : goal.returns
returns c =
    let faults = c.args.faults.now in
    let front = page_text c.args.self.now in
    c.put.ensures.text
    ∙ ap (λ z. z ++ 10 ∷ []) (joined_all spaced_fault front faults c.loop-fault.fault-index _ (omega arith) c.loop-fault.invariant.0)
    ∙ append_assoc front (flat_map spaced_fault faults) (10 ∷ [])
    ∙ ap (λ z. front ++ (z ++ 10 ∷ [])) (spaced_faults faults)
