use Rattle.std.proofs.Common.{◌≡◌, ℕ, ◌+◌, ◌-◌, ◌*◌, ◌≤◌, List, None, Option, replicate, refl, sym, ap, ◌∙◌, subst, arith}
use Rattle.std.proofs.lemmas.List.{get_or-replicate, length-replicate}
use Rattle.graph.specs.Walks.{some_number}
use Rattle.words.specs.Lists.{entries}
use Rattle.words.specs.Reading.{link_count, verdict}
use Rattle.words.proofs.Building.{pairs_none}
use Rattle.words.proofs.Checking.{Checked, checked_more, refused_here, receiver_known}
use Rattle.words.proofs.Pairing.{entries_none}
use Rattle.words.proofs.Reading.{verdict_ok, verdict_err}
use Rattle.words.proofs.tested.TestedJob.check_links.Goals as goal

none_yet : (ws : List ℕ) → Checked ws (replicate 65536 None) 0
none_yet ws = record {
  long = length-replicate {A = Option ℕ} 65536 None;
  passed = refl;
  pairs = λ a b la lb. get_or-replicate 65536 (a * 256 + b) None None (omega arith) ∙ ap some_number (sym (pairs_none ws (a + 1) (b + 1)));
}

pub loop-link-init : goal.loop-link-init
loop-link-init c =
    let ws = c.args.self.now.job.words.now in
    record { near = omega arith; checked = subst (λ t. Checked ws t 0) (sym (entries_none 65536)) (none_yet ws) }

pub returns-in-Err : goal.returns-in-Err
returns-in-Err c =
    refused_here c.args.self.now.job.words.now c.loop-link.link _ _ (omega arith) (omega arith) c.loop-link.invariant.checked.passed (sym (verdict_err _ _ c.in-Err.ensures)) c.fault_place.ensures

pub put-requires-clause-receiver_known : goal.put-requires-clause-receiver_known
put-requires-clause-receiver_known c =
    let k = receiver_known c.args.self.now.job.words.now c.loop-link.link (verdict_ok _ c.in_default.ensures) in
    omega (arith, k.1, c.args.self.now.job.few_tasks)

pub loop-link-preserved : goal.loop-link-preserved
loop-link-preserved c =
    let self = c.args.self.now in
    let ws = self.job.words.now in
    let l = c.loop-link.link in
    let lo : 1 ≤ l = omega arith in
    let hi : l ≤ link_count ws = omega arith in
    record {
      near = omega arith;
      checked = subst (λ t. Checked ws t (l + 1 - 1)) (sym c.put.ensures) (checked_more ws (entries c.loop-link.older.numbers) l (l + 1 - 1) _ _ _ self.job.few_tasks lo (omega arith) refl c.loop-link.invariant.checked (self.sends l lo hi)
          c.receiver.ensures (self.known l lo hi) (verdict_ok _ c.in_default.ensures));
    }

pub returns-in_default : goal.returns-in_default
returns-in_default c =
    let self = c.args.self.now in
    let ws = self.job.words.now in
    let l = c.loop-link.link in
    let lo : 1 ≤ l = omega arith in
    let hi : l ≤ link_count ws = omega arith in
    let last : l ≡ link_count ws = omega (arith, c.loop-link.invariant.near) in
    let all = checked_more ws (entries c.loop-link.older.numbers) l (link_count ws) _ _ _ self.job.few_tasks lo last refl c.loop-link.invariant.checked (self.sends l lo hi) c.receiver.ensures (self.known l lo hi)
    (verdict_ok _ c.in_default.ensures) in
    sym (ap verdict all.passed)
