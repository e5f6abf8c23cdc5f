use Rattle.std.proofs.Common.{◌≡◌, ℕ, suc, ◌+◌, ◌-◌, ◌≤◌, Bool, true, [], Err, sym, ap, ◌∙◌, arith}
use Rattle.graph.specs.Walks.{least}
use Rattle.graph.proofs.Tables.{least_far}
use Rattle.graph.proofs.Walks.{least_here}
use Rattle.words.specs.declared.refusal.ReadRefusal.{ReadRefusal}
use Rattle.words.proofs.Verdicts.{row_holds}
use Rattle.words.proofs.checks.refuse_first.Goals as goal

-- the least number that passes, where it is found at a number
least_found : (test : ℕ → Bool) (n count : ℕ) → 1 ≤ n → n ≤ count → least test (n - 1) ≡ 0 → test n ≡ true → least test count ≡ n
least_found test n count lo hi none here =
    let e : suc (n - 1) ≡ n = omega arith in
    let far : n + (count - n) ≡ count = omega arith in
    let at : least test n ≡ n = ap (least test) (sym e) ∙ least_here test (n - 1) none (ap test e ∙ here) ∙ e in
    sym (ap (least test) far) ∙ least_far test n (count - n) (λ z. omega (arith, at, z)) ∙ at

pub returns-then-holds : goal.returns-then-holds
returns-then-holds g c = λ test why tells gives.
    let n = c.loop-number.number in
    let lo : 1 ≤ n = omega arith in
    let hi : n ≤ c.args.count = omega arith in
    let here : true ≡ test n = tells n true lo hi c.if-holds.ensures in
    let found : least test c.args.count ≡ n = least_found test n c.args.count lo hi (c.loop-number.invariant test tells) (sym here) in
    ap (λ (r : ReadRefusal). Err r) (gives n c.refusal.result lo hi c.refusal.ensures) ∙ row_holds test c.args.count why [] n (sym found) (λ z. omega arith)
