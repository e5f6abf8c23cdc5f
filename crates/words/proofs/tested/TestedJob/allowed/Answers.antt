use Rattle.std.proofs.Common.{rules, ◌≡◌, ℕ, zero, suc, ◌+◌, ◌-◌, ◌*◌, ◌<◌, ◌≤◌, ◌⊎◌, List, get_or, Some, None, Option, Err, refl, sym, ap, ◌∙◌, inl, inr, arith}
use Rattle.graph.specs.declared.records.Refusal.{Refusal}
use Rattle.graph.specs.declared.records.Refusal.TheVariants.{AlreadyLinked}
use Rattle.graph.specs.Net.{linked}
use Rattle.graph.specs.Walks.{some_number}
use Rattle.graph.proofs.Walks.{some_is}
use Rattle.words.specs.Reading.{task_count, with_links, sender_of, verdict}
use Rattle.words.specs.Lists.{Pairs, entries}
use Rattle.words.proofs.Pairing.{pair_read}
use Rattle.words.proofs.Building.{fault_receiver, fault_itself, fault_size, fault_again, fault_none}
use Rattle.words.proofs.tested.TestedJob.allowed.Goals as goal
use Rattle.words.proofs.tested.TestedJob.allowed.Goals.{then-receiver-eq0-via-then-receiver-eq0, then-receiver-eq0-via-else-receiver-eq0+then-receiver-task_count}

pub returns-then-receiver-eq0 : goal.returns-then-receiver-eq0
returns-then-receiver-eq0 c =
    let self = c.args.self.now in
    let ws = self.job.words.now in
    let l = c.args.link in
    let r = c.receiver-receiver.result in
    let h : (r ≡ 0) ⊎ (task_count ws < r) =
    elim c.then-receiver-eq0.branch [
      | then-receiver-eq0-via-then-receiver-eq0 w ↦ inl w.if-receiver-eq0.true
      | then-receiver-eq0-via-else-receiver-eq0+then-receiver-task_count w ↦ inr (omega (arith, w.task_count.ensures, w.if-receiver-task_count.true))
    ] in
    ap (verdict {R = Refusal}) (fault_receiver ws l self.job.few_links c.requires.some c.requires.there (self.known l c.requires.some c.requires.there) _ c.receiver-receiver.ensures h)

pub returns-then-sender-receiver : goal.returns-then-sender-receiver
returns-then-sender-receiver c =
    let self = c.args.self.now in
    let ws = self.job.words.now in
    let l = c.args.link in
    ap (verdict {R = Refusal}) (fault_itself ws l self.job.few_links c.requires.some c.requires.there (self.known l c.requires.some c.requires.there) _ _
    (self.sends l c.requires.some c.requires.there) c.receiver-receiver.ensures c.if-receiver-eq0.false (omega arith) c.if-sender-receiver.true)

pub returns-then-size-gt-MAX_SIZE : goal.returns-then-size-gt-MAX_SIZE
returns-then-size-gt-MAX_SIZE c =
    let self = c.args.self.now in
    let ws = self.job.words.now in
    let l = c.args.link in
    ap (verdict {R = Refusal}) (fault_size ws l self.job.few_links c.requires.some c.requires.there (self.known l c.requires.some c.requires.there) _ _
    (self.sends l c.requires.some c.requires.there) c.receiver-receiver.ensures c.if-receiver-eq0.false (omega arith) c.if-sender-receiver.false
    _ c.size.ensures c.if-size-gt-MAX_SIZE.true)

-- what the table has for the pair
pair-at : (T : List (Option ℕ)) (ws : List ℕ) (l n s r p : ℕ) → n ≤ 256 → Pairs T (with_links ws (l - 1)).links → s ≡ sender_of ws l → (1 ≤ sender_of ws l) × (sender_of ws l ≤ n) → (r ≡ 0 → ⊥) → r ≤ n
    → p ≡ (s - 1) * 256 + (r - 1) → get_or T p None ≡ some_number (linked (with_links ws (l - 1)).links s r)
pair-at T ws l n s r p few pairs e known nz h q = ap (λ k. get_or T k None) q ∙ pair_read T (with_links ws (l - 1)).links pairs s r (omega (arith, known.0)) (omega (arith, known.1)) (omega arith) (omega arith)

is_some : (k m : ℕ) → some_number m ≡ Some k → (k ≡ m) × (k ≡ 0 → ⊥)
is_some k zero e = absurd cc
is_some k (suc m) e =
    let f : Some (suc m) ≡ Some k = some_is (suc m) (λ z. omega arith) ∙ e in
    let q : k ≡ suc m = cc in (q, λ z. omega arith)

is_none : (m : ℕ) → some_number m ≡ None → m ≡ 0
is_none zero e = refl
is_none (suc m) e = let f : Some (suc m) ≡ None = some_is (suc m) (λ z. omega arith) ∙ e in cc

pub returns-in-Some : goal.returns-in-Some
returns-in-Some c =
    let self = c.args.self.now in
    let ws = self.job.words.now in
    let l = c.args.link in
    let known = self.known l c.requires.some c.requires.there in
    let s = self.sends l c.requires.some c.requires.there in
    let h : c.receiver-receiver.result ≤ task_count ws = omega arith in
    let at = c.link.ensures ∙ pair-at (entries c.args.older.now.numbers) ws l (task_count ws) _ _ _ self.job.few_tasks c.requires.older s known c.if-receiver-eq0.false h refl in
    let v : c.from.result ≡ c.in-Some.found = search rules in
    let k = is_some c.in-Some.found _ (sym at ∙ c.in-Some.is) in
    ap (λ n. Err (AlreadyLinked n)) v
    ∙ ap (verdict {R = Refusal}) (fault_again ws l self.job.few_links c.requires.some c.requires.there known _ _
    s c.receiver-receiver.ensures c.if-receiver-eq0.false h c.if-sender-receiver.false
    _ c.in-Some.found c.size.ensures c.if-size-gt-MAX_SIZE.false k.0 k.1)

pub returns-in-None : goal.returns-in-None
returns-in-None c =
    let self = c.args.self.now in
    let ws = self.job.words.now in
    let l = c.args.link in
    let known = self.known l c.requires.some c.requires.there in
    let s = self.sends l c.requires.some c.requires.there in
    let h : c.receiver-receiver.result ≤ task_count ws = omega arith in
    let at = c.link.ensures ∙ pair-at (entries c.args.older.now.numbers) ws l (task_count ws) _ _ _ self.job.few_tasks c.requires.older s known c.if-receiver-eq0.false h refl in
    ap (verdict {R = Refusal}) (fault_none ws l self.job.few_links c.requires.some c.requires.there known _ _
    s c.receiver-receiver.ensures c.if-receiver-eq0.false h c.if-sender-receiver.false
    _ _ c.size.ensures c.if-size-gt-MAX_SIZE.false refl (is_none _ (sym at ∙ c.in-None.is)))
