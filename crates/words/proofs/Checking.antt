-- The links of a list of words, tested one by one.
use Rattle.std.proofs.Common.{◌≡◌, ℕ, zero, suc, ◌+◌, ◌-◌, ◌*◌, ◌≤◌, Bool, true, false, cond, not, List, [], ◌∷◌, ◌++◌, length, set, Some, None, Err, Option, sym, refl, ap, ◌∙◌, subst, arith, length-set}
use Rattle.std.proofs.lemmas.Bool.{not-false}
use Rattle.graph.specs.declared.records.Link.{Link}
use Rattle.graph.specs.declared.records.Refusal.{Refusal}
use Rattle.graph.specs.Net.{newest_of}
use Rattle.graph.specs.Calls.{is_task}
use Rattle.graph.proofs.Sounds.{numbered}
use Rattle.words.specs.declared.refusal.ReadRefusal.{ReadRefusal}
use Rattle.words.specs.declared.refusal.ReadRefusal.TheVariants.{Refused}
use Rattle.words.specs.Reading.{word, task_count, link_count, receiver_place, size_place, sender_of, with_links, or_else, at_link, link_refusal, fault_place, first_refused, verdict}
use Rattle.words.specs.Lists.{Pairs}
use Rattle.words.proofs.Building.{tasks_stay, links_built}
use Rattle.words.proofs.Pairing.{pairs_more}

-- a row that is passed
pub row_none : {R : Type 0} (b : Bool) (x : R) (rest : Option R) → cond b (Some x) rest ≡ None → (b ≡ false) × (rest ≡ None)
row_none true x rest e = absurd (let z : ◌≡◌ {A = ℕ} 0 1 = cc in omega arith)
row_none false x rest e = (refl, e)

-- a link that is allowed has a receiver
pub receiver_known : (ws : List ℕ) (l : ℕ) → link_refusal ws l ≡ None → (1 ≤ word ws (receiver_place ws l)) × (word ws (receiver_place ws l) ≤ task_count ws)
receiver_known ws l e =
    let net = with_links ws (l - 1) in
    let r = word ws (receiver_place ws l) in
    let second = (row_none (not (is_task net (sender_of ws l))) _ _ e).1 in
    let t = not-false _ (row_none (not (is_task net r)) _ _ second).0 in
    let p = numbered (length net.tasks) r t in
    (p.0, omega (arith, p.1, tasks_stay ws (l - 1)))

pub record Checked (ws : List ℕ) (T : List (Option ℕ)) (i : ℕ) : Type 0 where
  pub long : length T ≡ 65536
  pub passed : first_refused ws i ≡ None
  pub pairs : Pairs T (with_links ws i).links

pub passes : (ws : List ℕ) (i : ℕ) → first_refused ws i ≡ None → link_refusal ws (suc i) ≡ None → first_refused ws (suc i) ≡ None
passes ws i e f = ap (λ o. or_else o (at_link ws (suc i) (link_refusal ws (suc i)))) e ∙ ap (at_link ws (suc i)) f

pub checked_more : (ws : List ℕ) (T : List (Option ℕ)) (l k s r p : ℕ) → task_count ws ≤ 256 → 1 ≤ l → l ≡ k → p ≡ (s - 1) * 256 + (r - 1) → Checked ws T (l - 1) → s ≡ sender_of ws l → r ≡ word ws (receiver_place ws l)
    → (1 ≤ sender_of ws l) × (sender_of ws l ≤ task_count ws) → link_refusal ws l ≡ None → Checked ws (set T p (Some l)) k
checked_more ws T zero k s r p few lo ek ep c es er known allowed = absurd (omega arith)
checked_more ws T (suc i) k s r p few lo ek ep c es er known allowed =
    let back : suc i - 1 ≡ i = omega arith in
    let was : Checked ws T i = subst (Checked ws T) back c in
    let x : Link = record { sender = sender_of ws (suc i); receiver = word ws (receiver_place ws (suc i)); size = word ws (size_place ws (suc i)); next = newest_of (with_links ws i).links (sender_of ws (suc i)) } in
    let j = receiver_known ws (suc i) allowed in
    let Q : ℕ → ℕ → Type 0 = λ a b. Pairs (set T ((a - 1) * 256 + (b - 1)) (Some (suc i))) ((with_links ws i).links ++ x ∷ []) in
    let n : suc i ≡ length (with_links ws i).links + 1 = omega (arith, links_built ws i) in
    let full = pairs_more T (with_links ws i).links x (suc i) was.long was.pairs (omega (arith, known.0)) (omega (arith, known.1)) (omega (arith, j.0)) (omega (arith, j.1)) n in
    subst (λ q. Checked ws (set T q (Some (suc i))) k) (sym ep) (subst (Checked ws (set T ((s - 1) * 256 + (r - 1)) (Some (suc i)))) ek (record {
      long = length-set T _ _ ∙ was.long;
      passed = passes ws i was.passed allowed;
      pairs = subst (λ a. Q a r) (sym es) (subst (Q (sender_of ws (suc i))) (sym er) full);
    }))

-- the first that is refused stays so
pub refused_stays : (ws : List ℕ) (i k : ℕ) (why : ReadRefusal) → first_refused ws i ≡ Some why → first_refused ws (i + k) ≡ Some why
refused_stays ws i zero why e = let q : i + 0 ≡ i = omega arith in ap (first_refused ws) q ∙ e
refused_stays ws i (suc k) why e =
    let q : i + suc k ≡ suc (i + k) = omega arith in
    ap (first_refused ws) q ∙ ap (λ o. or_else o (at_link ws (suc (i + k)) (link_refusal ws (suc (i + k))))) (refused_stays ws i k why e)

pub refused_here : (ws : List ℕ) (l p : ℕ) (why : Refusal) → 1 ≤ l → l ≤ link_count ws → first_refused ws (l - 1) ≡ None → Some why ≡ link_refusal ws l → p ≡ fault_place ws l why
    → Err (Refused p why) ≡ verdict (first_refused ws (link_count ws))
refused_here ws zero p why lo hi e f g = absurd (omega arith)
refused_here ws (suc i) p why lo hi e f g =
    let back : suc i - 1 ≡ i = omega arith in
    let far : suc i + (link_count ws - suc i) ≡ link_count ws = omega arith in
    let here : first_refused ws (suc i) ≡ Some (Refused p why) =
    ap (λ o. or_else o (at_link ws (suc i) (link_refusal ws (suc i)))) (ap (first_refused ws) (sym back) ∙ e)
    ∙ ap (at_link ws (suc i)) (sym f)
    ∙ ap (λ k. Some (Refused k why)) (sym g) in
    sym (ap verdict (ap (first_refused ws) (sym far) ∙ refused_stays ws (suc i) (link_count ws - suc i) (Refused p why) here))
