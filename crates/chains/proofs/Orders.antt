-- What the facts of a good order say together.
use Rattle.std.proofs.Common.{◌≡◌, ℕ, suc, ◌+◌, ◌<◌, ◌≤◌, List, [], ◌∷◌, ◌++◌, length, get_or, take, drop, sym, refl, ap, ◌∙◌, subst, append_assoc, arith}
use Rattle.std.proofs.Math.Seq.{get_or-append_seam}
use Rattle.std.proofs.lemmas.List.{take-append-drop, take_at, length_push, length-append}
use Rattle.chains.specs.Lists.{In}
use Rattle.chains.specs.Chains.{place, Ordered}
use Rattle.chains.specs.Links.{message_at}
use Rattle.chains.specs.declared.message.Message.{Message}
use Rattle.chains.proofs.Lists.{in_getD, place_in}

-- both ends of a message are blocks
pub ends : (ms : List Message) (order : List ℕ) → Ordered ms order → (i : ℕ) → i < length ms → ((message_at ms i).from ≤ 256) × ((message_at ms i).to ≤ 256)
ends ms order o i l =
    let m = message_at ms i in
    let h = o.forward m (in_getD ms i (record { from = 0; to = 0; size = 0 }) l) in
    let h0 : place order m.from < place order m.to = h.0 in
    let h1 : place order m.to < length order = h.1 in
    ((o.blocks m.from (place_in order m.from (omega arith))).1, (o.blocks m.to (place_in order m.to h1)).1)

-- `rest` is a front of the order, and b its last block: what stands before b is `less`
pub record Last (order rest less : List ℕ) (b : ℕ) : Type 0 where
  pub front : take (length less) order ≡ less
  pub inside : length less < length order
  pub at : get_or order (length less) 0 ≡ b
  pub longer : length rest ≡ length less + 1
  pub listed : In b order
  pub low : 1 ≤ b
  pub most : b ≤ 256
  pub after : place order b ≡ length less

pub last : (ms : List Message) (order : List ℕ) → Ordered ms order → (rest less : List ℕ) (b : ℕ) → take (length rest) order ≡ rest → rest ≡ less ++ b ∷ [] → Last order rest less b
last ms order o rest less b t e =
    let more = drop (length rest) order in
    let whole : less ++ (b ∷ more) ≡ order = sym (append_assoc less (b ∷ []) more) ∙ ap (λ r. r ++ more) (sym (t ∙ e)) ∙ take-append-drop (length rest) order in
    let long : length (less ++ (b ∷ more)) ≡ length order = ap length whole in
    let sum : length (less ++ (b ∷ more)) ≡ length less + suc (length more) = length-append less (b ∷ more) in
    let k = length less in
    let lt : k < length order = omega arith in
    let at : get_or order k 0 ≡ b = ap (λ w. get_or w k 0) (sym whole) ∙ get_or-append_seam less b more 0 in
    let P : ℕ → Type 0 = λ x. In x order in
    let i : In b order = subst P at (in_getD order k 0 lt) in
    record {
      front = ap (take k) (sym whole) ∙ take_at less (b ∷ more) k refl;
      inside = lt;
      at = at;
      longer = ap length e ∙ length_push less b;
      listed = i;
      low = (o.blocks b i).0;
      most = (o.blocks b i).1;
      after = ap (place order) (sym at) ∙ o.once k lt;
    }
