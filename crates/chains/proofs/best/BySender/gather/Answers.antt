use Rattle.std.proofs.Common.{◌≡◌, ℕ, ◌<◌, ◌≤◌, List, length, get_or, sym, refl, ap, ◌∙◌, subst, arith}
use Rattle.std.proofs.lemmas.List.{get_or-replicate}
use Rattle.chains.specs.Links.{latest, message_at, number_of}
use Rattle.chains.specs.declared.message.Message.{Message}
use Rattle.chains.proofs.best.BySender.gather.Goals as goal

pub loop-i-init : goal.loop-i-init
loop-i-init c = (refl, record { wide = refl; long = refl; heads = λ b l. ap number_of (get_or-replicate 257 b 0 0 l); nexts = λ j l. absurd (omega arith) })

pub invariant_of-links : goal.invariant_of-links
invariant_of-links c =
    let ms = c.args.messages.now in
    let head = c.loop-i.links.1.0 in
    let next = c.loop-i.links.1.1.0 in
    let gathered = c.loop-i.invariant.1 in
    let all : length ms ≡ c.loop-i.i = omega arith in
    let P : List Message → Type 0 = λ m. (length m ≤ 1024)
    × ((i : ℕ) → i < length m → (message_at m i).to ≤ 256)
    × ((b : ℕ) → b < 257 → number_of (get_or head b 0) ≡ latest m b (length m))
    × ((i : ℕ) → i < length m → number_of (get_or next i 0) ≡ latest m (message_at m i).from i) in
    let facts : P c.loop-i.links.0.now = subst P (sym c.loop-i.invariant.0) (
      c.requires.few,
      λ i l. (c.requires.ends i l).1,
      λ b l. gathered.heads b l ∙ ap (latest ms b) (sym all),
      λ i l. gathered.nexts i (omega arith),
    ) in
    record { few = facts.0; receivers = facts.1; heads = facts.2; nexts = facts.3 }
