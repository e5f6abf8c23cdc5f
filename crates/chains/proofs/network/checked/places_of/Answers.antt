use Rattle.std.proofs.Common.{◌≡◌, ℕ, ◌+◌, ◌≤◌, List, Option, None, Some, map, get_or, replicate, set, sym, refl, ◌∙◌, ap, subst, add-one, arith}
use Rattle.std.proofs.lemmas.List.{map-set}
use Rattle.std.specs.Option.{is_some}
use Rattle.chains.specs.Links.{number_of}
use Rattle.chains.proofs.Lists.{in_getD, all_same}
use Rattle.chains.proofs.Places.{Read, read_more, read_all, twice, is_none, place_at, not_none}
use Rattle.chains.proofs.network.checked.places_of.Goals as goal
use Rattle.chains.proofs.network.checked.places_of.Goals.{then-block-eq0-via-then-block-eq0, then-block-eq0-via-else-block-eq0+then-block-gt-MAX_BLOCKS, then-block-eq0-via-else-block-eq0+else-block-gt-MAX_BLOCKS+then-places-block-ne0}

pub loop-k-init : goal.loop-k-init
loop-k-init c = record { wide = refl; blocks = λ b i. absurd i; apart = tt; present = λ b i. absurd i; absent = λ b no. sym (place_at (replicate 257 0) b) ∙ ap number_of (all_same {A = ℕ} 0 257 b) }

pub returns-then-block-eq0 : goal.returns-then-block-eq0
returns-then-block-eq0 c blocks once =
    let order = c.args.order.now in
    let k = c.loop-k.k in
    let x = get_or order k 0 in
    let good = blocks x (in_getD order k 0 c.loop-k-test.true) in
    let low : 1 ≤ x = good.0 in
    let most : x ≤ 256 = good.1 in
    elim c.then-block-eq0.branch [
      | then-block-eq0-via-then-block-eq0 w ↦ omega (arith, w.if-block-eq0.true)
      | then-block-eq0-via-else-block-eq0+then-block-gt-MAX_BLOCKS w ↦ omega (arith, w.if-block-gt-MAX_BLOCKS.true)
      | then-block-eq0-via-else-block-eq0+else-block-gt-MAX_BLOCKS+then-places-block-ne0 w ↦
          twice order (map number_of c.loop-k.places) k x c.loop-k-test.true refl (λ e. not_none (get_or c.loop-k.places x 0) w.if-places-block-ne0.true (place_at c.loop-k.places x ∙ e)) c.loop-k.invariant once
    ]

pub loop-k-preserved : goal.loop-k-preserved
loop-k-preserved c =
    let order = c.args.order.now in
    let places = c.loop-k.places in
    let k = c.loop-k.k in
    let x = get_or order k 0 in
    let free : get_or (map number_of places) x None ≡ None = sym (place_at places x) ∙ is_none _ (ap (λ n. is_some (number_of n)) c.if-places-block-ne0.false) in
    let P : List (Option ℕ) → Type 0 = λ ps. Read order ps (k + 1) in
    let same : map number_of (set places x (k + 1)) ≡ set (map number_of places) x (Some k) = map-set number_of places x (k + 1) ∙ ap (λ p. set (map number_of places) x p) (ap number_of (add-one k)) in
    subst P (sym same) (read_more order (map number_of places) k x c.loop-k-test.true refl (omega (arith, c.if-block-eq0.false)) c.if-block-gt-MAX_BLOCKS.false free c.loop-k.invariant)

pub returns : goal.returns
returns c = read_all c.args.order.now (map number_of c.loop-k.places) c.loop-k.k (omega arith) c.loop-k.invariant
