use Rattle.std.proofs.Common.{[], List, Bool, false, length, replicate, get_or, sym, refl, ap, ◌∙◌, subst, arith}
use Rattle.std.proofs.lemmas.List.{get_or-replicate, length-replicate}
use Rattle.graph.specs.Tables.{Shows}
use Rattle.graph.specs.Walks.{through}
use Rattle.graph.proofs.Tables.{Square, direct_more, square_set}
use Rattle.graph.proofs.reach.direct.Goals as goal

pub loop-link-init : goal.loop-link-init
loop-link-init c =
    let P : List (List Bool) → Type 0 = λ rows. Square rows × Shows rows (through [] 0) in
    subst P (sym c.requires.empty) (
      record { tall = length-replicate 256 (replicate 256 false); wide = λ a l. ap length (get_or-replicate 256 a (replicate 256 false) [] l) ∙ length-replicate 256 false },
      λ a b la lb. ap (λ r. get_or r b false) (get_or-replicate 256 a (replicate 256 false) [] la) ∙ get_or-replicate 256 b false false lb,
    )

pub loop-link-preserved : goal.loop-link-preserved
loop-link-preserved c =
    let j = c.requires.joined c.loop-link.link-index c.loop-link-test.true in
    let inv = c.loop-link.invariant in (
      square_set c.loop-link.rows inv.0 _ _ (omega (arith, j)) (omega (arith, j)) _,
      direct_more c.args.links.now c.loop-link.link-index c.loop-link-test.true c.loop-link.rows inv.0 inv.1 _ _ refl refl j.0 j.1 j.2 j.3,
    )
