use Rattle.std.proofs.Common.{◌≡◌, ◌<◌, ◌++◌, length, take, filter, get_or, ap, sym, ◌∙◌, arith}
use Rattle.std.proofs.lemmas.List.{length-append}
use Rattle.fixed_list.specs.Items.{items_of}
use Rattle.joining.proofs.Uniting.{kept_room}
use Rattle.joining.proofs.pair.united.append.Goals as goal

pub push-requires : goal.push-requires
push-requires g c =
    let xs = c.args.blocks.now in
    let i = c.loop-block.block-index in
    let t = sym (c.requires.1.1.0 (get_or xs i 0) _ c.passes.ensures) ∙ c.if-passes.true in
    let so_far : length (items_of c.loop-block.to) ≡ length (items_of c.args.to.now ++ filter g.test (take i xs)) = ap length c.loop-block.invariant in
    let lt : length (items_of c.loop-block.to) < 256 = omega (arith, kept_room g.test xs i c.loop-block-test.true t, c.requires.1.1.1, so_far, length-append (items_of c.args.to.now) (filter g.test (take i xs))) in
    (omega arith, lt)
