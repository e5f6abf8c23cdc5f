use Rattle.std.proofs.Common.{◌+◌, ◌*◌, ◌≤◌, length, refl, arith}
use Rattle.std.proofs.lemmas.Slice.{put_mid-paste}
use Rattle.graph.specs.Of.{net_of}
use Rattle.words.proofs.Pasting.{write_done}
use Rattle.words.proofs.write.write_words.Goals as goal

pub returns-clause-after : goal.returns-clause-after
returns-clause-after c =
    let header = put_mid-paste 0 3 c.args.out.now c.copy_from_slice.new.self _ 3 c.copy_from_slice.ensures.after refl refl in
    let room : 3 + 2 * length c.tasks-tasks.result.now + 3 * length c.links-links.result.now ≤ length c.args.out.now = omega (arith, c.word_count-needed.ensures.value) in
    write_done (net_of c.args.graph.now) _ _ c.tasks-tasks.ensures c.links-links.ensures.value c.args.out.now room _ _ _ header c.put_all.ensures c.put_all-2.ensures
