use Rattle.std.proofs.Common.{◌≡◌, ◌+◌, ◌*◌, ◌-◌, ◌∙◌, arith}
use Rattle.words.proofs.Pasting.{put_record}
use Rattle.words.proofs.write.put_all.Goals as goal

pub loop-i-preserved : goal.loop-i-preserved
loop-i-preserved g c =
    let p = c.args.at + g.row.W * c.loop-i.i in
    let k : p + g.row.W - p ≡ g.row.W = omega arith in
    put_record g.T.Written.written g.row.W g.met.T.Written.wide c.args.out.now c.args.at c.args.records.now c.loop-i.out c.copy_from_slice.new.self c.loop-i.i _ c.index-records-i.result c.loop-i-test.true
    (omega arith) c.index-records-i.is (c.copy_from_slice.ensures.after ∙ c.words.ensures) k c.loop-i.invariant
