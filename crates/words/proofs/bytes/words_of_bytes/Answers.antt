use Rattle.std.proofs.Common.{◌≡◌, ℕ, ◌+◌, ◌*◌, ◌/◌, ◌<◌, [], length, get_or, ap, ◌∙◌, arith}
use Rattle.words.specs.Bytes.{word_at}
use Rattle.words.proofs.Chunks.{chunk_get}
use Rattle.words.proofs.Tables.{table_over}
use Rattle.words.proofs.bytes.words_of_bytes.Goals as goal

pub loop-i-preserved : goal.loop-i-preserved
loop-i-preserved c =
    let bs = c.args.bytes.now in
    let i = c.loop-i.i in
    let lt : i < length bs / 4 = omega arith in
    let p : (r : ℕ) → r < 4 → get_or (get_or c.as_chunks.result.0.now i []) r 0 ≡ get_or bs (4 * i + r) 0 = λ r m. ap (λ ch. get_or (get_or ch i []) r 0) c.as_chunks.ensures.front ∙ chunk_get (length bs / 4) bs i r lt m in
    let z : get_or bs (4 * i + 0) 0 ≡ get_or bs (4 * i) 0 = let e : 4 * i + 0 ≡ 4 * i = omega arith in ap (λ k. get_or bs k 0) e in
    table_over (word_at bs) c.args.into.now _ i _ (omega arith) c.loop-i.invariant (omega (arith, c.from_le_bytes.ensures, p 0 (omega arith), p 1 (omega arith), p 2 (omega arith), p 3 (omega arith), z))
