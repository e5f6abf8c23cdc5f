use Rattle.words.proofs.WrittenBack.{written_back}
use Rattle.words.proofs.round_trips.accepted_words_stand.Goals as goal

pub returns : goal.returns
returns c = written_back c.args.words.now
