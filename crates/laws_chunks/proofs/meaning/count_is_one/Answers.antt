use Rattle.laws_chunks.proofs.Meanings.{count_is_one}
use Rattle.laws_chunks.proofs.meaning.count_is_one.Goals as goal

pub returns : goal.returns
returns c = count_is_one
