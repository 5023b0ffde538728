use Rattle.laws_chunks.proofs.Meanings.{count_means_put}
use Rattle.laws_chunks.proofs.meaning.count_means_put.Goals as goal

pub returns : goal.returns
returns c = count_means_put
