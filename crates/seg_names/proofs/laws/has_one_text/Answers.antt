use Rattle.seg_names.proofs.IdAgain.{id_again}
use Rattle.seg_names.proofs.IdTakes.{id_takes}
use Rattle.seg_names.proofs.laws.has_one_text.Goals as goal

pub returns : goal.returns
returns c = record { again = id_again; alone = id_takes }
