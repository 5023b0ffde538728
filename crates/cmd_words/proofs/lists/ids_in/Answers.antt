use Rattle.cmd_words.proofs.IdOrder.{exact_ids}
use Rattle.cmd_words.proofs.lists.ids_in.Goals as goal

pub sorted-requires : goal.sorted-requires
sorted-requires c = exact_ids
