use Rattle.laws_sequences.proofs.ReachedBooks.{reached_next_is_let_through}
use Rattle.laws_sequences.proofs.reached.reached_next_is_let_through.Goals as goal

pub returns : goal.returns
returns c = reached_next_is_let_through
