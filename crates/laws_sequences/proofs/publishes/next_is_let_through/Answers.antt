use Rattle.laws_sequences.proofs.Numbers.{next_is_let_through}
use Rattle.laws_sequences.proofs.publishes.next_is_let_through.Goals as goal

pub returns : goal.returns
returns c = next_is_let_through
