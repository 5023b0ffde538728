use Rattle.twin_store.proofs.Current.{two_first, two_second, two_equal}
use Rattle.twin_store.proofs.laws.greater_generation_speaks.Goals as goal

pub returns : goal.returns
returns c = record { first = two_first; second = two_second; equal = two_equal }
