use Rattle.lock_posse.proofs.leaving.last_numbers.Goals as goal

pub returns : goal.returns
returns c = rw (← c.in_ok-found.ensures, ← c.as_slice.ensures.value) c.numbers_of.ensures
