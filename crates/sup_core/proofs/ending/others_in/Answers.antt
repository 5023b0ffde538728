use Rattle.sup_core.proofs.ending.others_in.Goals as goal

pub returns : goal.returns
returns c = rw (← c.in_ok-open.ensures, ← c.as_slice.ensures.value) c.others_from.ensures
