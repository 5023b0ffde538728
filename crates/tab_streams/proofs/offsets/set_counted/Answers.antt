use Rattle.tab_streams.proofs.offsets.set_counted.Goals as goal

pub returns-clause-counted : goal.returns-clause-counted
returns-clause-counted c = rw c.in_ok-set_in.ensures.ok c.in_ok-count.ensures
