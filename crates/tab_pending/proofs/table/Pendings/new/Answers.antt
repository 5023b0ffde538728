use Rattle.tab_pending.proofs.table.Pendings.new.Goals as goal

pub invariant_of-result : goal.invariant_of-result
invariant_of-result c = rw (c.new.ensures, c.new-2.ensures) (tt, tt)
