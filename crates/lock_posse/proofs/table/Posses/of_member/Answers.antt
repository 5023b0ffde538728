use Rattle.lock_posse.proofs.table.Posses.of_member.Goals as goal

pub returns : goal.returns
returns c = rw (← c.self.view_is, ← c.in_ok-numbers_having.ensures) c.sorted.ensures
