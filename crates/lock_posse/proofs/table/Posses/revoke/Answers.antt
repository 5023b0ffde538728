use Rattle.std.proofs.Common.{refl}
use Rattle.lock_posse.proofs.Changed.{all_revoked}
use Rattle.lock_posse.proofs.Numbers.{distinct_revoked}
use Rattle.lock_posse.proofs.table.Posses.revoke.Goals as goal

pub invariant_of-self : goal.invariant_of-self
invariant_of-self c = rw (c.change_all.ensures, all_revoked c.args.number c.self.inside.rows) (distinct_revoked c.args.number c.self.inside.rows c.self.invariant)

pub returns : goal.returns
returns c = rw (c.change_all.ensures, all_revoked c.args.number c.self.inside.rows, c.self.view_is) refl
