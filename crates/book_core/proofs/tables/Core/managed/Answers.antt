use Rattle.std.proofs.Common.{◌≡◌, subst, sym}
use Rattle.std.proofs.lemmas.Int.{to_z-of_z}
use mir.Val.{SFits}
use mir.Syntax.{w64}
use Rattle.book_rows.specs.Grant.{moment}
use Rattle.book_rows.specs.declared.rows.Book.{Book}
use Rattle.laws_locks.specs.LockShape.{HasSoundLocks}
use Rattle.book_core.specs.Managed.{managed_ids, managed_with}
use Rattle.book_core.proofs.Naming.{managed_is}
use Rattle.laws_locks.proofs.Managing.{clock_keeps}
use Rattle.book_core.proofs.tables.Core.managed.Goals as goal

pub managed_ids-requires-clause-sound : goal.managed_ids-requires-clause-sound
managed_ids-requires-clause-sound c =
    let fits : SFits w64 c.args.now = c.ranges.now in
    let moved : c.at_moment.new.self ≡ record c.args.self.now { clock = moment c.args.self.now c.args.now } = simp to_z-of_z at c.at_moment.ensures in
    subst (λ (b : Book). HasSoundLocks b) (sym moved) (clock_keeps c.args.self.now c.args.now c.requires.instant c.requires.sound)

pub returns-in-Ok : goal.returns-in-Ok
returns-in-Ok c =
    let fits : SFits w64 c.args.now = c.ranges.now in
    let moved : c.at_moment.new.self ≡ record c.args.self.now { clock = moment c.args.self.now c.args.now } = simp to_z-of_z at c.at_moment.ensures in
    let done : managed_with c.managed_ids.new.self c.managed_ids.new.told ≡ managed_ids c.args.now c.in_ok-ids.ids.items (managed_with c.at_moment.new.self (record { running = c.new.result; waiting = c.new-2.result })) =
    simp to_z-of_z at c.in-Ok.ensures in
    rw (done, c.in_ok-ids.ensures, moved, c.new.ensures, c.new-2.ensures) (managed_is c.args.self.now c.args.now c.requires.sound)
