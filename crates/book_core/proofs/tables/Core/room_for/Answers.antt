use Rattle.std.proofs.Common.{◌≡◌, ◌∙◌, List, ap, subst, sym, ℕ}
use Rattle.book_rows.specs.Allocation.{allotted}
use Rattle.book_rows.specs.Grant.{book_granted}
use Rattle.book_rows.specs.Lists.{stands_in}
use Rattle.book_rows.specs.Locks.{stripped}
use Rattle.book_rows.specs.Outcome.{no_room}
use Rattle.book_rows.specs.declared.answers.NewPending.{NewPending}
use Rattle.book_rows.specs.declared.rows.Book.{Book}
use Rattle.seg_alloc.specs.Room.{AreWithin, own_tables, with_tables}
use Rattle.seg_alloc.proofs.Rooms.{within_book}
use Rattle.book_core.proofs.tables.Core.room_for.Goals as goal

pub room_for-requires : goal.room_for-requires
room_for-requires c = subst (λ (x : Book). AreWithin x.chunks x.pendings) (sym c.self.view_is) (within_book c.args.self.now c.requires.shape.limits.room)

pub returns : goal.returns
returns c = λ task.
    let n : NewPending = c.args.pending.now in
    let after : Book = book_granted c.args.self.now task c.args.lock.now.granted in
    let said : c.room_for.result ≡ no_room own_tables (allotted n (with_tables c.self.inside.segments.chunks (stripped (stands_in c.as_slice.result.now) c.self.inside.pendings.pendings) after)) = c.room_for.ensures after in
    said
    ∙ ap (λ (ns : List ℕ). no_room own_tables (allotted n (with_tables c.self.inside.segments.chunks (stripped (stands_in ns) c.self.inside.pendings.pendings) after))) c.as_slice.ensures
    ∙ ap (λ (x : Book). no_room own_tables (allotted n (with_tables x.chunks (stripped (stands_in c.args.lock.now.granted.revoked) x.pendings) after))) c.self.view_is
