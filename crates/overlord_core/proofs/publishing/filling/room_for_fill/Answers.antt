use Rattle.std.proofs.Common.{◌++◌, ◌∙◌, ◌∷◌, ◌≡◌, List, [], ap, false, nat_lt, subst, sym}
use Rattle.std.specs.List.{list_any}
use Rattle.book_rows.specs.Offsets.{advanced}
use Rattle.book_rows.specs.Outcome.{part_limit}
use Rattle.book_rows.specs.Over.{Inserting, Replacing}
use Rattle.book_rows.specs.declared.rows.Book.{Book}
use Rattle.book_rows.specs.declared.rows.ChunkRow.{ChunkRow}
use Rattle.book_rows.specs.declared.rows.PendingRow.{PendingRow}
use Rattle.book_rows.specs.declared.rows.Publication.{Publication}
use Rattle.book_rows.specs.declared.rows.SegmentRow.{SegmentRow}
use Rattle.tab_streams.specs.Order.{Ascend}
use Rattle.upgrade_plan.specs.declared.filling.OverRows.{OverRows}
use Rattle.overlord_core.specs.Commits.{committed_by, with_fill_rows}
use Rattle.book_core.proofs.NewIds.{parts_fit}
use Rattle.overlord_core.proofs.publishing.filling.room_for_fill.Goals as goal

pub room_for_insert-requires-clause-parts : goal.room_for_insert-requires-clause-parts
room_for_insert-requires-clause-parts c = subst (λ (x : Book). list_any (λ c. nat_lt part_limit c.next) x.chunks ≡ false) (sym c.core.view_is) (parts_fit c.args.core.now c.requires.sound)

pub room_for_insert-requires-clause-stored : goal.room_for_insert-requires-clause-stored
room_for_insert-requires-clause-stored c = subst (λ (x : Book). Ascend x.offsets) (sym c.core.view_is) c.requires.sound.shape.keys.offsets

pub room_for_replace-requires-clause-parts : goal.room_for_replace-requires-clause-parts
room_for_replace-requires-clause-parts c = subst (λ (x : Book). list_any (λ c. nat_lt part_limit c.next) x.chunks ≡ false) (sym c.core.view_is) (parts_fit c.args.core.now c.requires.sound)

pub room_for_replace-requires-clause-stored : goal.room_for_replace-requires-clause-stored
room_for_replace-requires-clause-stored c = subst (λ (x : Book). Ascend x.offsets) (sym c.core.view_is) c.requires.sound.shape.keys.offsets

pub returns-in-Inserting : goal.returns-in-Inserting
returns-in-Inserting c = rw c.in-Inserting.is (λ xs.
    let b : Book = c.args.core.now in
    let m : Publication = c.args.publication.now in
    let rows : OverRows = c.args.rows.now in
    c.room_for_insert.ensures (committed_by m (with_fill_rows Inserting xs rows b))
    (ap (λ (x : Book). x.chunks ++ rows.chunks.items) (sym c.core.view_is) ∙ ap (λ (ys : List ChunkRow). c.core.inside.segments.chunks ++ ys) (sym c.deref.ensures.value))
    (ap (λ (x : Book). x.segments ++ rows.segments.items) (sym c.core.view_is) ∙ ap (λ (ys : List SegmentRow). c.core.inside.segments.segments ++ ys) (sym c.deref-in-Inserting.ensures.value))
    (ap (λ (x : Book). x.publications ++ m ∷ []) (sym c.core.view_is))
    (ap (λ (x : Book). advanced x.offsets m.source m.ranges) (sym c.core.view_is)))

pub returns-in-Replacing : goal.returns-in-Replacing
returns-in-Replacing c = rw c.in-Replacing.is (λ xs.
    let b : Book = c.args.core.now in
    let m : Publication = c.args.publication.now in
    let rows : OverRows = c.args.rows.now in
    c.room_for_replace.ensures (committed_by m (with_fill_rows Replacing xs rows b))
    (ap (λ (x : Book). x.chunks ++ rows.chunks.items) (sym c.core.view_is) ∙ ap (λ (ys : List ChunkRow). c.core.inside.segments.chunks ++ ys) (sym c.deref-in-Replacing.ensures.value))
    (ap (λ (x : Book). x.segments ++ rows.segments.items) (sym c.core.view_is) ∙ ap (λ (ys : List SegmentRow). c.core.inside.segments.segments ++ ys) (sym c.deref-in-Replacing-2.ensures.value))
    (ap (λ (x : Book). x.pendings ++ rows.pendings.items) (sym c.core.view_is) ∙ ap (λ (ys : List PendingRow). c.core.inside.pendings.pendings ++ ys) (sym c.deref-in-Replacing-3.ensures.value))
    (ap (λ (x : Book). x.publications ++ m ∷ []) (sym c.core.view_is))
    (ap (λ (x : Book). advanced x.offsets m.source m.ranges) (sym c.core.view_is)))
