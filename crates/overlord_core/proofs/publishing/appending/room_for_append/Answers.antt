use Rattle.std.proofs.Common.{◌++◌, ◌∙◌, ◌∷◌, List, [], ap, subst, sym}
use Rattle.book_rows.specs.Offsets.{advanced}
use Rattle.book_rows.specs.declared.rows.Book.{Book}
use Rattle.book_rows.specs.declared.rows.Publication.{Publication}
use Rattle.book_rows.specs.declared.rows.SegmentRow.{SegmentRow}
use Rattle.book_rows.specs.declared.rows.UpgradeRow.{UpgradeRow}
use Rattle.tab_streams.specs.Order.{Ascend}
use Rattle.upgrade_plan.specs.declared.appending.AppendRows.{AppendRows}
use Rattle.overlord_core.specs.Commits.{committed_by, with_append_rows}
use Rattle.overlord_core.proofs.publishing.appending.room_for_append.Goals as goal

pub room_for_append-requires-clause-stored : goal.room_for_append-requires-clause-stored
room_for_append-requires-clause-stored c = subst (λ (x : Book). Ascend x.offsets) (sym c.core.view_is) c.requires.sound.shape.keys.offsets

pub returns : goal.returns
returns c =
    let b : Book = c.args.core.now in
    let m : Publication = c.args.publication.now in
    let rows : AppendRows = c.args.rows.now in
    c.room_for_append.ensures (committed_by m (with_append_rows rows m.adds b))
    (ap (λ (x : Book). x.segments ++ rows.segments.items) (sym c.core.view_is) ∙ ap (λ (xs : List SegmentRow). c.core.inside.segments.segments ++ xs) (sym c.deref.ensures.value))
    (ap (λ (x : Book). x.upgrades ++ rows.upgrades.items) (sym c.core.view_is) ∙ ap (λ (us : List UpgradeRow). c.core.inside.pendings.upgrades ++ us) (sym c.deref-2.ensures.value))
    (ap (λ (x : Book). x.publications ++ m ∷ []) (sym c.core.view_is))
    (ap (λ (x : Book). advanced x.offsets m.source m.ranges) (sym c.core.view_is))
