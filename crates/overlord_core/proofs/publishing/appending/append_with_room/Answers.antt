use Rattle.std.proofs.Common.{◌≡◌, [], length}
use Rattle.book_rows.specs.Append.{after_append, rows_of_root, upgrade_of}
use Rattle.book_rows.specs.Lists.{gathered}
use Rattle.book_rows.specs.PublishSteps.{commit_reply}
use Rattle.book_rows.specs.declared.kinds.PubKind.TheVariants as PubKinds
use Rattle.book_rows.specs.declared.rows.Book.{Book}
use Rattle.publish_rows.specs.Room.{append_tables}
use Rattle.overlord_core.specs.Commits.{committed_by, with_append_rows}
use Rattle.overlord_core.proofs.Plans.{append_is, fits_by}
use Rattle.overlord_core.proofs.publishing.appending.append_with_room.Goals as goal

pub returns-in-Some : goal.returns-in-Some
returns-in-Some c = λ t p own.
    let b : Book = c.args.core.now in
    let segments : c.in_ok-rows.rows.segments.items ≡ gathered (λ a. rows_of_root (length b.publications) a b.pendings) c.args.publication.adds = rw c.as_slice.ensures at c.in_ok-rows.ensures.segments in
    let upgrades : c.in_ok-rows.rows.upgrades.items ≡ gathered (upgrade_of b.posses b.chunks) c.args.publication.adds = rw c.as_slice.ensures at c.in_ok-rows.ensures.upgrades in
    fits_by append_tables b (after_append t p b) (committed_by c.args.publication (with_append_rows c.in_ok-rows.rows c.args.publication.adds b)) (commit_reply PubKinds.Append (length b.publications)) _
    (append_is b t p c.args.publication c.in_ok-rows.rows own segments upgrades) c.in-Some.ensures

pub returns-in-None : goal.returns-in-None
returns-in-None c = λ t p own.
    let b : Book = c.args.core.now in
    let segments : c.in_ok-rows.rows.segments.items ≡ gathered (λ a. rows_of_root (length b.publications) a b.pendings) c.args.publication.adds = rw c.as_slice.ensures at c.in_ok-rows.ensures.segments in
    let upgrades : c.in_ok-rows.rows.upgrades.items ≡ gathered (upgrade_of b.posses b.chunks) c.args.publication.adds = rw c.as_slice.ensures at c.in_ok-rows.ensures.upgrades in
    fits_by append_tables b (after_append t p b) (committed_by c.args.publication (with_append_rows c.in_ok-rows.rows c.args.publication.adds b)) (commit_reply PubKinds.Append (length b.publications)) _
    (append_is b t p c.args.publication c.in_ok-rows.rows own segments upgrades) c.in-None.ensures
