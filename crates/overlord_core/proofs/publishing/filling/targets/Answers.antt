use Rattle.book_rows.specs.Over.{check_over}
use Rattle.book_rows.specs.Publications.{Publish}
use Rattle.book_rows.specs.declared.rows.Book.{Book}
use Rattle.publish_core.specs.Answers.{IsChecked}
use Rattle.publish_core.specs.Kinds.{filling_of}
use Rattle.publish_core.specs.Tables.{with_tables}
use Rattle.std.proofs.Common.{subst}
use Rattle.book_core.specs.Publishing.{publish_of}
use Rattle.overlord_core.proofs.publishing.filling.targets.Goals as goal

pub returns : goal.returns
returns c =
    let b : Book = c.args.core.now in
    let p : Publish = publish_of c.args.publish.now in
    subst (λ (x : Book). IsChecked c.targets_for.result (check_over (filling_of c.args.filling) (with_tables (record { chunks = x.chunks; segments = x.segments }) (record { pendings = x.pendings; upgrades = x.upgrades }) x.posses b) p c.args.row.now))
    c.core.view_is (c.targets_for.ensures b p.ranges)
