use Rattle.std.proofs.Common.{◌+◌, ◌∙◌, ap, length, sym}
use Rattle.std.proofs.lemmas.List.{length_push}
use Rattle.book_rows.specs.Publications.{drop_publication}
use Rattle.book_rows.specs.Rewrite.{after_drop}
use Rattle.book_rows.specs.declared.rows.Book.{Book}
use Rattle.overlord_core.proofs.publishing.dropping.room_for_drop.Goals as goal

pub returns : goal.returns
returns c =
    let b : Book = c.args.core.now in
    c.room_for_drop.ensures (after_drop c.args.source.now c.args.span b)
    (length_push b.publications (drop_publication c.args.source.now c.args.span) ∙ ap (λ (x : Book). length x.publications + 1) (sym c.core.view_is))
