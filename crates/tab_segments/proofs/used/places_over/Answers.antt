use Rattle.book_rows.specs.Visible.{is_used_over}
use Rattle.tab_segments.proofs.Places.{entries_found}
use Rattle.tab_segments.proofs.used.places_over.Goals as goal

pub returns : goal.returns
returns c =
    entries_found (λ e. is_used_over c.args.source.now c.args.span e.row) c.args.entries.now.items c.in_ok-places.places.entries c.len-count.ensures.ordered c.in_ok-places.ensures.sound c.in_ok-places.ensures.all
