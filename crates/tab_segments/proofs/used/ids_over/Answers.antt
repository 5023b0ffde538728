use Rattle.book_rows.specs.Visible.{is_used_over}
use Rattle.tab_segments.proofs.Places.{ids_filtered}
use Rattle.tab_segments.proofs.used.ids_over.Goals as goal

pub returns : goal.returns
returns c =
    rw (← ids_filtered (is_used_over c.args.source.now c.args.span) c.args.entries.now.items, ← c.in_ok-places.ensures) c.ids_at.ensures
