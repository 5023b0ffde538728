use Rattle.std.proofs.Common.{List, subst, ◌≡◌}
use Rattle.std.specs.Prelude.{IfOk}
use Rattle.book_rows.specs.declared.rows.SegmentRow.{SegmentRow}
use Rattle.tab_segments.proofs.Places.{all_used}
use Rattle.tab_segments.proofs.used.rows_of.Goals as goal

pub returns : goal.returns
returns c =
    subst (λ (rows : List SegmentRow). IfOk c.rows_over.result (λ v. v.items ≡ rows)) (all_used c.args.source.now c.in-Ok.all c.in-Ok.ensures.value c.args.entries.now.items c.requires.real) c.rows_over.ensures
