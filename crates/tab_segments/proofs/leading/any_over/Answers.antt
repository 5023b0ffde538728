use Rattle.std.proofs.Common.{◌&&◌, ◌∙◌, true}
use Rattle.std.specs.List.{list_any}
use Rattle.book_rows.specs.Visible.{is_used_over}
use Rattle.tab_segments.specs.Leading.{rows_in}
use Rattle.tab_segments.proofs.Led.{and_end, any_led, over_whole}
use Rattle.tab_segments.proofs.leading.any_over.Goals as goal

pub returns : goal.returns
returns c =
    c.any_entry.ensures
    ∙ (
    any_led (λ r. is_used_over c.args.source.now c.args.span r && true) c.args.entries.now.items c.requires.led (over_whole c.args.source.now c.args.span (λ r. true) (λ r s on same. on))
    ∙ λ i. list_any (λ r. and_end (is_used_over c.args.source.now c.args.span r) i) (rows_in c.args.entries.now.items)
    )
