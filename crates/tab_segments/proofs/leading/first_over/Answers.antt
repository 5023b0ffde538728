use Rattle.std.proofs.Common.{◌&&◌, ◌∙◌, ◌≡◌, Bool, ap, find, option_copied, option_map, rules}
use Rattle.book_rows.specs.Visible.{is_used_over}
use Rattle.book_rows.specs.declared.rows.SegmentRow.{SegmentRow}
use Rattle.tab_segments.specs.Leading.{rows_in}
use Rattle.tab_segments.proofs.Led.{first_led, over_whole}
use Rattle.tab_segments.proofs.leading.first_over.Goals as goal

pub returns-in-Some : goal.returns-in-Some
returns-in-Some g c =
    let passes : SegmentRow → Bool = g.T.ChunkTest.passes c.args.test.now in
    let test : SegmentRow → Bool = λ r. is_used_over c.args.source.now c.args.span r && passes r in
    let found : option_map (λ e. e.row.id) (option_copied c.first_entry.result) ≡ option_map (λ r. r.id) (find test (rows_in c.args.entries.now.items)) =
    ap (option_map (λ e. e.row.id)) c.first_entry.ensures
    ∙ first_led (λ r. r.id) test c.args.entries.now.items c.requires.led (over_whole c.args.source.now c.args.span passes (g.met.T.ChunkTest.whole c.args.test.now)) in
    search rules

pub returns-in-None : goal.returns-in-None
returns-in-None g c =
    let passes : SegmentRow → Bool = g.T.ChunkTest.passes c.args.test.now in
    let test : SegmentRow → Bool = λ r. is_used_over c.args.source.now c.args.span r && passes r in
    let found : option_map (λ e. e.row.id) (option_copied c.first_entry.result) ≡ option_map (λ r. r.id) (find test (rows_in c.args.entries.now.items)) =
    ap (option_map (λ e. e.row.id)) c.first_entry.ensures
    ∙ first_led (λ r. r.id) test c.args.entries.now.items c.requires.led (over_whole c.args.source.now c.args.span passes (g.met.T.ChunkTest.whole c.args.test.now)) in
    search rules
