use Rattle.std.proofs.Common.{◌∙◌, ◌≡◌, ℤ, ap, of_z, option_copied, option_map, rules, subst, to_z, w64}
use Rattle.std.proofs.lemmas.Int.{to_z-of_z}
use Rattle.iv_span.specs.Extent.{Extent}
use Rattle.tab_segments.specs.Leading.{rows_in}
use Rattle.tab_segments.specs.SegmentRows.{visible_chunk}
use Rattle.tab_segments.specs.declared.entries.Entry.{Entry}
use Rattle.tab_segments.proofs.Greatest.{chunk_of_led}
use Rattle.tab_segments.proofs.visible.visible_in.Goals as goal

abbrev chunk_in : Entry → Extent × ℤ
chunk_in e = (e.row.id.span, e.row.id.version)

pub returns-in-Some : goal.returns-in-Some
returns-in-Some c =
    let rows = rows_in c.args.entries.now.items in
    let found : option_map chunk_in (option_copied c.visible_entry.result) ≡ visible_chunk rows c.args.source.now c.args.at =
    subst (λ t. option_map chunk_in (option_copied c.visible_entry.result) ≡ visible_chunk rows c.args.source.now t) (to_z-of_z w64 c.args.at c.ranges.at)
    (ap (option_map chunk_in) c.visible_entry.ensures ∙ chunk_of_led c.args.source.now (to_z w64 (of_z w64 c.args.at)) c.args.entries.now.items c.requires.led) in
    search rules

pub returns-in-None : goal.returns-in-None
returns-in-None c =
    let rows = rows_in c.args.entries.now.items in
    let found : option_map chunk_in (option_copied c.visible_entry.result) ≡ visible_chunk rows c.args.source.now c.args.at =
    subst (λ t. option_map chunk_in (option_copied c.visible_entry.result) ≡ visible_chunk rows c.args.source.now t) (to_z-of_z w64 c.args.at c.ranges.at)
    (ap (option_map chunk_in) c.visible_entry.ensures ∙ chunk_of_led c.args.source.now (to_z w64 (of_z w64 c.args.at)) c.args.entries.now.items c.requires.led) in
    search rules
