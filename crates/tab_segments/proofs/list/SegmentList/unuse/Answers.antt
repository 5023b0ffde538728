use Rattle.std.proofs.Common.{◌∙◌, ap, map}
use Rattle.book_rows.specs.Rewrite.{unused}
use Rattle.tab_segments.specs.Leading.{IsReal, rows_in, unused_entry}
use Rattle.tab_segments.proofs.Led.{led_unused}
use Rattle.tab_segments.proofs.Rows.{all_map}
use Rattle.tab_segments.proofs.Unused.{indexed_unused, rows_unused}
use Rattle.tab_segments.proofs.list.SegmentList.unuse.Goals as goal

pub clear_keys-requires : goal.clear_keys-requires
clear_keys-requires c = rw c.unuse_in.ensures (indexed_unused c.args.source.now c.args.span c.self.inside.entries.items c.self.inside.keys.entries c.self.invariant.0)

pub invariant_of-self : goal.invariant_of-self
invariant_of-self c = (
  c.clear_keys.ensures,
  rw c.unuse_in.ensures (led_unused c.args.source.now c.args.span c.self.inside.entries.items c.self.invariant.1),
  rw c.unuse_in.ensures (all_map (λ d. IsReal d.row.id.span) (λ d. IsReal d.row.id.span) (unused_entry c.args.source.now c.args.span) (λ x h. h) c.self.inside.entries.items c.self.invariant.2),
)

pub returns : goal.returns
returns c =
    ap rows_in c.unuse_in.ensures
    ∙ (rows_unused c.args.source.now c.args.span c.self.inside.entries.items ∙ ap (map (unused c.args.source.now c.args.span)) c.self.view_is)
