use Rattle.std.proofs.Common.{None, find, not, sym, ◌≡◌}
use Rattle.book_rows.specs.Over.{both_in_order, is_placed}
use Rattle.publish_core.proofs.PlacedIds.{both_placed, spans_ascend}
use Rattle.publish_core.proofs.filled.bad_span.Goals as goal

pub first_unfilled-requires-clause-ids : goal.first_unfilled-requires-clause-ids
first_unfilled-requires-clause-ids c =
    let none : find (λ a. not (is_placed c.args.source.now c.args.spans.now a)) (both_in_order c.args.ids.now c.args.tombstones.now) ≡ None = sym c.in_default-first_misplaced.ensures in
    spans_ascend c.args.source.now c.args.spans.now c.args.ids.now c.requires.ids
    (both_placed c.args.source.now c.args.spans.now c.args.ids.now c.args.tombstones.now c.requires.ids c.requires.tombstones none).0

pub first_unfilled-requires-clause-tombstones : goal.first_unfilled-requires-clause-tombstones
first_unfilled-requires-clause-tombstones c =
    let none : find (λ a. not (is_placed c.args.source.now c.args.spans.now a)) (both_in_order c.args.ids.now c.args.tombstones.now) ≡ None = sym c.in_default-first_misplaced.ensures in
    spans_ascend c.args.source.now c.args.spans.now c.args.tombstones.now c.requires.tombstones
    (both_placed c.args.source.now c.args.spans.now c.args.ids.now c.args.tombstones.now c.requires.ids c.requires.tombstones none).1
