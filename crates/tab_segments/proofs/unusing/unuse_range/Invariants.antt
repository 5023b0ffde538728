use Rattle.std.proofs.Common.{◌≡◌, map}
use Rattle.tab_segments.specs.Leading.{AreNoMore, unused_entry}
use Rattle.tab_segments.proofs.Unused.{IsToCome}
use Rattle.tab_segments.proofs.unusing.unuse_range.Given as goal

abbrev pub invariant-loop-key : goal.invariant-loop-key
invariant-loop-key l =
    (goal.iterator-loop-key).can_next l.key-iterator
    × (goal.iterator-loop-key).is_finite l.key-iterator
    × (map (unused_entry l.source l.span) l.entries.items ≡ map (unused_entry l.source l.span) l.fn.entries.items)
    × AreNoMore l.source l.span l.fn.entries.items l.entries.items
    × IsToCome l.source l.span l.entries.items l.fn.range l.keys.entries l.key-iterator
