use Rattle.std.proofs.Common.{◌<◌, ◌≡◌, Some, map, slice_get, ℕ, ℤ}
use Rattle.row_index.specs.Index.{HasAll}
use Rattle.span_keys.specs.Classes.{span_ranges}
use Rattle.tab_segments.specs.Keys.{used_digest}
use Rattle.tab_segments.specs.Leading.{AreNoMore, is_taken, unused_entry}
use Rattle.tab_segments.proofs.unusing.unuse_in.Given as goal

abbrev pub invariant-loop-at : goal.invariant-loop-at
invariant-loop-at l =
    (map (unused_entry l.source l.span) l.entries.items ≡ map (unused_entry l.source l.span) l.fn.entries.items)
    × AreNoMore l.source l.span l.fn.entries.items l.entries.items
    × ((i : ℕ) (g : (ℕ × ℤ) × ℤ) → i < l.at → slice_get (span_ranges (used_digest l.source) l.span) i ≡ Some g → HasAll (λ s e. ⊥) (slice_get l.entries.items) (is_taken l.source l.span) g l.keys.entries)
