use Rattle.std.proofs.Common.{slice_get}
use Rattle.row_index.specs.Index.{IsIndexed}
use Rattle.tab_segments.specs.Keys.{entry_keys}
use Rattle.tab_segments.proofs.clearing.clear_keys.Given as goal

abbrev pub invariant-loop-at : goal.invariant-loop-at
invariant-loop-at l = IsIndexed entry_keys (slice_get l.entries.items) l.keys.entries
