use Rattle.std.proofs.Common.{slice_get}
use Rattle.row_index.specs.Index.{IsIndexed}
use Rattle.tab_segments.specs.Keys.{entry_keys}
use Rattle.tab_segments.proofs.clearing.clear_range.Given as goal

abbrev pub invariant-loop : goal.invariant-loop
invariant-loop l = IsIndexed entry_keys (slice_get l.entries.items) l.keys.entries
