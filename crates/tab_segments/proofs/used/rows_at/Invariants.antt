use Rattle.std.proofs.Common.{◌++◌, ◌≡◌}
use Rattle.std.specs.Map.{keys_of}
use Rattle.tab_segments.specs.Leading.{entries_at, rows_in}
use Rattle.tab_segments.proofs.used.rows_at.Given as goal

abbrev pub invariant-loop-place : goal.invariant-loop-place
invariant-loop-place l =
    l.rows.items ++ rows_in (entries_at l.entries.items l.place-iterator) ≡ rows_in (entries_at l.entries.items (keys_of l.places.entries))
