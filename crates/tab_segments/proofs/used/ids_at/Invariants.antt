use Rattle.std.proofs.Common.{◌++◌, ◌≡◌, map}
use Rattle.std.specs.Map.{keys_of}
use Rattle.tab_segments.specs.Leading.{entries_at}
use Rattle.tab_segments.proofs.used.ids_at.Given as goal

abbrev pub invariant-loop-place : goal.invariant-loop-place
invariant-loop-place l =
    l.ids.items ++ map (λ e. e.row.id) (entries_at l.entries.items l.place-iterator) ≡ map (λ e. e.row.id) (entries_at l.entries.items (keys_of l.places.entries))
