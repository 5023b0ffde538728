use Rattle.std.proofs.Common.{drop, find, not, ◌≡◌}
use Rattle.book_rows.specs.Over.{is_filled}
use Rattle.publish_core.proofs.filled.first_unfilled.Given as goal

-- the first is still to come
abbrev pub invariant-loop-span : goal.invariant-loop-span
invariant-loop-span l = find (λ s. not (is_filled l.ids l.tombstones s)) (drop l.span-index l.spans) ≡ find (λ s. not (is_filled l.ids l.tombstones s)) l.spans
