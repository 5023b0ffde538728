use Rattle.std.proofs.Common.{drop, find, ◌≡◌}
use Rattle.book_rows.specs.Append.{version_overlaps}
use Rattle.publish_core.proofs.versions.first_used.Given as goal

-- the first is still to come
abbrev pub invariant-loop-target : goal.invariant-loop-target
invariant-loop-target l =
    find (λ x. version_overlaps l.segments.chunks l.source x.span x.version) (drop l.target-index l.targets) ≡ find (λ x. version_overlaps l.segments.chunks l.source x.span x.version) l.targets
