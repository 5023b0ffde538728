use Rattle.std.proofs.Common.{[], ◌≡◌, fold, take}
use Rattle.timeline_view.specs.Looks.{put_end, put_row_ends}
use Rattle.timeline_view.proofs.ends.ends_over.Given as goal

abbrev pub invariant-loop-row : goal.invariant-loop-row
invariant-loop-row l = l.ends.keys ≡ fold (put_row_ends l.span) (put_end l.span [] l.span.start) (take l.row-index l.rows)
