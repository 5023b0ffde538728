use Rattle.std.proofs.Common.{[], ◌≡◌, vec_len}
use Rattle.timeline_view.specs.Looks.{is_read, put_all_read}
use Rattle.timeline_view.proofs.replacing.roots_read.Given as goal

-- what is left to do makes of the roots what all makes of none
abbrev pub invariant-loop-row : goal.invariant-loop-row
invariant-loop-row l =
    put_all_read (is_read l.looks l.streams.publications l.since) l.rows.items l.roots.keys ≡ put_all_read (is_read l.looks l.streams.publications l.since) l.fn.rows.items []

abbrev pub decreases-loop-row : goal.decreases-loop-row
decreases-loop-row l = vec_len l.rows
