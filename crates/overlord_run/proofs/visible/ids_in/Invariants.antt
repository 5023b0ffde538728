use Rattle.std.proofs.Common.{[], ◌≡◌, vec_len}
use Rattle.overlord_run.proofs.PutIds.{put_parts}
use Rattle.overlord_run.proofs.visible.ids_in.Given as goal

-- what is left to put makes of the set what all makes of none
abbrev pub invariant-loop-part : goal.invariant-loop-part
invariant-loop-part l = put_parts l.parts.items l.seen.keys ≡ put_parts l.fn.parts.items []

abbrev pub decreases-loop-part : goal.decreases-loop-part
decreases-loop-part l = vec_len l.parts
