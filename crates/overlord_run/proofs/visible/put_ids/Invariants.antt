use Rattle.std.proofs.Common.{◌≡◌, vec_len}
use Rattle.overlord_run.specs.Visible.{put_all}
use Rattle.overlord_run.proofs.visible.put_ids.Given as goal

-- what is left to put makes of the set what all makes of the one at first
abbrev pub invariant-loop-id : goal.invariant-loop-id
invariant-loop-id l = put_all l.ids.items l.seen.keys ≡ put_all l.fn.ids.items l.initial.seen.keys

abbrev pub decreases-loop-id : goal.decreases-loop-id
decreases-loop-id l = vec_len l.ids
