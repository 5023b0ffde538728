use Rattle.std.proofs.Common.{length, ◌-◌, ◌≤◌, ◌≡◌}
use Rattle.overlord_cli.proofs.store_file.StoreFile.read_at.Given as goal

-- what was filled lies within the piece, which keeps its length
abbrev pub invariant-loop-filled : goal.invariant-loop-filled
invariant-loop-filled l = (l.filled ≤ length l.into) × (length l.into ≡ length l.initial.into)

abbrev pub decreases-loop-filled : goal.decreases-loop-filled
decreases-loop-filled l = length l.initial.into - l.filled
