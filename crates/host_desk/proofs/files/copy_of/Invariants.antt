use Rattle.std.proofs.Common.{◌≡◌, take}
use Rattle.host_desk.specs.Replay.{items_of}
use Rattle.host_desk.proofs.files.copy_of.Given as goal

abbrev pub invariant-loop-file : goal.invariant-loop-file
invariant-loop-file l = items_of l.copy.items ≡ items_of (take l.file-index l.files)
