use Rattle.std.proofs.Common.{◌≡◌, fold, take}
use Rattle.row_index.specs.Digests.{mix}
use Rattle.row_index.proofs.digests.mix_bytes.Given as goal

abbrev pub invariant-loop-byte : goal.invariant-loop-byte
invariant-loop-byte l = l.mixed ≡ fold mix l.digest (take l.byte-index l.bytes)
