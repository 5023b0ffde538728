use Rattle.std.proofs.Common.{◌≡◌, drop}
use Rattle.switch_run.specs.SwitchRules.{restore_of}
use Rattle.switch_run.proofs.switch.restore.Given as goal

abbrev pub invariant-loop-byte : goal.invariant-loop-byte
invariant-loop-byte l = record {
  same : restore_of l.is_on (drop l.byte-index l.body) ≡ restore_of l.initial.is_on l.body;
}
