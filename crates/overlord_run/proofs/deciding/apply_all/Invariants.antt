use Rattle.std.proofs.Common.{◌≡◌, drop}
use Rattle.cmd_codec.specs.Records.{AreSpelled}
use Rattle.overlord_run.specs.Held.{book_in}
use Rattle.overlord_rules.specs.OverlordRules.{apply}
use Rattle.overlord_run.proofs.deciding.apply_all.Given as goal

abbrev pub invariant-loop-command : goal.invariant-loop-command
invariant-loop-command l = record {
  rest : AreSpelled (drop l.command-index l.commands);
  same : apply (book_in l.core) (drop l.command-index l.commands) ≡ apply (book_in l.initial.core) l.commands;
}
