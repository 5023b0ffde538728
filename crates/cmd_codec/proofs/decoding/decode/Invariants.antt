use Rattle.std.proofs.Common.{◌≡◌, ◌+◌, ◌<◌, ◌++◌, length}
use Rattle.cmd_codec.specs.Records.{record_of, AreSpelled}
use Rattle.wire_fields.specs.Fields.{AreBytes}
use Rattle.cmd_codec.proofs.decoding.decode.Given as goal

-- the body is the spelling of the commands so far and the bytes still to be read
abbrev pub invariant-loop-cursor : goal.invariant-loop-cursor
invariant-loop-cursor l = record {
  parts : l.body ≡ record_of l.commands.items ++ l.cursor.rest;
  spelled : AreSpelled l.commands.items;
  place : l.cursor.place + length l.cursor.rest ≡ length l.body;
  fits : AreBytes l.cursor.rest;
  some : 0 < length l.cursor.rest + length l.commands.items;
}

abbrev pub decreases-loop-cursor : goal.decreases-loop-cursor
decreases-loop-cursor l = length l.cursor.rest
