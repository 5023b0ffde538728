use Rattle.wire_fields.proofs.FieldsTaken.{byte_taken, taken16, taken32, taken64, signed_taken, text_taken}
use Rattle.wire_fields.proofs.laws.values_have_one_field.Goals as goal

pub returns : goal.returns
returns c = record {
  byte = byte_taken;
  two_bytes = taken16;
  four_bytes = taken32;
  eight_bytes = taken64;
  signed = signed_taken;
  text = text_taken;
}
