use Rattle.wire_fields.proofs.FieldsAgain.{byte_again, again16, again32, again64, signed_again, text_again}
use Rattle.wire_fields.proofs.laws.fields_are_read_back.Goals as goal

pub returns : goal.returns
returns c = record {
  byte = byte_again;
  two_bytes = again16;
  four_bytes = again32;
  eight_bytes = again64;
  signed = signed_again;
  text = text_again;
}
