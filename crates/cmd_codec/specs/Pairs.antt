-- Readers one after the other, and a reader of at least one id.
use Rattle.std.specs.Prelude.{Some, None, if◌then◌else◌}
use Rattle.wire_fields.specs.Fields.{◌>>=◌}
use Rattle.book_rows.specs.Lists.{is_empty}
use Rattle.cmd_codec.specs.Reading.{Reader, id_at, list_at}
use Rattle.cmd_codec.specs.declared.values.Tombstones.{Tombstones}

-- two values, one after the other
unfoldable pub both_at : {A B : Type 0} → Reader A → Reader B → Reader (A × B)
both_at first second bytes = do
  a ← first bytes
  b ← second a.1
  Some ((a.0, b.0), b.1)

-- a list of ids that isn't empty
unfoldable pub tombstones_at : Reader Tombstones
tombstones_at bytes = do
  ids ← list_at id_at bytes
  if is_empty ids.0 then None else Some (record { ids = ids.0 }, ids.1)
