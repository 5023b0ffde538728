-- The records of before there were tombstones, which have the tags 1 to 15.
use Rattle.std.specs.Prelude.{◌≡◌, ℕ, Bool, true, List, Option, Some, None, nat_le, if◌then◌else◌}
use Rattle.std.specs.List.{AllByRecursion}
use Rattle.wire_fields.specs.Fields.{◌>>=◌}
use Rattle.book_rows.specs.Lists.{is_empty}
use Rattle.book_rows.specs.Form.{keeps_form}
use Rattle.book_rows.specs.declared.commands.Command.{Command}
use Rattle.book_rows.specs.declared.commands.Command.TheVariants.{Submit, Manage, Lock, Unlock, Allocate, Append, Insert, Replace, End, Drop, Reset, Supervise, Tick, Paused, Checkpoint, ToReplace, Show}
use Rattle.cmd_codec.specs.Reading.{Reader, code_at, tag_of, values_at}
use Rattle.cmd_codec.specs.Records.{body_of}
use Rattle.cmd_codec.specs.declared.tag.Tag.{Tag}

abbrev pub earlier_tag_of : ℕ → Option Tag
earlier_tag_of code = if nat_le code 15 then tag_of code else None

-- A command that keeps its form, of one of the earlier tags, and the bytes after it.
unfoldable pub earlier_command_at : Reader Command
earlier_command_at bytes = do
  tag ← code_at earlier_tag_of bytes
  command ← values_at tag.0 tag.1
  if keeps_form command.0 then Some command else None

-- The commands of an earlier record's body.
abbrev pub earlier_commands_of : List ℕ → Option (List Command)
earlier_commands_of = body_of earlier_command_at

abbrev pub has_no_tombstones : Command → Bool
has_no_tombstones (Submit task group source kind priority locks) = true
has_no_tombstones (Manage now) = true
has_no_tombstones (Lock task kind span now) = true
has_no_tombstones (Unlock task lock) = true
has_no_tombstones (Allocate task kind sequence previous at granularity now) = true
has_no_tombstones (Append task ids ranges) = true
has_no_tombstones (Insert task spans ids tombstones ranges) = is_empty tombstones
has_no_tombstones (Replace task spans ids tombstones ranges) = is_empty tombstones
has_no_tombstones (End task status) = true
has_no_tombstones (Drop source span) = true
has_no_tombstones (Reset source stream offsets) = true
has_no_tombstones (Supervise source stream partitions task_count replicas task_duration completion_timeout) = true
has_no_tombstones (Tick now) = true
has_no_tombstones (Paused task offsets) = true
has_no_tombstones (Checkpoint task offsets) = true
has_no_tombstones (ToReplace task span) = true
has_no_tombstones (Show what) = true

abbrev pub HaveNoTombstones : List Command → Type 0
HaveNoTombstones = AllByRecursion (λ c. has_no_tombstones c ≡ true)
