-- Reading commands. A reader gives a value and the bytes after it, or nothing.
use Rattle.std.specs.Prelude.{ℕ, zero, suc, List, [], ◌∷◌, Option, Some, None, ◌==◌, int_lt, if◌then◌else◌}
use Rattle.std.specs.Int.{w16, w32, w64}
use Rattle.iv_time.specs.declared.granularity.Granularity.{Granularity}
use Rattle.iv_time.specs.declared.granularity.Granularity.TheVariants.{Minute, FifteenMinute, Hour, Day, Week, Month, Year}
use Rattle.iv_span.specs.Extent.{Extent}
use Rattle.seg_names.specs.Names.{is_name, is_task_id}
use Rattle.seg_names.specs.declared.seg_id.SegId.{SegId}
use Rattle.wire_fields.specs.Fields.{◌>>=◌, byte_at, number_at, signed_at, text_at}
use Rattle.book_rows.specs.Lists.{is_empty}
use Rattle.book_rows.specs.Form.{keeps_form}
use Rattle.book_rows.specs.declared.kinds.TaskKind.{TaskKind}
use Rattle.book_rows.specs.declared.kinds.TaskKind.TheVariants.{Realtime, Batch, Compaction, Other}
use Rattle.book_rows.specs.declared.kinds.LockKind.{LockKind}
use Rattle.book_rows.specs.declared.kinds.LockKind.TheVariants as lock_kind
use Rattle.book_rows.specs.declared.kinds.TaskStatus.{TaskStatus}
use Rattle.book_rows.specs.declared.kinds.TaskStatus.TheVariants.{Waiting, Running, Success, Failed}
use Rattle.book_rows.specs.declared.rows.Want.{Want}
use Rattle.book_rows.specs.declared.rows.Offset.{Offset}
use Rattle.book_rows.specs.declared.rows.Range.{Range}
use Rattle.book_rows.specs.declared.rows.Ranges.{Ranges}
use Rattle.book_rows.specs.declared.commands.Command.{Command}
use Rattle.book_rows.specs.declared.commands.Command.TheVariants.{Submit, Manage, Lock, Unlock, Allocate, Append, Insert, Replace, End, Drop, Reset, Supervise, Tick, Paused, Checkpoint}
use Rattle.cmd_codec.specs.declared.tag.Tag.{Tag}
use Rattle.cmd_codec.specs.declared.tag.Tag.TheVariants as tag

-- a reader of a kind of value
abbrev pub Reader : Type 0 → Type 0
Reader A = List ℕ → Option (A × List ℕ)

unfoldable pub name_at : Reader (List ℕ)
name_at bytes = do
  text ← text_at bytes
  if is_name text.0 then Some text else None

unfoldable pub task_at : Reader (List ℕ)
task_at bytes = do
  text ← text_at bytes
  if is_task_id text.0 then Some text else None

abbrev pub kind_of : ℕ → Option TaskKind
kind_of code = if code == 1 then Some Realtime else (if code == 2 then Some Batch else (if code == 3 then Some Compaction else (if code == 4 then Some Other else None)))

abbrev pub lock_kind_of : ℕ → Option LockKind
lock_kind_of code = if code == 1 then Some lock_kind.Exclusive else (if code == 2 then Some lock_kind.Shared else (if code == 3 then Some lock_kind.Append else (if code == 4 then Some lock_kind.Replace else None)))

abbrev pub status_of : ℕ → Option TaskStatus
status_of code = if code == 1 then Some Waiting else (if code == 2 then Some Running else (if code == 3 then Some Success else (if code == 4 then Some Failed else None)))

abbrev pub granularity_of : ℕ → Option Granularity
granularity_of code = if code == 1 then Some Minute else (if code == 2 then Some FifteenMinute else (if code == 3 then Some Hour else (if code == 4 then Some Day else (if code == 5 then Some Week else (if code == 6 then Some Month else (if code == 7 then Some Year else None))))))

-- a value that has a code of one byte
unfoldable pub code_at : {A : Type 0} → (ℕ → Option A) → Reader A
code_at value_of bytes = do
  code ← byte_at bytes
  value ← value_of code.0
  Some (value, code.1)

unfoldable pub span_at : Reader Extent
span_at bytes = do
  start ← signed_at bytes
  end ← signed_at start.1
  if int_lt start.0 end.0 then Some (record { start = start.0; end = end.0 }, end.1) else None

unfoldable pub id_at : Reader SegId
id_at bytes = do
  source ← name_at bytes
  span ← span_at source.1
  version ← signed_at span.1
  part ← number_at w32 version.1
  Some (record { source = source.0; span = span.0; version = version.0; part = part.0 }, part.1)

unfoldable pub want_at : Reader Want
want_at bytes = do
  kind ← code_at lock_kind_of bytes
  span ← span_at kind.1
  Some (record { lock_kind = kind.0; span = span.0 }, span.1)

unfoldable pub offset_at : Reader Offset
offset_at bytes = do
  partition ← number_at w32 bytes
  offset ← number_at w64 partition.1
  Some (record { partition = partition.0; offset = offset.0 }, offset.1)

unfoldable pub range_at : Reader Range
range_at bytes = do
  partition ← number_at w32 bytes
  start ← number_at w64 partition.1
  end ← number_at w64 start.1
  Some (record { partition = partition.0; start = start.0; end = end.0 }, end.1)

-- so many values, one after another
unfoldable pub each_at : {A : Type 0} → Reader A → ℕ → Reader (List A)
each_at read zero bytes = Some ([], bytes)
each_at read (suc n) bytes = do
  first ← read bytes
  others ← each_at read n first.1
  Some (first.0 ∷ others.0, others.1)

unfoldable pub list_at : {A : Type 0} → Reader A → Reader (List A)
list_at read bytes = do
  count ← number_at w16 bytes
  each_at read count.0 count.1

unfoldable pub some_at : {A : Type 0} → Reader A → Reader (Option A)
some_at read bytes = do
  value ← read bytes
  Some (Some value.0, value.1)

-- no value where the byte is 0, and a value after a byte 1
abbrev pub option_by : {A : Type 0} → Reader A → ℕ → Reader (Option A)
option_by read code bytes = if code == 0 then Some (None, bytes) else (if code == 1 then some_at read bytes else None)

unfoldable pub option_at : {A : Type 0} → Reader A → Reader (Option A)
option_at read bytes = do
  code ← byte_at bytes
  option_by read code.0 code.1

unfoldable pub ranges_at : Reader Ranges
ranges_at bytes = do
  stream ← name_at bytes
  parts ← list_at range_at stream.1
  Some (record { stream = stream.0; parts = parts.0 }, parts.1)

unfoldable pub submit_at : Reader Command
submit_at bytes = do
  task ← task_at bytes
  group ← task_at task.1
  source ← name_at group.1
  kind ← code_at kind_of source.1
  priority ← number_at w32 kind.1
  locks ← list_at want_at priority.1
  Some (Submit task.0 group.0 source.0 kind.0 priority.0 locks.0, locks.1)

unfoldable pub manage_at : Reader Command
manage_at bytes = do
  now ← signed_at bytes
  Some (Manage now.0, now.1)

unfoldable pub lock_at : Reader Command
lock_at bytes = do
  task ← task_at bytes
  kind ← code_at lock_kind_of task.1
  span ← span_at kind.1
  now ← signed_at span.1
  Some (Lock task.0 kind.0 span.0 now.0, now.1)

unfoldable pub unlock_at : Reader Command
unlock_at bytes = do
  task ← task_at bytes
  lock ← number_at w64 task.1
  Some (Unlock task.0 lock.0, lock.1)

unfoldable pub allocate_at : Reader Command
allocate_at bytes = do
  task ← task_at bytes
  kind ← code_at lock_kind_of task.1
  sequence ← name_at kind.1
  previous ← option_at id_at sequence.1
  at ← signed_at previous.1
  granularity ← code_at granularity_of at.1
  now ← signed_at granularity.1
  Some (Allocate task.0 kind.0 sequence.0 previous.0 at.0 granularity.0 now.0, now.1)

unfoldable pub append_at : Reader Command
append_at bytes = do
  task ← task_at bytes
  ids ← list_at id_at task.1
  ranges ← option_at ranges_at ids.1
  Some (Append task.0 ids.0 ranges.0, ranges.1)

-- an `insert` or `replace` without tombstones
unfoldable pub plain_at : (List ℕ → List Extent → List SegId → List SegId → Option Ranges → Command) → Reader Command
plain_at make bytes = do
  task ← task_at bytes
  spans ← list_at span_at task.1
  ids ← list_at id_at spans.1
  ranges ← option_at ranges_at ids.1
  Some (make task.0 spans.0 ids.0 [] ranges.0, ranges.1)

-- an `insert` or `replace` with at least one tombstone
unfoldable pub marked_at : (List ℕ → List Extent → List SegId → List SegId → Option Ranges → Command) → Reader Command
marked_at make bytes = do
  task ← task_at bytes
  spans ← list_at span_at task.1
  ids ← list_at id_at spans.1
  ranges ← option_at ranges_at ids.1
  tombstones ← list_at id_at ranges.1
  if is_empty tombstones.0 then None else Some (make task.0 spans.0 ids.0 tombstones.0 ranges.0, tombstones.1)

unfoldable pub end_at : Reader Command
end_at bytes = do
  task ← task_at bytes
  status ← code_at status_of task.1
  Some (End task.0 status.0, status.1)

unfoldable pub drop_at : Reader Command
drop_at bytes = do
  source ← name_at bytes
  span ← span_at source.1
  Some (Drop source.0 span.0, span.1)

unfoldable pub reset_at : Reader Command
reset_at bytes = do
  source ← name_at bytes
  stream ← name_at source.1
  offsets ← list_at offset_at stream.1
  Some (Reset source.0 stream.0 offsets.0, offsets.1)

unfoldable pub supervise_at : Reader Command
supervise_at bytes = do
  source ← name_at bytes
  stream ← name_at source.1
  partitions ← number_at w32 stream.1
  task_count ← number_at w32 partitions.1
  replicas ← number_at w32 task_count.1
  task_duration ← signed_at replicas.1
  completion_timeout ← signed_at task_duration.1
  Some (Supervise source.0 stream.0 partitions.0 task_count.0 replicas.0 task_duration.0 completion_timeout.0, completion_timeout.1)

unfoldable pub tick_at : Reader Command
tick_at bytes = do
  now ← signed_at bytes
  Some (Tick now.0, now.1)

unfoldable pub paused_at : Reader Command
paused_at bytes = do
  task ← task_at bytes
  offsets ← list_at offset_at task.1
  Some (Paused task.0 offsets.0, offsets.1)

unfoldable pub checkpoint_at : Reader Command
checkpoint_at bytes = do
  task ← task_at bytes
  offsets ← list_at offset_at task.1
  Some (Checkpoint task.0 offsets.0, offsets.1)

-- the command that a tag from ten on stands for
abbrev pub tag_from_ten : ℕ → Option Tag
tag_from_ten code = if code == 10 then Some tag.Drop else (if code == 11 then Some tag.Reset else (if code == 12 then Some tag.Supervise else (if code == 13 then Some tag.Tick else (if code == 14 then Some tag.Paused else (if code == 15 then Some tag.Checkpoint else (if code == 16 then Some tag.MarkedInsert else (if code == 17 then Some tag.MarkedReplace else None)))))))

-- the command that a tag stands for
abbrev pub tag_of : ℕ → Option Tag
tag_of code = if code == 1 then Some tag.Submit else (if code == 2 then Some tag.Manage else (if code == 3 then Some tag.Lock else (if code == 4 then Some tag.Unlock else (if code == 5 then Some tag.Allocate else (if code == 6 then Some tag.Append else (if code == 7 then Some tag.Insert else (if code == 8 then Some tag.Replace else (if code == 9 then Some tag.End else tag_from_ten code))))))))

-- the values after a tag
abbrev pub values_at : Tag → Reader Command
values_at tag.Submit = submit_at
values_at tag.Manage = manage_at
values_at tag.Lock = lock_at
values_at tag.Unlock = unlock_at
values_at tag.Allocate = allocate_at
values_at tag.Append = append_at
values_at tag.Insert = plain_at Insert
values_at tag.Replace = plain_at Replace
values_at tag.End = end_at
values_at tag.Drop = drop_at
values_at tag.Reset = reset_at
values_at tag.Supervise = supervise_at
values_at tag.Tick = tick_at
values_at tag.Paused = paused_at
values_at tag.Checkpoint = checkpoint_at
values_at tag.MarkedInsert = marked_at Insert
values_at tag.MarkedReplace = marked_at Replace

-- A command that keeps its form, and the bytes after it.
unfoldable pub command_at : Reader Command
command_at bytes = do
  tag ← code_at tag_of bytes
  command ← values_at tag.0 tag.1
  if keeps_form command.0 then Some command else None
