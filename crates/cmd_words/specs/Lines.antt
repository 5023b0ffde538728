-- Which command a line is.
use Rattle.std.specs.Prelude.{ℕ, ℤ, ◌-◌, List, [], ◌∷◌, Option, Some, None, if◌then◌else◌, codes, bytes_eq, pos}
use Rattle.std.specs.Str.{is_utf8}
use Rattle.serde_json.specs.Data.{Data}
use Rattle.serde_json.specs.Find.{get}
use Rattle.serde_json.specs.Read.{read}
use Rattle.book_rows.specs.Form.{keeps_form}
use Rattle.book_rows.specs.declared.commands.Command.{Command}
use Rattle.book_rows.specs.declared.commands.What.{What}
use Rattle.book_rows.specs.declared.commands.What.TheVariants.{Tasks, Locks, Timeline, Contents, Offsets, Sequences}
use Rattle.book_rows.specs.declared.commands.Command.TheVariants.{Submit, Manage, Lock, Unlock, Allocate, Append, Insert, Replace, End, Drop, Reset, Supervise, Tick, Paused, Checkpoint, ToReplace, Show}
use Rattle.iv_time.specs.Texts.{◌>>=◌}
use Rattle.iv_time.specs.declared.granularity.Granularity.{Granularity}
use Rattle.cmd_words.specs.Values.{if_only, optional_of, some_in, text_at, name_at, task_at, task_in, kind_at, lock_kind_at, granularity_at, id_in, instant_at, span_at, whole_of, whole_at, end_status_at, duration_in}
use Rattle.cmd_words.specs.Lists.{list_in, want_of, offsets_at, ranges_in, spans_at, ids_in, ids_at}
use Rattle.cmd_words.specs.declared.lines.Overwrite.{Overwrite}
use Rattle.book_rows.specs.Kinds.{default_priority}
use Rattle.book_rows.specs.declared.kinds.LockKind.{LockKind}
use Rattle.book_rows.specs.Outcome.{number_limit}
use Rattle.book_rows.specs.declared.rows.Report.{Report}

unfoldable pub reset_of : Data → Option Command
reset_of d = do
  source ← name_at (codes "source") d
  stream ← name_at (codes "stream") d
  offsets ← offsets_at (codes "offsets") d
  if_only (codes "do" ∷ codes "offsets" ∷ codes "source" ∷ codes "stream" ∷ []) d (Some (Reset source stream offsets))

-- the rest of a `submit`: the priority is that of the kind where it is left out, and the list of locks empty
unfoldable pub submit_from : List ℕ → List ℕ → List ℕ → Data → Option Command
submit_from task group source d = do
  kind ← kind_at (codes "kind") d
  priority ← optional_of (default_priority kind) (whole_of 4294967295) (get (codes "priority") d)
  locks ← optional_of [] (list_in want_of) (get (codes "locks") d)
  if_only (codes "do" ∷ codes "group" ∷ codes "kind" ∷ codes "locks" ∷ codes "priority" ∷ codes "source" ∷ codes "task" ∷ []) d (Some (Submit task group source kind priority locks))

-- the group is the task's id where it is left out
unfoldable pub submit_of : Data → Option Command
submit_of d = do
  task ← task_at (codes "task") d
  group ← optional_of task task_in (get (codes "group") d)
  source ← name_at (codes "source") d
  submit_from task group source d

unfoldable pub manage_of : Data → Option Command
manage_of d = do
  now ← instant_at (codes "now") d
  if_only (codes "do" ∷ codes "now" ∷ []) d (Some (Manage now))

unfoldable pub lock_of : Data → Option Command
lock_of d = do
  task ← task_at (codes "task") d
  lock_kind ← lock_kind_at (codes "type") d
  span ← span_at (codes "span") d
  now ← instant_at (codes "now") d
  if_only (codes "do" ∷ codes "now" ∷ codes "span" ∷ codes "task" ∷ codes "type" ∷ []) d (Some (Lock task lock_kind span now))

-- a lock's number is below the limit
unfoldable pub unlock_of : Data → Option Command
unlock_of d = do
  task ← task_at (codes "task") d
  lock ← whole_at (number_limit - 1) (codes "lock") d
  if_only (codes "do" ∷ codes "lock" ∷ codes "task" ∷ []) d (Some (Unlock task lock))

-- the rest of an `allocate`: there is no previous id where it is left out
unfoldable pub allocate_from : LockKind → ℤ → Granularity → ℤ → Data → Option Command
allocate_from lock_kind at granularity now d = do
  task ← task_at (codes "task") d
  sequence ← name_at (codes "sequence") d
  previous ← optional_of None (some_in id_in) (get (codes "previous") d)
  if_only (codes "at" ∷ codes "do" ∷ codes "granularity" ∷ codes "now" ∷ codes "previous" ∷ codes "sequence" ∷ codes "task" ∷ codes "type" ∷ []) d (Some (Allocate task lock_kind sequence previous at granularity now))

unfoldable pub allocate_of : Data → Option Command
allocate_of d = do
  lock_kind ← lock_kind_at (codes "type") d
  at ← instant_at (codes "at") d
  granularity ← granularity_at (codes "granularity") d
  now ← instant_at (codes "now") d
  allocate_from lock_kind at granularity now d

-- there are no ranges where they are left out
unfoldable pub append_of : Data → Option Command
append_of d = do
  task ← task_at (codes "task") d
  ids ← ids_at (codes "ids") d
  ranges ← optional_of None (some_in ranges_in) (get (codes "ranges") d)
  if_only (codes "do" ∷ codes "ids" ∷ codes "ranges" ∷ codes "task" ∷ []) d (Some (Append task ids ranges))

-- what an `insert` or a `replace` names: there are no tombstones, and no ranges, where they are left out
unfoldable pub overwrite_of : Data → Option Overwrite
overwrite_of d = do
  task ← task_at (codes "task") d
  spans ← spans_at (codes "spans") d
  ids ← ids_at (codes "ids") d
  tombstones ← optional_of [] ids_in (get (codes "tombstones") d)
  ranges ← optional_of None (some_in ranges_in) (get (codes "ranges") d)
  if_only (codes "do" ∷ codes "ids" ∷ codes "ranges" ∷ codes "spans" ∷ codes "task" ∷ codes "tombstones" ∷ []) d (Some (record { task = task; spans = spans; ids = ids; tombstones = tombstones; ranges = ranges }))

unfoldable pub insert_of : Data → Option Command
insert_of d = do
  o ← overwrite_of d
  Some (Insert o.task o.spans o.ids o.tombstones o.ranges)

unfoldable pub replace_of : Data → Option Command
replace_of d = do
  o ← overwrite_of d
  Some (Replace o.task o.spans o.ids o.tombstones o.ranges)

unfoldable pub drop_of : Data → Option Command
drop_of d = do
  source ← name_at (codes "source") d
  span ← span_at (codes "span") d
  if_only (codes "do" ∷ codes "source" ∷ codes "span" ∷ []) d (Some (Drop source span))

unfoldable pub end_of : Data → Option Command
end_of d = do
  task ← task_at (codes "task") d
  status ← end_status_at (codes "status") d
  if_only (codes "do" ∷ codes "status" ∷ codes "task" ∷ []) d (Some (End task status))

-- the defaults of a supervisor: how many tasks, and how many replicas of each
abbrev pub default_count : ℕ
default_count = 1

-- how long a sequence reads: an hour
abbrev pub default_duration : ℤ
default_duration = pos 3600000

-- how long a closed sequence may wait to be published: half an hour
abbrev pub default_timeout : ℤ
default_timeout = pos 1800000

-- the rest of a `supervise`: what is left out is as a supervisor has it by default
unfoldable pub supervise_from : List ℕ → List ℕ → Data → Option Command
supervise_from source stream d = do
  partitions ← whole_at 4294967295 (codes "partitions") d
  task_count ← optional_of default_count (whole_of 4294967295) (get (codes "taskCount") d)
  replicas ← optional_of default_count (whole_of 4294967295) (get (codes "replicas") d)
  task_duration ← optional_of default_duration duration_in (get (codes "taskDuration") d)
  completion_timeout ← optional_of default_timeout duration_in (get (codes "completionTimeout") d)
  if_only (codes "completionTimeout" ∷ codes "do" ∷ codes "partitions" ∷ codes "replicas" ∷ codes "source" ∷ codes "stream" ∷ codes "taskCount" ∷ codes "taskDuration" ∷ []) d (Some (Supervise source stream partitions task_count replicas task_duration completion_timeout))

unfoldable pub supervise_of : Data → Option Command
supervise_of d = do
  source ← name_at (codes "source") d
  stream ← name_at (codes "stream") d
  supervise_from source stream d

unfoldable pub tick_of : Data → Option Command
tick_of d = do
  now ← instant_at (codes "now") d
  if_only (codes "do" ∷ codes "now" ∷ []) d (Some (Tick now))

-- what a `paused` or a `checkpoint` tells
unfoldable pub told_of : Data → Option Report
told_of d = do
  task ← task_at (codes "task") d
  offsets ← offsets_at (codes "offsets") d
  if_only (codes "do" ∷ codes "offsets" ∷ codes "task" ∷ []) d (Some (record { task = task; offsets = offsets }))

unfoldable pub paused_of : Data → Option Command
paused_of d = do
  told ← told_of d
  Some (Paused told.task told.offsets)

unfoldable pub checkpoint_of : Data → Option Command
checkpoint_of d = do
  told ← told_of d
  Some (Checkpoint told.task told.offsets)

unfoldable pub to_replace_of : Data → Option Command
to_replace_of d = do
  task ← task_at (codes "task") d
  span ← span_at (codes "span") d
  if_only (codes "do" ∷ codes "span" ∷ codes "task" ∷ []) d (Some (ToReplace task span))

-- what is to be shown of the source
abbrev pub what_of : List ℕ → List ℕ → Option What
what_of word source = if bytes_eq word (codes "timeline") then Some (Timeline source) else (if bytes_eq word (codes "contents") then Some (Contents source) else (if bytes_eq word (codes "offsets") then Some (Offsets source) else (if bytes_eq word (codes "sequences") then Some (Sequences source) else None)))

-- a `show` of a source
unfoldable pub show_source : List ℕ → Data → Option Command
show_source word d = do
  source ← name_at (codes "source") d
  what ← what_of word source
  if_only (codes "do" ∷ codes "source" ∷ codes "what" ∷ []) d (Some (Show what))

-- a `show` of all sources at once, which names none
abbrev pub show_all : What → Data → Option Command
show_all what d = if_only (codes "do" ∷ codes "what" ∷ []) d (Some (Show what))

abbrev pub show_by : List ℕ → Data → Option Command
show_by word d = if bytes_eq word (codes "tasks") then show_all Tasks d else (if bytes_eq word (codes "locks") then show_all Locks d else show_source word d)

unfoldable pub show_of : Data → Option Command
show_of d = do
  word ← text_at (codes "what") d
  show_by word d

-- the command whose word it is, of its keys
abbrev pub command_by : List ℕ → Data → Option Command
command_by word d = if bytes_eq word (codes "submit") then submit_of d else (if bytes_eq word (codes "manage") then manage_of d else (if bytes_eq word (codes "lock") then lock_of d else (if bytes_eq word (codes "unlock") then unlock_of d else (if bytes_eq word (codes "allocate") then allocate_of d else (if bytes_eq word (codes "append") then append_of d else (if bytes_eq word (codes "insert") then insert_of d else (if bytes_eq word (codes "replace") then replace_of d else (if bytes_eq word (codes "end") then end_of d else (if bytes_eq word (codes "drop") then drop_of d else (if bytes_eq word (codes "reset") then reset_of d else (if bytes_eq word (codes "supervise") then supervise_of d else (if bytes_eq word (codes "tick") then tick_of d else (if bytes_eq word (codes "paused") then paused_of d else (if bytes_eq word (codes "checkpoint") then checkpoint_of d else (if bytes_eq word (codes "to_replace") then to_replace_of d else (if bytes_eq word (codes "show") then show_of d else None))))))))))))))))

-- the command of an object, where it keeps its form
unfoldable pub command_of : Data → Option Command
command_of d = do
  word ← text_at (codes "do") d
  command ← command_by word d
  if keeps_form command then Some command else None

-- the command that a line is, or none
unfoldable pub CommandOf : List ℕ → Option Command
CommandOf line = if is_utf8 line then (read line >>= command_of) else None
