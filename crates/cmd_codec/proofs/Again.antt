-- The values of each command read as they are written.
use Rattle.std.proofs.Common.{◌≡◌, ℕ, ℤ, true, List, [], ◌∷◌, ◌++◌, Option, Some, refl}
use Rattle.std.specs.Int.{w64, to_be_bytes}
use Rattle.iv_time.specs.Range.{is_instant}
use Rattle.iv_time.specs.declared.granularity.Granularity.{Granularity}
use Rattle.iv_span.specs.Extent.{Extent}
use Rattle.seg_names.specs.Names.{is_name, is_task_id}
use Rattle.seg_names.specs.declared.seg_id.SegId.{SegId}
use Rattle.wire_fields.specs.Fields.{text_field}
use Rattle.book_rows.specs.Spans.{is_span}
use Rattle.book_rows.specs.Form.{is_id, is_offset, is_want}
use Rattle.iv_time.specs.Durations.{is_duration}
use Rattle.book_rows.specs.declared.kinds.TaskKind.{TaskKind}
use Rattle.book_rows.specs.declared.kinds.LockKind.{LockKind}
use Rattle.book_rows.specs.declared.kinds.TaskStatus.{TaskStatus}
use Rattle.book_rows.specs.declared.rows.Want.{Want}
use Rattle.book_rows.specs.declared.rows.Offset.{Offset}
use Rattle.book_rows.specs.declared.rows.Ranges.{Ranges}
use Rattle.book_rows.specs.declared.commands.Command.TheVariants.{Submit, Manage, Lock, Unlock, Allocate, Append, End, Drop, Reset, Supervise, Tick, Paused, Checkpoint}
use Rattle.cmd_codec.specs.Fields.{kind_code, lock_kind_code, status_code, granularity_code, short, signed, span_field, id_field, want_field, offset_field, list_field, option_field, ranges_field}
use Rattle.cmd_codec.specs.Reading.{submit_at, manage_at, lock_at, unlock_at, allocate_at, append_at, end_at, drop_at, reset_at, supervise_at, tick_at, paused_at, checkpoint_at}
use Rattle.cmd_codec.proofs.FieldLists.{again1, again2, again3, again4, again6, again7}
use Rattle.cmd_codec.proofs.Numbers.{fits32, fits64, a_count, long_number, an_instant, a_duration, a_name, a_task}
use Rattle.cmd_codec.proofs.FieldBytes.{a_kind, a_lock_kind, a_status, a_granularity, a_span, an_id, a_want, an_offset}
use Rattle.cmd_codec.proofs.Lists.{is_list, is_option, are_some_ranges, list_of, option_of, some_ranges}

pub submit_again : (task : List ℕ) (group : List ℕ) (source : List ℕ) (kind : TaskKind) (priority : ℕ) (locks : List Want) (rest : List ℕ) → is_task_id task ≡ true → is_task_id group ≡ true → is_name source ≡ true → fits32 priority ≡ true → is_list is_want locks ≡ true → submit_at ((text_field task ++ (text_field group ++ (text_field source ++ (kind_code kind ∷ (short priority ++ (list_field want_field locks)))))) ++ rest) ≡ Some (Submit task group source kind priority locks, rest)
unfolding submit_at
submit_again task group source kind priority locks rest h0 h1 h2 h4 h5 = again6 a_task a_task a_name a_kind a_count (list_of a_want) Submit task group source kind priority locks rest h0 h1 h2 refl h4 h5

pub manage_again : (now : ℤ) (rest : List ℕ) → is_instant now ≡ true → manage_at ((signed now) ++ rest) ≡ Some (Manage now, rest)
unfolding manage_at
manage_again now rest h0 = again1 an_instant Manage now rest h0

pub lock_again : (task : List ℕ) (kind : LockKind) (span : Extent) (now : ℤ) (rest : List ℕ) → is_task_id task ≡ true → is_span span ≡ true → is_instant now ≡ true → lock_at ((text_field task ++ (lock_kind_code kind ∷ (span_field span ++ (signed now)))) ++ rest) ≡ Some (Lock task kind span now, rest)
unfolding lock_at
lock_again task kind span now rest h0 h2 h3 = again4 a_task a_lock_kind a_span an_instant Lock task kind span now rest h0 refl h2 h3

pub unlock_again : (task : List ℕ) (lock : ℕ) (rest : List ℕ) → is_task_id task ≡ true → fits64 lock ≡ true → unlock_at ((text_field task ++ (to_be_bytes w64 lock)) ++ rest) ≡ Some (Unlock task lock, rest)
unfolding unlock_at
unlock_again task lock rest h0 h1 = again2 a_task long_number Unlock task lock rest h0 h1

pub allocate_again : (task : List ℕ) (kind : LockKind) (sequence : List ℕ) (previous : Option SegId) (at : ℤ) (granularity : Granularity) (now : ℤ) (rest : List ℕ) → is_task_id task ≡ true → is_name sequence ≡ true → is_option is_id previous ≡ true → is_instant at ≡ true → is_instant now ≡ true → allocate_at ((text_field task ++ (lock_kind_code kind ∷ (text_field sequence ++ (option_field id_field previous ++ (signed at ++ (granularity_code granularity ∷ (signed now))))))) ++ rest) ≡ Some (Allocate task kind sequence previous at granularity now, rest)
unfolding allocate_at
allocate_again task kind sequence previous at granularity now rest h0 h2 h3 h4 h6 = again7 a_task a_lock_kind a_name (option_of an_id) an_instant a_granularity an_instant Allocate task kind sequence previous at granularity now rest h0 refl h2 h3 h4 refl h6

pub append_again : (task : List ℕ) (ids : List SegId) (ranges : Option Ranges) (rest : List ℕ) → is_task_id task ≡ true → is_list is_id ids ≡ true → is_option are_some_ranges ranges ≡ true → append_at ((text_field task ++ (list_field id_field ids ++ (option_field ranges_field ranges))) ++ rest) ≡ Some (Append task ids ranges, rest)
unfolding append_at
append_again task ids ranges rest h0 h1 h2 = again3 a_task (list_of an_id) (option_of some_ranges) Append task ids ranges rest h0 h1 h2

pub end_again : (task : List ℕ) (status : TaskStatus) (rest : List ℕ) → is_task_id task ≡ true → end_at ((text_field task ++ (status_code status ∷ [])) ++ rest) ≡ Some (End task status, rest)
unfolding end_at
end_again task status rest h0 = again2 a_task a_status End task status rest h0 refl

pub drop_again : (source : List ℕ) (span : Extent) (rest : List ℕ) → is_name source ≡ true → is_span span ≡ true → drop_at ((text_field source ++ (span_field span)) ++ rest) ≡ Some (Drop source span, rest)
unfolding drop_at
drop_again source span rest h0 h1 = again2 a_name a_span Drop source span rest h0 h1

pub reset_again : (source : List ℕ) (stream : List ℕ) (offsets : List Offset) (rest : List ℕ) → is_name source ≡ true → is_name stream ≡ true → is_list is_offset offsets ≡ true → reset_at ((text_field source ++ (text_field stream ++ (list_field offset_field offsets))) ++ rest) ≡ Some (Reset source stream offsets, rest)
unfolding reset_at
reset_again source stream offsets rest h0 h1 h2 = again3 a_name a_name (list_of an_offset) Reset source stream offsets rest h0 h1 h2

pub supervise_again : (source : List ℕ) (stream : List ℕ) (partitions : ℕ) (task_count : ℕ) (replicas : ℕ) (task_duration : ℤ) (completion_timeout : ℤ) (rest : List ℕ) → is_name source ≡ true → is_name stream ≡ true → fits32 partitions ≡ true → fits32 task_count ≡ true → fits32 replicas ≡ true → is_duration task_duration ≡ true → is_duration completion_timeout ≡ true → supervise_at ((text_field source ++ (text_field stream ++ (short partitions ++ (short task_count ++ (short replicas ++ (signed task_duration ++ (signed completion_timeout))))))) ++ rest) ≡ Some (Supervise source stream partitions task_count replicas task_duration completion_timeout, rest)
unfolding supervise_at
supervise_again source stream partitions task_count replicas task_duration completion_timeout rest h0 h1 h2 h3 h4 h5 h6 = again7 a_name a_name a_count a_count a_count a_duration a_duration Supervise source stream partitions task_count replicas task_duration completion_timeout rest h0 h1 h2 h3 h4 h5 h6

pub tick_again : (now : ℤ) (rest : List ℕ) → is_instant now ≡ true → tick_at ((signed now) ++ rest) ≡ Some (Tick now, rest)
unfolding tick_at
tick_again now rest h0 = again1 an_instant Tick now rest h0

pub paused_again : (task : List ℕ) (offsets : List Offset) (rest : List ℕ) → is_task_id task ≡ true → is_list is_offset offsets ≡ true → paused_at ((text_field task ++ (list_field offset_field offsets)) ++ rest) ≡ Some (Paused task offsets, rest)
unfolding paused_at
paused_again task offsets rest h0 h1 = again2 a_task (list_of an_offset) Paused task offsets rest h0 h1

pub checkpoint_again : (task : List ℕ) (offsets : List Offset) (rest : List ℕ) → is_task_id task ≡ true → is_list is_offset offsets ≡ true → checkpoint_at ((text_field task ++ (list_field offset_field offsets)) ++ rest) ≡ Some (Checkpoint task offsets, rest)
unfolding checkpoint_at
checkpoint_again task offsets rest h0 h1 = again2 a_task (list_of an_offset) Checkpoint task offsets rest h0 h1
