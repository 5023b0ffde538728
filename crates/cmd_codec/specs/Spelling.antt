-- The bytes of a command in a record.
use Rattle.std.specs.Prelude.{ℕ, Bool, true, false, List, [], ◌∷◌, ◌++◌, Option, if◌then◌else◌}
use Rattle.std.specs.Int.{w64, to_be_bytes}
use Rattle.iv_span.specs.Extent.{Extent}
use Rattle.seg_names.specs.declared.seg_id.SegId.{SegId}
use Rattle.wire_fields.specs.Fields.{text_field}
use Rattle.book_rows.specs.Lists.{is_empty}
use Rattle.book_rows.specs.declared.rows.Ranges.{Ranges}
use Rattle.book_rows.specs.declared.commands.Command.{Command}
use Rattle.book_rows.specs.declared.commands.Command.TheVariants.{Submit, Manage, Lock, Unlock, Allocate, Append, Insert, Replace, End, Drop, Reset, Supervise, Tick, Paused, Checkpoint, ToReplace, Show}
use Rattle.cmd_codec.specs.Fields.{kind_code, lock_kind_code, status_code, granularity_code, short, signed, span_field, id_field, want_field, offset_field, list_field, option_field, ranges_field}

-- the tag of an `insert` or `replace`: one where it has tombstones, another where it has none
abbrev pub overwrite_tag : ℕ → ℕ → List SegId → ℕ
overwrite_tag plain marked tombstones = if is_empty tombstones then plain else marked

-- the tombstones of an `insert` or `replace`, which has no bytes for them where there are none
abbrev pub tombstones_field : List SegId → List ℕ
tombstones_field tombstones = if is_empty tombstones then [] else list_field id_field tombstones

-- an `insert` or `replace` after its tag
abbrev pub overwrite_field : List ℕ → List Extent → List SegId → List SegId → Option Ranges → List ℕ
overwrite_field task spans ids tombstones ranges = text_field task ++ (list_field span_field spans ++ (list_field id_field ids ++ (option_field ranges_field ranges ++ tombstones_field tombstones)))

-- The command is one that records hold. The two that only ask have no tag.
abbrev pub has_tag : Command → Bool
has_tag (Submit task group source kind priority locks) = true
has_tag (Manage now) = true
has_tag (Lock task kind span now) = true
has_tag (Unlock task lock) = true
has_tag (Allocate task kind sequence previous at granularity now) = true
has_tag (Append task ids ranges) = true
has_tag (Insert task spans ids tombstones ranges) = true
has_tag (Replace task spans ids tombstones ranges) = true
has_tag (End task status) = true
has_tag (Drop source span) = true
has_tag (Reset source stream offsets) = true
has_tag (Supervise source stream partitions task_count replicas task_duration completion_timeout) = true
has_tag (Tick now) = true
has_tag (Paused task offsets) = true
has_tag (Checkpoint task offsets) = true
has_tag (ToReplace task span) = false
has_tag (Show what) = false

-- a tag, and the command's values in their order
abbrev pub spelling : Command → List ℕ
spelling (Submit task group source kind priority locks) = 1 ∷ (text_field task ++ (text_field group ++ (text_field source ++ (kind_code kind ∷ (short priority ++ list_field want_field locks)))))
spelling (Manage now) = 2 ∷ signed now
spelling (Lock task kind span now) = 3 ∷ (text_field task ++ (lock_kind_code kind ∷ (span_field span ++ signed now)))
spelling (Unlock task lock) = 4 ∷ (text_field task ++ to_be_bytes w64 lock)
spelling (Allocate task kind sequence previous at granularity now) = 5 ∷ (text_field task ++ (lock_kind_code kind ∷ (text_field sequence ++ (option_field id_field previous ++ (signed at ++ (granularity_code granularity ∷ signed now))))))
spelling (Append task ids ranges) = 6 ∷ (text_field task ++ (list_field id_field ids ++ option_field ranges_field ranges))
spelling (Insert task spans ids tombstones ranges) = overwrite_tag 7 16 tombstones ∷ overwrite_field task spans ids tombstones ranges
spelling (Replace task spans ids tombstones ranges) = overwrite_tag 8 17 tombstones ∷ overwrite_field task spans ids tombstones ranges
spelling (End task status) = 9 ∷ (text_field task ++ status_code status ∷ [])
spelling (Drop source span) = 10 ∷ (text_field source ++ span_field span)
spelling (Reset source stream offsets) = 11 ∷ (text_field source ++ (text_field stream ++ list_field offset_field offsets))
spelling (Supervise source stream partitions task_count replicas task_duration completion_timeout) = 12 ∷ (text_field source ++ (text_field stream ++ (short partitions ++ (short task_count ++ (short replicas ++ (signed task_duration ++ signed completion_timeout))))))
spelling (Tick now) = 13 ∷ signed now
spelling (Paused task offsets) = 14 ∷ (text_field task ++ list_field offset_field offsets)
spelling (Checkpoint task offsets) = 15 ∷ (text_field task ++ list_field offset_field offsets)
spelling (ToReplace task span) = []
spelling (Show what) = []
