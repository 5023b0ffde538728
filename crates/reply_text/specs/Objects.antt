-- The parts of a reply, as JSON. The keys of an object ascend by their bytes.
use Rattle.std.specs.Prelude.{ℕ, List, ◌∷◌, ◌++◌, codes, map, ℤ}
use Rattle.serde_json.specs.Data.{Data, boolean, number, unsigned, string, array, object, no_members, member}
use Rattle.serde_json.specs.View.{items_of}
use Rattle.iv_time.specs.Civil.{instant_text}
use Rattle.iv_span.specs.Extent.{Extent}
use Rattle.seg_names.specs.IdTexts.{id_text}
use Rattle.seg_names.specs.declared.seg_id.SegId.{SegId}
use Rattle.book_rows.specs.declared.rows.Offset.{Offset}
use Rattle.book_rows.specs.declared.replies.TaskLine.{TaskLine}
use Rattle.book_rows.specs.declared.replies.LockLine.{LockLine}
use Rattle.book_rows.specs.declared.replies.OffsetLine.{OffsetLine}
use Rattle.book_rows.specs.declared.replies.SequenceLine.{SequenceLine}
use Rattle.book_rows.specs.declared.replies.TimelinePart.{TimelinePart}
use Rattle.book_rows.specs.declared.replies.ContentsPart.{ContentsPart}
use Rattle.reply_text.specs.Spelling.{status_word, kind_word, state_word}

-- a whole number
abbrev pub count_data : ℕ → Data
count_data n = number (unsigned n)

-- an instant in full
abbrev pub instant_data : ℤ → Data
instant_data ms = string (instant_text ms)

-- the two ends of a span in full, with a slash between them
abbrev pub span_text : Extent → List ℕ
span_text span = instant_text span.start ++ 47 ∷ instant_text span.end

-- a span in full
abbrev pub span_data : Extent → Data
span_data span = string (span_text span)

-- an id in full
abbrev pub id_data : SegId → Data
id_data id = string (id_text id)

-- a list, each item as JSON
abbrev pub list_data : {X : Type 0} → (X → Data) → List X → Data
list_data data_of xs = array (items_of (map data_of xs))

-- a partition's offset
abbrev pub offset_data : Offset → Data
offset_data o = object
    (member (codes "offset") (count_data o.offset)
    (member (codes "partition") (count_data o.partition) no_members))

-- a stored offset
abbrev pub offset_line_data : OffsetLine → Data
offset_line_data line = object
    (member (codes "offset") (count_data line.offset)
    (member (codes "partition") (count_data line.partition)
    (member (codes "stream") (string line.stream) no_members)))

-- a task
abbrev pub task_data : TaskLine → Data
task_data line = object
    (member (codes "group") (string line.group)
    (member (codes "priority") (count_data line.priority)
    (member (codes "source") (string line.source)
    (member (codes "status") (string (status_word line.status))
    (member (codes "task") (string line.task) no_members)))))

-- a lock and its members
abbrev pub lock_data : LockLine → Data
lock_data line = object
    (member (codes "group") (string line.group)
    (member (codes "lock") (count_data line.lock)
    (member (codes "members") (list_data string line.members)
    (member (codes "priority") (count_data line.priority)
    (member (codes "revoked") (boolean line.revoked)
    (member (codes "source") (string line.source)
    (member (codes "span") (span_data line.span)
    (member (codes "type") (string (kind_word line.lock_kind))
    (member (codes "version") (instant_data line.version) no_members)))))))))

-- a sequence, its start and end offsets
abbrev pub sequence_data : SequenceLine → Data
sequence_data line = object
    (member (codes "ends") (list_data offset_data line.ends)
    (member (codes "name") (string line.name)
    (member (codes "starts") (list_data offset_data line.starts)
    (member (codes "state") (string (state_word line.state)) no_members))))

-- a span in which one chunk is visible
abbrev pub timeline_data : TimelinePart → Data
timeline_data part = object
    (member (codes "ids") (list_data id_data part.ids)
    (member (codes "span") (span_data part.span)
    (member (codes "version") (instant_data part.version) no_members)))

-- a span in which the same roots are visible
abbrev pub contents_data : ContentsPart → Data
contents_data part = object
    (member (codes "roots") (list_data id_data part.roots)
    (member (codes "span") (span_data part.span) no_members))
