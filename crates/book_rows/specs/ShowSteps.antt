-- What `show` answers.
use Rattle.std.specs.Prelude.{bytes_eq, filter, map}
use Rattle.book_rows.specs.Sequences.{name_of}
use Rattle.book_rows.specs.Shown.{contents_of, timeline_of}
use Rattle.book_rows.specs.declared.commands.What.{What}
use Rattle.book_rows.specs.declared.replies.LockLine.{LockLine}
use Rattle.book_rows.specs.declared.replies.OffsetLine.{OffsetLine}
use Rattle.book_rows.specs.declared.replies.Reply.{Reply}
use Rattle.book_rows.specs.declared.replies.SequenceLine.{SequenceLine}
use Rattle.book_rows.specs.declared.replies.TaskLine.{TaskLine}
use Rattle.book_rows.specs.declared.rows.Book.{Book}
use Rattle.book_rows.specs.declared.rows.OffsetRow.{OffsetRow}
use Rattle.book_rows.specs.declared.rows.PosseRow.{PosseRow}
use Rattle.book_rows.specs.declared.rows.SequenceRow.{SequenceRow}
use Rattle.book_rows.specs.declared.rows.TaskRow.{TaskRow}
use Rattle.book_rows.specs.declared.replies.Reply.TheVariants as Replies
use Rattle.book_rows.specs.declared.commands.What.TheVariants as Whats

abbrev pub task_line : TaskRow → TaskLine
task_line t = record { group = t.group; priority = t.priority; source = t.source; status = t.status; task = t.task }

abbrev pub lock_line : PosseRow → LockLine
lock_line p = record {
  group = p.group;
  lock = p.number;
  members = p.members;
  priority = p.priority;
  revoked = p.revoked;
  source = p.source;
  span = p.span;
  lock_kind = p.lock_kind;
  version = p.version;
}

abbrev pub offset_line : OffsetRow → OffsetLine
offset_line r = record { offset = r.offset; partition = r.partition; stream = r.stream }

abbrev pub sequence_line : SequenceRow → SequenceLine
sequence_line u = record { ends = u.ends; name = name_of u; starts = u.starts; state = u.state }

-- rows of locks and of offsets ascend, so their lines stand in order
abbrev pub shown_of : Book → What → Reply
shown_of b Whats.Tasks = Replies.Tasks (map task_line b.tasks)
shown_of b Whats.Locks = Replies.Locks (map lock_line b.posses)
shown_of b (Whats.Timeline source) = Replies.Timeline (timeline_of b.segments source) source
shown_of b (Whats.Contents source) = Replies.Contents (contents_of b.segments source) source
shown_of b (Whats.Offsets source) = Replies.Offsets (map offset_line (filter (λ r. bytes_eq r.source source) b.offsets)) source
shown_of b (Whats.Sequences source) = Replies.Sequences (map sequence_line (filter (λ u. bytes_eq u.source source) b.sequences)) source
