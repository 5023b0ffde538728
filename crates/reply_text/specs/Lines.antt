-- Replies as JSON, and their lines.
use Rattle.std.specs.Prelude.{◌≡◌, ◌≢◌, ℕ, List, [], ◌∷◌, ◌++◌, codes, All}
use Rattle.serde_json.specs.Data.{Data, boolean, string, object, no_members, member}
use Rattle.serde_json.specs.Written.{compact_text}
use Rattle.book_rows.specs.declared.kinds.SeqState.{SeqState}
use Rattle.book_rows.specs.declared.rows.Offset.{Offset}
use Rattle.book_rows.specs.declared.replies.Reply.{Reply}
use Rattle.book_rows.specs.declared.replies.Reply.TheVariants.{Submit, Manage, Lock, Unlock, Allocate, Append, Insert, Replace, Drop, Reset, ToReplace, End, Supervise, Tick, Paused, Checkpoint, Tasks, Locks, Timeline, Contents, Offsets, Sequences, Refused}
use Rattle.reply_text.specs.Objects.{count_data, instant_data, span_data, id_data, list_data, offset_data, offset_line_data, task_data, lock_data, sequence_data, timeline_data, contents_data}
use Rattle.reply_text.specs.Refusals.{refusal_data}
use Rattle.reply_text.specs.Spelling.{status_word, state_word}

-- of a command that publishes: the number of its publication
abbrev pub commit_data : List ℕ → ℕ → Data
commit_data word commit = object
    (member (codes "commit") (count_data commit)
    (member (codes "ok") (string word) no_members))

-- of a report: the state of its sequence, and its ends where it is closed
abbrev pub report_data : List ℕ → List Offset → SeqState → Data
report_data word ends state = object
    (member (codes "ends") (list_data offset_data ends)
    (member (codes "ok") (string word)
    (member (codes "state") (string (state_word state)) no_members)))

-- a reply, with the keys of an object in ascending order of their bytes
abbrev pub data_of : Reply → Data
data_of (Submit status task) = object
    (member (codes "ok") (string (codes "submit"))
    (member (codes "status") (string (status_word status))
    (member (codes "task") (string task) no_members)))
data_of (Manage running waiting) = object
    (member (codes "ok") (string (codes "manage"))
    (member (codes "running") (list_data string running)
    (member (codes "waiting") (list_data string waiting) no_members)))
data_of (Lock lock revoked span version) = object
    (member (codes "lock") (count_data lock)
    (member (codes "ok") (string (codes "lock"))
    (member (codes "revoked") (list_data count_data revoked)
    (member (codes "span") (span_data span)
    (member (codes "version") (instant_data version) no_members)))))
data_of (Unlock left) = object
    (member (codes "left") (boolean left)
    (member (codes "ok") (string (codes "unlock")) no_members))
data_of (Allocate id lock revoked) = object
    (member (codes "id") (id_data id)
    (member (codes "lock") (count_data lock)
    (member (codes "ok") (string (codes "allocate"))
    (member (codes "revoked") (list_data count_data revoked) no_members))))
data_of (Append commit) = commit_data (codes "append") commit
data_of (Insert commit) = commit_data (codes "insert") commit
data_of (Replace commit) = commit_data (codes "replace") commit
data_of (Drop commit) = commit_data (codes "drop") commit
data_of (Reset commit) = commit_data (codes "reset") commit
data_of (ToReplace ids) = object
    (member (codes "ids") (list_data id_data ids)
    (member (codes "ok") (string (codes "to_replace")) no_members))
data_of (End status task) = object
    (member (codes "ok") (string (codes "end"))
    (member (codes "status") (string (status_word status))
    (member (codes "task") (string task) no_members)))
data_of (Supervise source) = object
    (member (codes "ok") (string (codes "supervise"))
    (member (codes "source") (string source) no_members))
data_of (Tick abandoned opened paused) = object
    (member (codes "abandoned") (list_data string abandoned)
    (member (codes "ok") (string (codes "tick"))
    (member (codes "opened") (list_data string opened)
    (member (codes "paused") (list_data string paused) no_members))))
data_of (Paused ends state) = report_data (codes "paused") ends state
data_of (Checkpoint ends state) = report_data (codes "checkpoint") ends state
data_of (Tasks tasks) = object
    (member (codes "ok") (string (codes "tasks"))
    (member (codes "tasks") (list_data task_data tasks) no_members))
data_of (Locks locks) = object
    (member (codes "locks") (list_data lock_data locks)
    (member (codes "ok") (string (codes "locks")) no_members))
data_of (Timeline parts source) = object
    (member (codes "ok") (string (codes "timeline"))
    (member (codes "parts") (list_data timeline_data parts)
    (member (codes "source") (string source) no_members)))
data_of (Contents parts source) = object
    (member (codes "ok") (string (codes "contents"))
    (member (codes "parts") (list_data contents_data parts)
    (member (codes "source") (string source) no_members)))
data_of (Offsets offsets source) = object
    (member (codes "offsets") (list_data offset_line_data offsets)
    (member (codes "ok") (string (codes "offsets"))
    (member (codes "source") (string source) no_members)))
data_of (Sequences sequences source) = object
    (member (codes "ok") (string (codes "sequences"))
    (member (codes "sequences") (list_data sequence_data sequences)
    (member (codes "source") (string source) no_members)))
data_of (Refused why) = refusal_data why

-- the line of a reply: its compact JSON text (RFC 8259), and byte 10
abbrev pub TextOf : Reply → List ℕ
TextOf reply = compact_text (data_of reply) ++ 10 ∷ []

-- one line: byte 10 at the end, and nowhere else
abbrev pub IsOneLine : List ℕ → Type 0
IsOneLine text = (line : List ℕ) × (text ≡ line ++ 10 ∷ []) × All (λ x. x ≢ 10) line
