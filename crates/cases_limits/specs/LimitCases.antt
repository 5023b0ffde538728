-- Worked cases of the laws of limits: what a law supposes is met, and what it says is so. Where a law asks for a sound book, the case begins at one that is
-- shown to be sound; only `MovedAreLimited` leaves that open.
use Rattle.std.specs.Prelude.{◌++◌, ◌∷◌, ◌≡◌, List, None, [], codes, false, length, map, pos, true, ℕ}
use Rattle.std.specs.List.{list_all}
use Rattle.seg_names.specs.declared.seg_id.SegId.{SegId}
use Rattle.book_rows.specs.Answer.{empty_book, next}
use Rattle.book_rows.specs.Form.{KeepsForm, keeps_form}
use Rattle.book_rows.specs.Names.{no_group}
use Rattle.book_rows.specs.Outcome.{all_tables, is_full, no_room}
use Rattle.book_rows.specs.declared.commands.Command.{Command}
use Rattle.book_rows.specs.declared.kinds.PubKind.{PubKind}
use Rattle.book_rows.specs.declared.kinds.SeqState.{SeqState}
use Rattle.book_rows.specs.declared.rows.Book.{Book}
use Rattle.book_rows.specs.declared.rows.Offset.{Offset}
use Rattle.book_rows.specs.declared.rows.Publication.{Publication}
use Rattle.book_rows.specs.declared.rows.SequenceRow.{SequenceRow}
use Rattle.book_rows.specs.declared.rows.SpanSince.{SpanSince}
use Rattle.cases_rules.specs.FullRowCases.{with_next, with_number}
use Rattle.scenes.specs.Script.{after, s2, a, day, drop, fail, hour, id, insert, lock, now, now1, p, r, submit, v0, w, x}
use Rattle.scenes.specs.Publishing.{alloc_hour, day_id, hour_id, pending_row_of, point, range, ranges, replace_day, reset, upgrade_row_of, used_row}
use Rattle.scenes.specs.Supervising.{first_group_at, r000, r001, r100, r101, supervise, supervisor}
use Rattle.cases_rules.specs.ReplaceCases.{both, chunk_row, stream_day}
use Rattle.cases_rules.specs.SoundBookCases.{day_under_lock, three_locks}
use Rattle.cases_rules.specs.SupervisorCases.{publish_first}
use Rattle.laws_limits.specs.Limits.{AreLimited}
use Rattle.laws_limits.specs.Rows.{ArePublicationRows, AreSequenceRows, HasIdRows}
use Rattle.cases_limits.specs.SoundScenes.{ChangesSound, append_third, ask_fourth, both_opened, day_replaced, fourth_asked, one_supervisor, third_appended}
use Rattle.book_rows.specs.declared.commands.Command.TheVariants as Commands
use Rattle.book_rows.specs.declared.kinds.LockKind.TheVariants as LockKinds
use Rattle.book_rows.specs.declared.kinds.PubKind.TheVariants as PubKinds
use Rattle.book_rows.specs.declared.kinds.SeqState.TheVariants as States
use Rattle.book_rows.specs.declared.kinds.Table.TheVariants as Tables
use Rattle.book_rows.specs.declared.kinds.TaskKind.TheVariants as TaskKinds

-- ---- room: these laws don't ask for a sound book

abbrev pub lock_day : Command
lock_day = lock a LockKinds.Exclusive day

-- a lock gets the last number there is, and the next one none
abbrev pub NumbersStayInRoom : Type 0
NumbersStayInRoom =
    KeepsForm lock_day
    × (is_full Tables.Numbers (with_number 9007199254740991) ≡ false)
    × (map (λ q. q.number) (next (with_number 9007199254740991) lock_day).posses ≡ 9007199254740991 ∷ [])
    × ((next (with_number 9007199254740991) lock_day).next_lock ≡ 9007199254740992)
    × (is_full Tables.Numbers (next (with_number 9007199254740991) lock_day) ≡ false)
    × (next (with_number 9007199254740992) lock_day ≡ with_number 9007199254740992)
    × (is_full Tables.Numbers (with_number 9007199254740992) ≡ false)

-- where numbers are too great already, the tasks stay in room still
abbrev pub TasksStayInRoom : Type 0
TasksStayInRoom =
    KeepsForm (submit x TaskKinds.Batch)
    × (is_full Tables.Numbers (with_number 9007199254740993) ≡ true)
    × (is_full Tables.Tasks (with_number 9007199254740993) ≡ false)
    × (length (next (with_number 9007199254740993) (submit x TaskKinds.Batch)).tasks ≡ 2)
    × (is_full Tables.Tasks (next (with_number 9007199254740993) (submit x TaskKinds.Batch)) ≡ false)

-- a chunk gives the last part there is, and then none; no table is too full before and after
abbrev pub LastPartHasRoom : Type 0
LastPartHasRoom =
    KeepsForm (alloc_hour p s2)
    × (no_room all_tables (with_next 999999) ≡ None)
    × ((next (with_next 999999) (alloc_hour p s2)).chunks ≡ chunk_row hour v0 0 1000000 ∷ [])
    × (no_room all_tables (next (with_next 999999) (alloc_hour p s2)) ≡ None)
    × (next (with_next 1000000) (alloc_hour p s2) ≡ with_next 1000000)
    × (no_room all_tables (with_next 1000000) ≡ None)

-- commands that put rows into every table
abbrev pub full_day : List Command
full_day = both ++ (stream_day ++ (alloc_hour p (codes "s3") ∷ reset (point 0 5 ∷ []) ∷ supervise ∷ Commands.Tick now ∷ []))

abbrev pub sizes : Book → List ℕ
sizes b =
    length b.tasks
    ∷ length b.posses
    ∷ length b.chunks
    ∷ length b.segments
    ∷ length b.pendings
    ∷ length b.upgrades
    ∷ length b.publications
    ∷ length b.offsets
    ∷ length b.supervisors
    ∷ length b.sequences
    ∷ []

-- they keep their form, and no table of the book after them is too full
abbrev pub FullDayHasRoom : Type 0
FullDayHasRoom =
    (list_all keeps_form full_day ≡ true)
    × (sizes (after full_day) ≡ 6 ∷ 2 ∷ 1 ∷ 2 ∷ 1 ∷ 1 ∷ 3 ∷ 1 ∷ 1 ∷ 2 ∷ [])
    × (no_room all_tables (after full_day) ≡ None)

-- ---- publications and supervisors, after a command on a sound book

abbrev pub publication : PubKind → List ℕ → List SpanSince → List SegId → Publication
publication kind group spans adds = record { kind = kind; group = group; source = w; spans = spans; adds = adds; empties = []; ranges = None }

abbrev pub reset_row : Publication
reset_row = record { kind = PubKinds.Reset; group = no_group; source = w; spans = []; adds = []; empties = []; ranges = ranges (range 0 5 5 ∷ []) }

-- the append of an id of the hour
abbrev pub append_of : ℕ → Publication
append_of part = publication PubKinds.Append p [] (hour_id part ∷ [])

-- the command changes a sound book, after it these are the publications, and they are within their limits
abbrev pub LeadsTo : Book → Command → List Publication → Type 0
LeadsTo b c ms = ChangesSound b c × ((next b c).publications ≡ ms) × ArePublicationRows (next b c).publications (next b c).supervisors

-- a publication of each kind
abbrev pub EachKindIsLimited : Type 0
EachKindIsLimited =
    LeadsTo day_under_lock append_third (append_of 0 ∷ append_of 1 ∷ append_of 2 ∷ [])
    × LeadsTo (after three_locks) (insert a hour (id hour now1 0 ∷ [])) (publication PubKinds.Over a (record { span = hour; since = 0 } ∷ []) (id hour now1 0 ∷ []) ∷ [])
    × LeadsTo day_under_lock replace_day (append_of 0 ∷ append_of 1 ∷ publication PubKinds.Replace r (record { span = day; since = 1 } ∷ []) (day_id 0 ∷ []) ∷ [])
    × LeadsTo empty_book (drop day) (publication PubKinds.Drop no_group (record { span = day; since = 0 } ∷ []) [] ∷ [])
    × LeadsTo empty_book (reset (point 0 5 ∷ [])) (reset_row ∷ [])

abbrev pub SupervisorIsLimited : Type 0
SupervisorIsLimited = ChangesSound empty_book supervise × (one_supervisor.supervisors ≡ supervisor ∷ []) × ArePublicationRows one_supervisor.publications one_supervisor.supervisors

-- ---- chunks, segments, pendings and upgrade rows, after a command on a sound book

-- an allocation takes a part of a chunk and adds a pending
abbrev pub AllocatedIsLimited : Type 0
AllocatedIsLimited =
    ChangesSound day_under_lock ask_fourth
    × (fourth_asked.chunks ≡ chunk_row hour v0 0 4 ∷ [])
    × (fourth_asked.pendings ≡ pending_row_of (hour_id 2) (hour_id 2) 1 (codes "s3") ∷ pending_row_of (hour_id 3) (hour_id 3) 1 (codes "s4") ∷ [])
    × HasIdRows fourth_asked

-- an append adds a segment, and an upgrade row under the replacing lock
abbrev pub AppendedIsLimited : Type 0
AppendedIsLimited =
    ChangesSound day_under_lock append_third
    × (third_appended.segments ≡ used_row (hour_id 0) (hour_id 0) 0 ∷ used_row (hour_id 1) (hour_id 1) 1 ∷ used_row (hour_id 2) (hour_id 2) 2 ∷ [])
    × (third_appended.upgrades ≡ upgrade_row_of 2 (hour_id 1) ∷ upgrade_row_of 2 (hour_id 2) ∷ [])
    × HasIdRows third_appended

-- a replace adds a chunk, its segment, and copies of an upgrade root and of a pending
abbrev pub ReplacedIsLimited : Type 0
ReplacedIsLimited =
    ChangesSound day_under_lock replace_day
    × (day_replaced.chunks ≡ chunk_row hour v0 0 3 ∷ chunk_row day now 1 3 ∷ [])
    × (day_replaced.segments
    ≡ used_row (hour_id 0) (hour_id 0) 0
    ∷ used_row (hour_id 1) (hour_id 1) 1
    ∷ used_row (day_id 0) (day_id 0) 2
    ∷ used_row (day_id 1) (hour_id 1) 2
    ∷ [])
    × (day_replaced.pendings ≡ pending_row_of (hour_id 2) (hour_id 2) 1 (codes "s3") ∷ pending_row_of (day_id 2) (hour_id 2) 1 (codes "s3") ∷ [])
    × HasIdRows day_replaced

-- ---- sequences

abbrev pub opened : ℕ → List Offset → List (List ℕ) → SequenceRow
opened group starts live = record {
  source = w;
  group = group;
  index = 0;
  state = States.Reading;
  opened = now;
  closed = pos 0;
  starts = starts;
  ends = [];
  live = live;
  reports = [];
}

-- a tick on a sound book opens a sequence for each group
abbrev pub OpenedAreLimited : Type 0
OpenedAreLimited =
    ChangesSound one_supervisor (Commands.Tick now)
    × (both_opened.sequences ≡ opened 0 (first_group_at 0 0) (r000 ∷ r001 ∷ []) ∷ opened 1 (point 1 0 ∷ []) (r100 ∷ r101 ∷ []) ∷ [])
    × AreSequenceRows both_opened.sequences

-- a command that keeps its form leads from the states before to those after, and the sequences are within their limits before and after; that the book is sound
-- is left to the law that every reached book is
abbrev pub MovesOn : Book → Command → List SeqState → List SeqState → Type 0
MovesOn b c before after =
    KeepsForm c
    × (map (λ u. u.state) b.sequences ≡ before)
    × AreSequenceRows b.sequences
    × (map (λ u. u.state) (next b c).sequences ≡ after)
    × AreSequenceRows (next b c).sequences

abbrev pub both_read : List Command
both_read = supervise ∷ Commands.Tick now ∷ Commands.Manage now ∷ []

-- the first of the two pauses
abbrev pub first_pauses : Command
first_pauses = Commands.Checkpoint r000 (first_group_at 10 7)

-- and closes
abbrev pub first_closes : Command
first_closes = Commands.Checkpoint r001 (first_group_at 8 9)

-- a sequence pauses, closes and is published; in another run the second one is abandoned
abbrev pub MovedAreLimited : Type 0
MovedAreLimited =
    MovesOn (after both_read) first_pauses (States.Reading ∷ States.Reading ∷ []) (States.Paused ∷ States.Reading ∷ [])
    × MovesOn (after (both_read ++ first_pauses ∷ [])) first_closes (States.Paused ∷ States.Reading ∷ []) (States.Closed ∷ States.Reading ∷ [])
    × MovesOn (after (both_read ++ first_pauses ∷ first_closes ∷ [])) (publish_first r001 10 9) (States.Closed ∷ States.Reading ∷ []) (States.Published ∷ States.Reading ∷ [])
    × MovesOn (after (both_read ++ fail r100 ∷ [])) (fail r101) (States.Reading ∷ States.Reading ∷ []) (States.Reading ∷ States.Abandoned ∷ [])

-- ---- all of it, after a command on a sound book

abbrev pub AllIsLimited : Type 0
AllIsLimited = ChangesSound day_under_lock append_third × AreLimited third_appended
