-- Worked cases of the laws: a day of 24 instants under a replacing lock, in whose hour from 5 to 6 two roots were appended, and the day after its replacement.
use Rattle.std.specs.Prelude.{◌++◌, ◌||◌, ◌∷◌, ◌≡◌, Bool, List, None, [], codes, false, int_le, length, neg_ℤ, not, pos, true, ℕ, ℤ}
use Rattle.std.specs.List.{list_all, list_any}
use Rattle.iv_span.specs.Extent.{Extent, has}
use Rattle.seg_names.specs.declared.seg_id.SegId.{SegId}
use Rattle.book_rows.specs.Answer.{answer, changes, next}
use Rattle.book_rows.specs.Append.{append_fault}
use Rattle.book_rows.specs.Carried.{is_seen_within, to_replace}
use Rattle.book_rows.specs.Contents.{alive, in_contents}
use Rattle.book_rows.specs.Live.{is_covered}
use Rattle.book_rows.specs.Rules.{upgraded}
use Rattle.book_rows.specs.Shape.{all_adds, pending_ids}
use Rattle.book_rows.specs.Shown.{contents_of, timeline_of}
use Rattle.book_rows.specs.Spans.{cuts}
use Rattle.book_rows.specs.Visible.{shown}
use Rattle.book_rows.specs.declared.commands.Command.{Command}
use Rattle.book_rows.specs.declared.rows.Book.{Book}
use Rattle.book_rows.specs.declared.rows.ChunkRow.{ChunkRow}
use Rattle.book_rows.specs.declared.rows.PosseRow.{PosseRow}
use Rattle.book_rows.specs.declared.rows.Publication.{Publication}
use Rattle.book_rows.specs.declared.rows.SegmentRow.{SegmentRow}
use Rattle.book_rows.specs.declared.rows.UpgradeRow.{UpgradeRow}
use Rattle.laws_shown.specs.Ends.{ends_within}
use Rattle.laws_shown.specs.Tests.{carries_upgrades, shows_contents}
use Rattle.book_rows.specs.declared.commands.Command.TheVariants as Commands
use Rattle.book_rows.specs.declared.kinds.LockKind.TheVariants as LockKinds
use Rattle.book_rows.specs.declared.kinds.PubKind.TheVariants as PubKinds
use Rattle.book_rows.specs.declared.kinds.TaskKind.TheVariants as TaskKinds
use Rattle.book_rows.specs.declared.kinds.TaskStatus.TheVariants as Statuses
use Rattle.book_rows.specs.declared.replies.Reply.TheVariants as Replies
use Rattle.iv_time.specs.declared.granularity.Granularity.TheVariants as Granularities
use Rattle.scenes.specs.Publishing.{reset_nothing, used_row}

-- ---- the rows

abbrev pub source : List ℕ
source = codes "w"

abbrev pub day : Extent
day = record { start = pos 0; end = pos 24 }

abbrev pub hour : Extent
hour = record { start = pos 5; end = pos 6 }

abbrev pub hour_id : ℕ → SegId
hour_id part = record { source = source; span = hour; version = pos 0; part = part }

abbrev pub day_id : ℕ → SegId
day_id part = record { source = source; span = day; version = pos 9; part = part }

abbrev pub appended : ℕ → Publication
appended part = record { kind = PubKinds.Append; group = codes "p"; source = source; spans = []; adds = hour_id part ∷ []; empties = []; ranges = None }

-- the second append came after the lock was made
abbrev pub before : List Publication
before = appended 0 ∷ appended 1 ∷ []

abbrev pub replacement : Publication
replacement = record { kind = PubKinds.Replace; group = codes "r"; source = source; spans = record { span = day; since = 1 } ∷ []; adds = day_id 0 ∷ []; empties = []; ranges = None }

abbrev pub after : List Publication
after = before ++ replacement ∷ []

abbrev pub rows_before : List SegmentRow
rows_before = used_row (hour_id 0) (hour_id 0) 0 ∷ used_row (hour_id 1) (hour_id 1) 1 ∷ []

-- the replacement has a segment of its own, and a copy of what was appended since its lock
abbrev pub rows_without_copy : List SegmentRow
rows_without_copy = rows_before ++ used_row (day_id 0) (day_id 0) 2 ∷ []

abbrev pub rows_after : List SegmentRow
rows_after = rows_without_copy ++ used_row (day_id 1) (hour_id 1) 2 ∷ []

abbrev pub replacing : PosseRow
replacing = record {
  number = 2;
  lock_kind = LockKinds.Replace;
  group = codes "r";
  source = source;
  span = day;
  version = pos 9;
  priority = 50;
  members = codes "r" ∷ [];
  revoked = false;
  since = 1;
}

abbrev pub chunks_before : List ChunkRow
chunks_before = record { source = source; span = hour; version = pos 0; core = 0; next = 3 } ∷ []

abbrev pub chunks_after : List ChunkRow
chunks_after = chunks_before ++ record { source = source; span = day; version = pos 9; core = 1; next = 2 } ∷ []

abbrev pub upgrades : List UpgradeRow
upgrades = record { posse = 2; root = hour_id 1 } ∷ []

-- ---- the ends

-- of the day and of the hour within it
abbrev pub EndsOfTheDay : Type 0
EndsOfTheDay =
    (ends_within day (hour ∷ []) ≡ pos 0 ∷ pos 5 ∷ pos 6 ∷ [])
    × (list_any (has hour) (ends_within day (hour ∷ [])) ≡ true)
    × (list_all (has hour) (ends_within day (hour ∷ [])) ≡ false)
    × (list_all (has day) (ends_within day (hour ∷ [])) ≡ true)

-- and for all instants: one before the day, and all ends
abbrev pub is_in_day_if_in_hour : ℤ → Bool
is_in_day_if_in_hour t = not (has hour t) || has day t

abbrev pub EndsOfAll : Type 0
EndsOfAll =
    (cuts (day ∷ hour ∷ []) ≡ pos 0 ∷ pos 5 ∷ pos 6 ∷ pos 24 ∷ [])
    × (int_le day.start (neg_ℤ (pos 1)) ≡ false)
    × (int_le hour.start (neg_ℤ (pos 1)) ≡ false)
    × (is_in_day_if_in_hour (neg_ℤ (pos 1)) ≡ true)
    × (list_all is_in_day_if_in_hour (cuts (day ∷ hour ∷ [])) ≡ true)

-- ---- the tests of the rules

-- they pass before and after the replacement, and fail where its copy or its upgrade row is missing
abbrev pub TestsOfTheDay : Type 0
TestsOfTheDay =
    (shows_contents rows_before before ≡ true)
    × (shows_contents rows_after after ≡ true)
    × (shows_contents rows_without_copy after ≡ false)
    × (carries_upgrades (replacing ∷ []) chunks_before upgrades before ≡ true)
    × (carries_upgrades (replacing ∷ []) chunks_before [] before ≡ false)
    × (carries_upgrades (replacing ∷ []) chunks_after [] after ≡ true)

-- ---- the contents, as a test and as a count

abbrev pub IsCountedAs : ℤ → SegId → Bool → ℕ → Type 0
IsCountedAs t root there n = (in_contents after source t root ≡ there) × (alive (λ k. true) after source t root ≡ n) × (shown rows_after source t root ≡ n)

-- the first append was taken away, the second one wasn't
abbrev pub CountsOfTheDay : Type 0
CountsOfTheDay =
    IsCountedAs (pos 5) (hour_id 0) false 0
    × IsCountedAs (pos 5) (hour_id 1) true 1
    × IsCountedAs (pos 6) (hour_id 1) false 0
    × IsCountedAs (pos 5) (day_id 0) true 1
    × IsCountedAs (pos 23) (day_id 0) true 1

-- ---- what is printed

abbrev pub PrintedDay : Type 0
PrintedDay =
    (timeline_of rows_after source ≡ record { span = day; version = pos 9; ids = day_id 0 ∷ day_id 1 ∷ [] } ∷ [])
    × (contents_of rows_after source
    ≡ record { span = record { start = pos 0; end = pos 5 }; roots = day_id 0 ∷ [] }
    ∷ record { span = hour; roots = day_id 0 ∷ hour_id 1 ∷ [] }
    ∷ record { span = record { start = pos 6; end = pos 24 }; roots = day_id 0 ∷ [] }
    ∷ [])

-- ---- what the replacement has to carry

-- it reads the first append, and an upgrade row has the second
abbrev pub CarriedOfTheDay : Type 0
CarriedOfTheDay =
    (to_replace rows_before before replacing ≡ hour_id 0 ∷ [])
    × (is_seen_within rows_before source day (used_row (hour_id 1) (hour_id 1) 1) ≡ true)
    × (is_covered chunks_before replacing (pos 5) ≡ false)
    × (in_contents before source (pos 5) (hour_id 0) ≡ true)
    × (in_contents before source (pos 5) (hour_id 1) ≡ true)
    × (upgraded upgrades 2 (pos 5) (hour_id 0) ≡ 0)
    × (upgraded upgrades 2 (pos 5) (hour_id 1) ≡ 1)

-- ---- an append

-- a running task with an appending lock and one pending
abbrev pub waiting_book : Book
waiting_book = record {
  clock = pos 9;
  last = pos 9;
  next_lock = 2;
  tasks = record { task = codes "p"; group = codes "p"; source = source; kind = TaskKinds.Realtime; priority = 75; status = Statuses.Running; wants = [] } ∷ [];
  posses = record {
    number = 1;
    lock_kind = LockKinds.Append;
    group = codes "p";
    source = source;
    span = hour;
    version = pos 0;
    priority = 75;
    members = codes "p" ∷ [];
    revoked = false;
    since = 0;
  } ∷ [];
  chunks = record { source = source; span = hour; version = pos 0; core = 0; next = 1 } ∷ [];
  segments = [];
  pendings = record { id = hour_id 0; root = hour_id 0; posse = 1; sequence = codes "s"; previous = None } ∷ [];
  upgrades = [];
  publications = [];
  offsets = [];
  supervisors = [];
  sequences = [];
}

abbrev pub append_it : Command
append_it = Commands.Append (codes "p") (hour_id 0 ∷ []) None

-- it is let through, and what it added is shown in its hour
abbrev pub AppendOfTheHour : Type 0
AppendOfTheHour =
    (append_fault waiting_book.posses waiting_book.pendings (codes "p") (hour_id 0 ∷ []) ≡ None)
    × (changes waiting_book append_it ≡ true)
    × (shown waiting_book.segments source (pos 5) (hour_id 0) ≡ 0)
    × (shown (next waiting_book append_it).segments source (pos 5) (hour_id 0) ≡ 1)
    × (shown (next waiting_book append_it).segments source (pos 6) (hour_id 0) ≡ 0)

-- ---- a pending that waits

abbrev pub ask_again : Command
ask_again = Commands.Allocate (codes "p") LockKinds.Append (codes "s") None (pos 5) Granularities.Hour (pos 9)

-- it is answered again, stays after a command that has nothing to do with it, and goes when it is appended or its lock ends
abbrev pub PendingOfTheHour : Type 0
PendingOfTheHour =
    (answer waiting_book ask_again ≡ Replies.Allocate (hour_id 0) 1 [])
    × (pending_ids (next waiting_book ask_again).pendings ≡ hour_id 0 ∷ [])
    × (pending_ids (next waiting_book reset_nothing).pendings ≡ hour_id 0 ∷ [])
    × (length (next waiting_book reset_nothing).publications ≡ 1)
    × (pending_ids (next waiting_book append_it).pendings ≡ [])
    × (all_adds (next waiting_book append_it).publications ≡ hour_id 0 ∷ [])
    × (pending_ids (next waiting_book (Commands.Unlock (codes "p") 1)).pendings ≡ [])
    × ((next waiting_book (Commands.Unlock (codes "p") 1)).posses ≡ [])
