-- Short names for commands, spans and ids. The source is `w`, and the moment is 2024-04-01 everywhere.
use Rattle.std.specs.Prelude.{◌*◌, ◌+◌, ◌∷◌, ◌≡◌, List, None, Option, Some, [], codes, pos, ℕ, ℤ}
use Rattle.iv_span.specs.Extent.{Extent}
use Rattle.iv_time.specs.declared.granularity.Granularity.{Granularity}
use Rattle.seg_names.specs.declared.seg_id.SegId.{SegId}
use Rattle.book_rows.specs.Answer.{answers, book_after, empty_book}
use Rattle.book_rows.specs.Kinds.{default_priority}
use Rattle.book_rows.specs.declared.commands.Command.{Command}
use Rattle.book_rows.specs.declared.kinds.LockKind.{LockKind}
use Rattle.book_rows.specs.declared.kinds.TaskKind.{TaskKind}
use Rattle.book_rows.specs.declared.replies.ContentsPart.{ContentsPart}
use Rattle.book_rows.specs.declared.replies.Refusal.{Refusal}
use Rattle.book_rows.specs.declared.replies.Reply.{Reply}
use Rattle.book_rows.specs.declared.replies.TimelinePart.{TimelinePart}
use Rattle.book_rows.specs.declared.rows.Book.{Book}
use Rattle.book_rows.specs.declared.rows.Ranges.{Ranges}
use Rattle.book_rows.specs.declared.commands.Command.TheVariants as Commands
use Rattle.book_rows.specs.declared.replies.Reply.TheVariants as Replies
use Rattle.book_rows.specs.declared.kinds.TaskStatus.TheVariants as Statuses
use Rattle.book_rows.specs.declared.commands.What.TheVariants as Whats

-- sources
abbrev pub v : List ℕ
v = codes "v"

abbrev pub w : List ℕ
w = codes "w"

-- the stream
abbrev pub t : List ℕ
t = codes "t"

-- tasks
abbrev pub a : List ℕ
a = codes "a"

abbrev pub b : List ℕ
b = codes "b"

abbrev pub c : List ℕ
c = codes "c"

abbrev pub p : List ℕ
p = codes "p"

abbrev pub q : List ℕ
q = codes "q"

abbrev pub r : List ℕ
r = codes "r"

abbrev pub x : List ℕ
x = codes "x"

abbrev pub y : List ℕ
y = codes "y"

-- names of sequences of allocations
abbrev pub s : List ℕ
s = codes "s"

abbrev pub s2 : List ℕ
s2 = codes "s2"

abbrev pub s3 : List ℕ
s3 = codes "s3"

-- 2024-03-01
abbrev pub day : Extent
day = record { start = pos 1709251200000; end = pos 1709337600000 }

-- 2024-03-02
abbrev pub next_day : Extent
next_day = record { start = pos 1709337600000; end = pos 1709424000000 }

-- 2024-03-01 from 05:00 to 06:00
abbrev pub hour : Extent
hour = record { start = pos 1709269200000; end = pos 1709272800000 }

-- the hours of that day before and after
abbrev pub morning : Extent
morning = record { start = pos 1709251200000; end = pos 1709269200000 }

abbrev pub rest_of_day : Extent
rest_of_day = record { start = pos 1709272800000; end = pos 1709337600000 }

-- so many minutes after 2024-03-01
abbrev pub minutes : ℕ → ℤ
minutes m = pos (1709251200000 + m * 60000)

-- that day from 07:00 to 08:00
abbrev pub seventh_hour : Extent
seventh_hour = record { start = minutes 420; end = minutes 480 }

-- 1970-01-01, the version of appending locks
abbrev pub v0 : ℤ
v0 = pos 0

-- 2024-04-01, and one and two milliseconds later
abbrev pub now : ℤ
now = pos 1711929600000

abbrev pub now1 : ℤ
now1 = pos 1711929600001

abbrev pub now2 : ℤ
now2 = pos 1711929600002

abbrev pub id : Extent → ℤ → ℕ → SegId
id span version part = record { source = w; span = span; version = version; part = part }

-- ---- commands

abbrev pub submit : List ℕ → TaskKind → Command
submit task kind = Commands.Submit task task w kind (default_priority kind) []

-- a task is submitted and started
abbrev pub start : List ℕ → TaskKind → List Command
start task kind = submit task kind ∷ Commands.Manage now ∷ []

abbrev pub lock : List ℕ → LockKind → Extent → Command
lock task kind span = Commands.Lock task kind span now

abbrev pub alloc : List ℕ → LockKind → List ℕ → ℤ → Granularity → Command
alloc task kind sequence at granularity = Commands.Allocate task kind sequence None at granularity now

abbrev pub append : List ℕ → List SegId → Command
append task ids = Commands.Append task ids None

-- ranges of partition 0
abbrev pub from_to : ℕ → ℕ → Option Ranges
from_to low high = Some (record { stream = t; parts = record { partition = 0; start = low; end = high } ∷ [] })

abbrev pub insert : List ℕ → Extent → List SegId → Command
insert task span ids = Commands.Insert task (span ∷ []) ids [] None

abbrev pub replace : List ℕ → Extent → List SegId → Command
replace task span ids = Commands.Replace task (span ∷ []) ids [] None

abbrev pub succeed : List ℕ → Command
succeed task = Commands.End task Statuses.Success

abbrev pub fail : List ℕ → Command
fail task = Commands.End task Statuses.Failed

abbrev pub drop : Extent → Command
drop span = Commands.Drop w span

abbrev pub show_timeline : Command
show_timeline = Commands.Show (Whats.Timeline w)

abbrev pub show_contents : Command
show_contents = Commands.Show (Whats.Contents w)

-- ---- replies

abbrev pub refuse : Refusal → Reply
refuse why = Replies.Refused why

abbrev pub timeline : List TimelinePart → Reply
timeline parts = Replies.Timeline parts w

abbrev pub contents : List ContentsPart → Reply
contents parts = Replies.Contents parts w

abbrev pub shows : Extent → ℤ → List SegId → TimelinePart
shows span version ids = record { span = span; version = version; ids = ids }

abbrev pub has_roots : Extent → List SegId → ContentsPart
has_roots span roots = record { span = span; roots = roots }

-- ---- runs

-- the book after commands, from the empty one
abbrev pub after : List Command → Book
after commands = book_after empty_book commands

-- on the empty book, after the first commands, the second ones are answered so
abbrev pub Answers : List Command → List Command → List Reply → Type 0
Answers before commands replies = answers (book_after empty_book before) commands ≡ replies
