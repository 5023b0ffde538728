-- What is shown: tasks, locks, the timeline, the contents, offsets and sequences.
use Rattle.book_rows.specs.Answer.{changes, next}
use Rattle.book_rows.specs.declared.commands.Command.{Command}
use Rattle.book_rows.specs.declared.kinds.LockKind.{LockKind}
use Rattle.book_rows.specs.declared.kinds.TaskStatus.{TaskStatus}
use Rattle.book_rows.specs.declared.replies.LockLine.{LockLine}
use Rattle.book_rows.specs.declared.replies.TaskLine.{TaskLine}
use Rattle.book_rows.specs.declared.rows.Book.{Book}
use Rattle.seg_names.specs.declared.seg_id.SegId.{SegId}
use Rattle.std.specs.List.{list_all}
use Rattle.std.specs.Prelude.{Bool, List, [], codes, false, not, true, ℕ, ℤ, ◌++◌, ◌∷◌, ◌≡◌}
use Rattle.scenes.specs.Script.{after, s, s2, v, seventh_hour, Answers, a, alloc, append, b, c, contents, day, drop, fail, has_roots, hour, id, insert, lock, minutes, now, p, show_contents, show_timeline, shows, start, submit, succeed, timeline, v0, w, x, y}
use Rattle.scenes.specs.Publishing.{alloc_hour, alloc_seventh, hour_id, offsets_are, s1, seventh_id, show_locks, show_offsets, show_sequences, show_tasks, sixth_hour, submit_other}
use Rattle.cases_rules.specs.ReplaceCases.{both, stream_day}
use Rattle.cases_rules.specs.StreamCases.{a1, a2, two_replicas}
use Rattle.book_rows.specs.declared.commands.Command.TheVariants as Commands
use Rattle.iv_time.specs.declared.granularity.Granularity.TheVariants as Granularities
use Rattle.book_rows.specs.declared.kinds.LockKind.TheVariants as LockKinds
use Rattle.book_rows.specs.declared.replies.Reply.TheVariants as Replies
use Rattle.book_rows.specs.declared.kinds.TaskStatus.TheVariants as Statuses
use Rattle.book_rows.specs.declared.kinds.TaskKind.TheVariants as TaskKinds
use Rattle.book_rows.specs.declared.commands.What.TheVariants as Whats

abbrev pub all_shows : List Command
all_shows = show_tasks ∷ show_locks ∷ show_timeline ∷ show_contents ∷ show_offsets ∷ show_sequences ∷ []

-- ---- the empty book shows nothing, and showing changes nothing

abbrev pub shown_book : Book
shown_book = after (both ++ stream_day)

abbrev pub ShowingLeavesBook : Type 0
ShowingLeavesBook =
    Answers [] all_shows (Replies.Tasks [] ∷ Replies.Locks [] ∷ timeline [] ∷ contents [] ∷ offsets_are [] ∷ Replies.Sequences [] w ∷ [])
    × (list_all (λ command. not (changes shown_book command)) all_shows ≡ true)
    × (next shown_book show_timeline ≡ shown_book)
    × (next shown_book show_contents ≡ shown_book)
    × (next shown_book show_locks ≡ shown_book)

-- ---- tasks of each status, in the order in which they were submitted, of all sources

abbrev pub task_line : List ℕ → List ℕ → ℕ → List ℕ → TaskStatus → TaskLine
task_line task group priority source status = record { group = group; priority = priority; source = source; status = status; task = task }

abbrev pub TasksOfEachStatus : Type 0
TasksOfEachStatus =
    Answers
    (submit y TaskKinds.Compaction
    ∷ start b TaskKinds.Batch
    ++ (succeed b ∷ fail y ∷ Commands.Submit x (codes "g") w TaskKinds.Other 7 [] ∷ Commands.Manage now ∷ submit_other a a ∷ []))
    (show_tasks ∷ [])
    (Replies.Tasks
    (task_line y y 25 w Statuses.Failed
    ∷ task_line b b 50 w Statuses.Success
    ∷ task_line x (codes "g") 7 w Statuses.Running
    ∷ task_line a a 75 v Statuses.Waiting
    ∷ [])
    ∷ [])

-- ---- locks by number, revoked ones too, with their members in the order of joining

abbrev pub lock_line : ℕ → List ℕ → List (List ℕ) → ℕ → Bool → LockKind → ℤ → LockLine
lock_line number group members priority revoked kind version = record {
  group = group;
  lock = number;
  members = members;
  priority = priority;
  revoked = revoked;
  source = w;
  span = hour;
  lock_kind = kind;
  version = version;
}

abbrev pub LocksAndMembers : Type 0
LocksAndMembers =
    Answers (two_replicas ++ start c TaskKinds.Compaction)
    (lock c LockKinds.Exclusive hour
    ∷ lock a2 LockKinds.Append hour
    ∷ lock a1 LockKinds.Append hour
    ∷ show_locks
    ∷ succeed a2
    ∷ show_locks
    ∷ fail c
    ∷ succeed a1
    ∷ show_locks
    ∷ [])
    (Replies.Lock 1 [] hour now
    ∷ Replies.Lock 2 (1 ∷ []) hour v0
    ∷ Replies.Lock 2 [] hour v0
    ∷ Replies.Locks
    (lock_line 1 c (c ∷ []) 25 true LockKinds.Exclusive now
    ∷ lock_line 2 (codes "g") (a2 ∷ a1 ∷ []) 75 false LockKinds.Append v0
    ∷ [])
    ∷ Replies.End Statuses.Success a2
    ∷ Replies.Locks
    (lock_line 1 c (c ∷ []) 25 true LockKinds.Exclusive now
    ∷ lock_line 2 (codes "g") (a1 ∷ []) 75 false LockKinds.Append v0
    ∷ [])
    ∷ Replies.End Statuses.Failed c
    ∷ Replies.End Statuses.Success a1
    ∷ Replies.Locks []
    ∷ [])

-- ---- the timeline has the ids of a chunk by part, in whatever order they were appended

abbrev pub IdsByPart : Type 0
IdsByPart =
    Answers (start p TaskKinds.Realtime ++ alloc_hour p s ∷ alloc_hour p s1 ∷ alloc_hour p s2 ∷ [])
    (append p (hour_id 2 ∷ []) ∷ show_timeline ∷ append p (hour_id 1 ∷ []) ∷ append p (hour_id 0 ∷ []) ∷ show_timeline ∷ show_contents ∷ [])
    (Replies.Append 0
    ∷ timeline (shows hour v0 (hour_id 2 ∷ []) ∷ [])
    ∷ Replies.Append 1
    ∷ Replies.Append 2
    ∷ timeline (shows hour v0 (hour_id 0 ∷ hour_id 1 ∷ hour_id 2 ∷ []) ∷ [])
    ∷ contents (has_roots hour (hour_id 0 ∷ hour_id 1 ∷ hour_id 2 ∷ []) ∷ [])
    ∷ [])

-- ---- chunks that touch are parts of their own, also with one version; what isn't used isn't shown

abbrev pub alloc_sixth : List ℕ → List ℕ → Command
alloc_sixth task sequence = alloc task LockKinds.Append sequence (minutes 370) Granularities.Hour

abbrev pub sixth_id : SegId
sixth_id = id sixth_hour v0 0

abbrev pub TouchingChunks : Type 0
TouchingChunks =
    Answers (start p TaskKinds.Realtime ++ alloc_seventh p s ∷ alloc_hour p s1 ∷ alloc_sixth p s2 ∷ append p (hour_id 0 ∷ sixth_id ∷ seventh_id 0 ∷ []) ∷ succeed p ∷ [])
    (show_timeline ∷ show_contents ∷ drop sixth_hour ∷ show_timeline ∷ show_contents ∷ [])
    (timeline (shows hour v0 (hour_id 0 ∷ []) ∷ shows sixth_hour v0 (sixth_id ∷ []) ∷ shows seventh_hour v0 (seventh_id 0 ∷ []) ∷ [])
    ∷ contents (has_roots hour (hour_id 0 ∷ []) ∷ has_roots sixth_hour (sixth_id ∷ []) ∷ has_roots seventh_hour (seventh_id 0 ∷ []) ∷ [])
    ∷ Replies.Drop 1
    ∷ timeline (shows hour v0 (hour_id 0 ∷ []) ∷ shows seventh_hour v0 (seventh_id 0 ∷ []) ∷ [])
    ∷ contents (has_roots hour (hour_id 0 ∷ []) ∷ has_roots seventh_hour (seventh_id 0 ∷ []) ∷ [])
    ∷ [])

-- ---- pieces that touch and agree are joined: an hour that is hidden cuts neither the timeline nor the contents

abbrev pub HiddenHourCutsNothing : Type 0
HiddenHourCutsNothing =
    Answers
    (start p TaskKinds.Realtime
    ++ (alloc_hour p s ∷ alloc_seventh p s1 ∷ append p (hour_id 0 ∷ seventh_id 0 ∷ []) ∷ succeed p ∷ start a TaskKinds.Batch)
    ++ (lock a LockKinds.Exclusive day ∷ insert a day (id day now 0 ∷ []) ∷ []))
    (show_timeline ∷ show_contents ∷ [])
    (timeline (shows day now (id day now 0 ∷ []) ∷ []) ∷ contents (has_roots day (id day now 0 ∷ []) ∷ []) ∷ [])

-- ---- each source has a timeline and contents of its own

abbrev pub other_hour_id : SegId
other_hour_id = record { source = v; span = hour; version = v0; part = 0 }

abbrev pub SourcesAreApart : Type 0
SourcesAreApart =
    Answers (submit_other y y ∷ Commands.Manage now ∷ alloc_hour y s ∷ append y (other_hour_id ∷ []) ∷ [])
    (show_timeline ∷ show_contents ∷ Commands.Show (Whats.Timeline v) ∷ Commands.Show (Whats.Contents v) ∷ [])
    (timeline []
    ∷ contents []
    ∷ Replies.Timeline (shows hour v0 (other_hour_id ∷ []) ∷ []) v
    ∷ Replies.Contents (has_roots hour (other_hour_id ∷ []) ∷ []) v
    ∷ [])
