-- What a replacement makes: its rows, the copies that it carries, and its repeats.
use Rattle.book_rows.specs.declared.commands.Command.{Command}
use Rattle.book_rows.specs.declared.rows.Book.{Book}
use Rattle.book_rows.specs.declared.rows.PendingRow.{PendingRow}
use Rattle.seg_names.specs.declared.seg_id.SegId.{SegId}
use Rattle.std.specs.Prelude.{List, None, Some, [], codes, ℕ, ◌++◌, ◌∷◌, ◌≡◌}
use Rattle.cases_rules.specs.AppendCases.{appended_under, two_hours, two_ids}
use Rattle.scenes.specs.Publishing.{LeavesBook, alloc_hour, alloc_seventh, hour_id, pending_row_of, s1, seventh_id, submit_other, upgrade_row_of, used_row}
use Rattle.scenes.specs.Script.{after, s, v, seventh_hour, Answers, append, contents, day, has_roots, hour, id, insert, lock, minutes, morning, now, now1, p, q, r, refuse, replace, rest_of_day, show_contents, show_timeline, shows, start, succeed, timeline, v0, w, y}
use Rattle.cases_rules.specs.ReplaceCases.{both, chunk_row, replaced_under_pending}
use Rattle.cases_rules.specs.StreamCases.{a1, a2}
use Rattle.book_rows.specs.declared.commands.Command.TheVariants as Commands
use Rattle.iv_time.specs.declared.granularity.Granularity.TheVariants as Granularities
use Rattle.book_rows.specs.declared.kinds.LockKind.TheVariants as LockKinds
use Rattle.book_rows.specs.declared.kinds.PubKind.TheVariants as PubKinds
use Rattle.book_rows.specs.declared.replies.Refusal.TheVariants as Refusals
use Rattle.book_rows.specs.declared.replies.Reply.TheVariants as Replies
use Rattle.book_rows.specs.declared.kinds.TaskStatus.TheVariants as Statuses
use Rattle.book_rows.specs.declared.kinds.TaskKind.TheVariants as TaskKinds

-- ---- the rows of a replacement of two spans under two locks: the ids of all spans, and then the copies span by span, numbered on from the core

abbrev pub two_locks : List Command
two_locks =
    two_hours
    ++ (lock r LockKinds.Replace hour
    ∷ append p two_ids
    ∷ lock r LockKinds.Replace seventh_hour
    ∷ alloc_hour p s
    ∷ alloc_seventh p s1
    ∷ [])

abbrev pub replace_both : Command
replace_both = Commands.Replace r (hour ∷ seventh_hour ∷ []) (id hour now 0 ∷ id hour now 1 ∷ id seventh_hour now1 0 ∷ []) [] None

abbrev pub replaced_both : Book
replaced_both = after (two_locks ++ replace_both ∷ [])

abbrev pub RowsOfReplacement : Type 0
RowsOfReplacement =
    (replaced_both.segments
    ≡ used_row (hour_id 0) (hour_id 0) 0
    ∷ used_row (seventh_id 0) (seventh_id 0) 0
    ∷ used_row (id hour now 0) (id hour now 0) 1
    ∷ used_row (id hour now 1) (id hour now 1) 1
    ∷ used_row (id seventh_hour now1 0) (id seventh_hour now1 0) 1
    ∷ used_row (id hour now 2) (hour_id 0) 1
    ∷ [])
    × (replaced_both.pendings
    ≡ pending_row_of (hour_id 1) (hour_id 1) 1 s
    ∷ pending_row_of (seventh_id 1) (seventh_id 1) 2 s1
    ∷ pending_row_of (id hour now 3) (hour_id 1) 1 s
    ∷ pending_row_of (id seventh_hour now1 1) (seventh_id 1) 2 s1
    ∷ [])
    × (replaced_both.chunks ≡ chunk_row hour v0 0 2 ∷ chunk_row seventh_hour v0 0 2 ∷ chunk_row hour now 2 4 ∷ chunk_row seventh_hour now1 1 2 ∷ [])
    × (replaced_both.upgrades ≡ [])

-- its publication has the `since` of each span's lock
abbrev pub SinceOfEachSpan : Type 0
SinceOfEachSpan =
    replaced_both.publications
    ≡ record { kind = PubKinds.Append; group = p; source = w; spans = []; adds = two_ids; empties = []; ranges = None }
    ∷ record {
      kind = PubKinds.Replace;
      group = r;
      source = w;
      spans = record { span = hour; since = 0 } ∷ record { span = seventh_hour; since = 1 } ∷ [];
      adds = id hour now 0 ∷ id hour now 1 ∷ id seventh_hour now1 0 ∷ [];
      empties = [];
      ranges = None;
    }
    ∷ []

-- what each lock has to read before, and what is shown when the pendings are appended after
abbrev pub ReadAndShown : Type 0
ReadAndShown =
    Answers two_locks
    (Commands.ToReplace r hour
    ∷ Commands.ToReplace r seventh_hour
    ∷ replace_both
    ∷ append p (hour_id 1 ∷ seventh_id 1 ∷ [])
    ∷ show_timeline
    ∷ show_contents
    ∷ [])
    (Replies.ToReplace []
    ∷ Replies.ToReplace (seventh_id 0 ∷ [])
    ∷ Replies.Replace 1
    ∷ Replies.Append 2
    ∷ timeline
    (shows hour now (id hour now 0 ∷ id hour now 1 ∷ id hour now 2 ∷ id hour now 3 ∷ [])
    ∷ shows seventh_hour now1 (id seventh_hour now1 0 ∷ id seventh_hour now1 1 ∷ [])
    ∷ [])
    ∷ contents
    (has_roots hour (hour_id 0 ∷ hour_id 1 ∷ id hour now 0 ∷ id hour now 1 ∷ [])
    ∷ has_roots seventh_hour (seventh_id 1 ∷ id seventh_hour now1 0 ∷ [])
    ∷ [])
    ∷ [])

-- ---- a replacement takes up the upgrade rows of its span, and leaves the rest for the next

abbrev pub UpgradeRowsOutsideStay : Type 0
UpgradeRowsOutsideStay =
    ((after (appended_under ++ replace r hour (id hour now 0 ∷ []) ∷ [])).upgrades ≡ upgrade_row_of 3 (seventh_id 0) ∷ [])
    × Answers appended_under
    (replace r hour (id hour now 0 ∷ []) ∷ replace r seventh_hour (id seventh_hour now 0 ∷ []) ∷ show_timeline ∷ [])
    (Replies.Replace 1
    ∷ Replies.Replace 2
    ∷ timeline (shows hour now (id hour now 0 ∷ id hour now 1 ∷ []) ∷ shows seventh_hour now (id seventh_hour now 0 ∷ id seventh_hour now 1 ∷ []) ∷ [])
    ∷ [])

-- ---- after the replacement new ids go into its chunk, under an appending lock on its span

abbrev pub IntoReplacement : Type 0
IntoReplacement =
    Answers (both ++ lock r LockKinds.Replace day ∷ replace r day (id day now 0 ∷ []) ∷ [])
    (alloc_hour p s ∷ append p (id day now 1 ∷ []) ∷ show_timeline ∷ show_contents ∷ [])
    (Replies.Allocate (id day now 1) 2 []
    ∷ Replies.Append 1
    ∷ timeline (shows day now (id day now 0 ∷ id day now 1 ∷ []) ∷ [])
    ∷ contents (has_roots day (id day now 0 ∷ id day now 1 ∷ []) ∷ [])
    ∷ [])

-- ---- a copy has the sequence and the previous id of its root

abbrev pub pending_after : SegId → SegId → SegId → PendingRow
pending_after name root previous = record { id = name; root = root; posse = 1; sequence = s; previous = Some previous }

abbrev pub CopyHasPrevious : Type 0
CopyHasPrevious =
    (after
    (both
    ++ (alloc_hour p s
    ∷ Commands.Allocate p LockKinds.Append s (Some (hour_id 0)) (minutes 311) Granularities.Hour now
    ∷ lock r LockKinds.Replace day
    ∷ replace r day (id day now 0 ∷ [])
    ∷ []))).pendings
    ≡ pending_row_of (hour_id 0) (hour_id 0) 1 s
    ∷ pending_after (hour_id 1) (hour_id 1) (hour_id 0)
    ∷ pending_row_of (id day now 1) (hour_id 0) 1 s
    ∷ pending_after (id day now 2) (hour_id 1) (hour_id 0)
    ∷ []

-- ---- the pendings of another source aren't copied

abbrev pub OtherSourceIsNotCopied : Type 0
OtherSourceIsNotCopied =
    (after
    (submit_other y y
    ∷ start r TaskKinds.Batch
    ++ (alloc_hour y s ∷ lock r LockKinds.Replace day ∷ replace r day (id day now 0 ∷ []) ∷ []))).pendings
    ≡ pending_row_of (record { source = v; span = hour; version = v0; part = 0 }) (record { source = v; span = hour; version = v0; part = 0 }) 1 s ∷ []

-- ---- a pending whose task leaves the lock goes with its copies, and their parts aren't given again

abbrev pub CopiesGoWithTheirRoot : Type 0
CopiesGoWithTheirRoot =
    ((after (both ++ replaced_under_pending)).pendings ≡ pending_row_of (hour_id 0) (hour_id 0) 1 s ∷ pending_row_of (id day now 1) (hour_id 0) 1 s ∷ [])
    × ((after (both ++ replaced_under_pending ++ Commands.Unlock p 1 ∷ [])).pendings ≡ [])
    × Answers (both ++ replaced_under_pending ++ Commands.Unlock p 1 ∷ []) (alloc_hour p s ∷ []) (Replies.Allocate (id day now 2) 3 [] ∷ [])

-- ---- a pending elsewhere, and a copy that reaches out of the span, don't refuse

abbrev pub CopiesDoNotRefuse : Type 0
CopiesDoNotRefuse =
    Answers (both ++ alloc_seventh p s1 ∷ replaced_under_pending ++ succeed r ∷ start q TaskKinds.Batch)
    (lock q LockKinds.Replace hour
    ∷ replace q hour (id hour now1 0 ∷ [])
    ∷ append p (hour_id 0 ∷ [])
    ∷ show_timeline
    ∷ show_contents
    ∷ [])
    (Replies.Lock 4 [] hour now1
    ∷ Replies.Replace 1
    ∷ Replies.Append 2
    ∷ timeline
    (shows morning now (id day now 0 ∷ id day now 2 ∷ [])
    ∷ shows hour now1 (id hour now1 0 ∷ id hour now1 1 ∷ [])
    ∷ shows rest_of_day now (id day now 0 ∷ id day now 2 ∷ [])
    ∷ [])
    ∷ contents (has_roots morning (id day now 0 ∷ []) ∷ has_roots hour (hour_id 0 ∷ id hour now1 0 ∷ []) ∷ has_roots rest_of_day (id day now 0 ∷ []) ∷ [])
    ∷ [])

-- ---- a repeat is answered to any task of the group, also when the lock is revoked; an insert of the same ids is no repeat

abbrev pub submit_batch : List ℕ → Command
submit_batch task = Commands.Submit task (codes "g") w TaskKinds.Batch 50 []

abbrev pub replaced_by_group : List Command
replaced_by_group =
    submit_batch a1 ∷ submit_batch a2 ∷ Commands.Manage now ∷ lock a1 LockKinds.Replace day ∷ replace a1 day (id day now 0 ∷ []) ∷ []

abbrev pub RepeatedReplace : Type 0
RepeatedReplace =
    Answers replaced_by_group
    (replace a2 day (id day now 0 ∷ [])
    ∷ replace a2 day (id day now 0 ∷ id day now 1 ∷ [])
    ∷ insert a1 day (id day now 0 ∷ [])
    ∷ start y TaskKinds.Realtime
    ++ (lock y LockKinds.Exclusive day ∷ replace a1 day (id day now 0 ∷ []) ∷ []))
    (Replies.Replace 0
    ∷ refuse (Refusals.LockMissing day)
    ∷ refuse (Refusals.LockMissing day)
    ∷ Replies.Submit Statuses.Waiting y
    ∷ Replies.Manage (y ∷ []) []
    ∷ Replies.Lock 2 (1 ∷ []) day now1
    ∷ Replies.Replace 0
    ∷ [])
    × LeavesBook replaced_by_group (replace a2 day (id day now 0 ∷ [])) (Replies.Replace 0)
