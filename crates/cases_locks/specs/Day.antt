-- A worked case: a day with an append under a replacing lock, the replacement with its copies, and a drop.
use Rattle.std.specs.Prelude.{◌++◌, ◌∷◌, ◌≡◌, List, None, [], false, pos, true, ℕ}
use Rattle.std.specs.List.{list_any}
use Rattle.iv_span.specs.Extent.{Extent}
use Rattle.iv_time.specs.declared.granularity.Granularity.TheVariants as Granularities
use Rattle.seg_names.specs.declared.seg_id.SegId.{SegId}
use Rattle.book_rows.specs.Answer.{answers, empty_book}
use Rattle.book_rows.specs.Over.{Target}
use Rattle.book_rows.specs.Publications.{appending, publication_of}
use Rattle.book_rows.specs.declared.commands.Command.{Command}
use Rattle.book_rows.specs.declared.commands.Command.TheVariants as Commands
use Rattle.book_rows.specs.declared.kinds.LockKind.TheVariants as LockKinds
use Rattle.book_rows.specs.declared.kinds.TaskKind.TheVariants as TaskKinds
use Rattle.book_rows.specs.declared.kinds.TaskStatus.TheVariants as Statuses
use Rattle.book_rows.specs.declared.replies.Reply.{Reply}
use Rattle.book_rows.specs.declared.replies.Reply.TheVariants as Replies
use Rattle.book_rows.specs.declared.rows.PendingRow.{PendingRow}
use Rattle.book_rows.specs.declared.rows.TaskRow.{TaskRow}
use Rattle.book_rows.specs.declared.rows.UpgradeRow.{UpgradeRow}
use Rattle.book_rows.specs.declared.rows.Want.{Want}
use Rattle.laws_chunks.specs.Appending.{IsAppend}
use Rattle.laws_chunks.specs.Dropping.{IsFree}
use Rattle.laws_chunks.specs.Replacements.{IsReplaceSpan}
use Rattle.scenes.specs.Script.{now, after}
use Rattle.scenes.specs.Rows.{p_row}
use Rattle.scenes.specs.Publishing.{used_row}
use Rattle.book_rows.specs.declared.kinds.PubKind.TheVariants as PubKinds

-- ---- the source, the tasks, the spans and their ids

abbrev pub source : List ℕ
source = 119 ∷ []

abbrev pub writer : List ℕ
writer = 112 ∷ []

abbrev pub replacer : List ℕ
replacer = 114 ∷ []

abbrev pub day : Extent
day = record { start = pos 0; end = pos 86400000 }

abbrev pub hour : Extent
hour = record { start = pos 0; end = pos 3600000 }

abbrev pub want_hour : Want
want_hour = record { lock_kind = LockKinds.Exclusive; span = hour }

-- of version 0, in the hour
abbrev pub hour_id : ℕ → SegId
hour_id part = record { source = source; span = hour; version = pos 0; part = part }

-- of the replacing lock's version, for the whole day
abbrev pub day_id : ℕ → SegId
day_id part = record { source = source; span = day; version = now; part = part }

-- ---- the commands

-- two ids are allocated, and then the day is locked
abbrev pub locked : List Command
locked =
    Commands.Submit writer writer source TaskKinds.Realtime 75 []
    ∷ Commands.Submit replacer replacer source TaskKinds.Compaction 25 []
    ∷ Commands.Manage now
    ∷ Commands.Allocate writer LockKinds.Append (115 ∷ []) None (pos 0) Granularities.Hour now
    ∷ Commands.Allocate writer LockKinds.Append (116 ∷ []) None (pos 0) Granularities.Hour now
    ∷ Commands.Lock replacer LockKinds.Replace day now
    ∷ []

-- the first is appended under the lock
abbrev pub appended_under : List Command
appended_under = locked ++ Commands.Append writer (hour_id 0 ∷ []) None ∷ []

-- the day is replaced
abbrev pub replaced : List Command
replaced = appended_under ++ Commands.Replace replacer (day ∷ []) (day_id 0 ∷ []) [] None ∷ []

-- the second is appended, and the locks are left
abbrev pub left : List Command
left = replaced ++ Commands.Append writer (hour_id 1 ∷ []) None ∷ Commands.End writer Statuses.Success ∷ Commands.End replacer Statuses.Success ∷ []

-- the day is dropped
abbrev pub the_day : List Command
the_day = left ++ Commands.Drop source day ∷ []

abbrev pub the_replies : List Reply
the_replies =
    Replies.Submit Statuses.Waiting writer
    ∷ Replies.Submit Statuses.Waiting replacer
    ∷ Replies.Manage (writer ∷ replacer ∷ []) []
    ∷ Replies.Allocate (hour_id 0) 1 []
    ∷ Replies.Allocate (hour_id 1) 1 []
    ∷ Replies.Lock 2 [] day now
    ∷ Replies.Append 0
    ∷ Replies.Replace 1
    ∷ Replies.Append 2
    ∷ Replies.End Statuses.Success writer
    ∷ Replies.End Statuses.Success replacer
    ∷ Replies.Drop 3
    ∷ []

-- ---- what is said of it

abbrev pub pending_row : SegId → SegId → PendingRow
pending_row a root = record { id = a; root = root; posse = 1; sequence = 116 ∷ []; previous = None }

abbrev pub upgrade_row : UpgradeRow
upgrade_row = record { posse = 2; root = hour_id 0 }

-- each command is let through; the append leaves an upgrade row, and the replacement copies it and the pending
abbrev pub DayIsDone : Type 0
DayIsDone =
    (answers empty_book the_day ≡ the_replies)
    × ((after appended_under).upgrades ≡ upgrade_row ∷ [])
    × ((after replaced).upgrades ≡ [])
    × ((after replaced).segments ≡ used_row (hour_id 0) (hour_id 0) 0 ∷ used_row (day_id 0) (day_id 0) 1 ∷ used_row (day_id 1) (hour_id 0) 1 ∷ [])
    × ((after replaced).pendings ≡ pending_row (hour_id 1) (hour_id 1) ∷ pending_row (day_id 2) (hour_id 1) ∷ [])
    × (list_any (λ r. r.used) (after left).segments ≡ true)
    × (list_any (λ r. r.used) (after the_day).segments ≡ false)

-- ---- the premises of the laws of its changes are met

abbrev pub replacer_row : TaskRow
replacer_row = record { task = replacer; group = replacer; source = source; kind = TaskKinds.Compaction; priority = 25; status = Statuses.Running; wants = [] }

abbrev pub first_pending : PendingRow
first_pending = record { id = hour_id 0; root = hour_id 0; posse = 1; sequence = 115 ∷ []; previous = None }

abbrev pub target : Target
target = record { span = day; lock = 2; version = now; since = 0 }

-- of an append with an upgrade row, of a replacement with copies, and of a drop with rows
pub record PremisesAreMet : Type 0 where
  pub of_append : IsAppend (after locked) [] (publication_of PubKinds.Append p_row [] (appending [] None)) first_pending (upgrade_row ∷ [])
  pub of_replace : IsReplaceSpan (after appended_under) replacer_row (day_id 0 ∷ []) [] target
  pub of_drop : IsFree (after left).posses (after left).segments source day
