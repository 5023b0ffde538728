-- Worked cases of the laws on publications: an append and a replacement of the day, an insert with a tombstone, a drop, and the removal of unused segments.
use Rattle.std.specs.Prelude.{◌++◌, ◌∷◌, ◌≡◌, Bool, List, None, Ok, [], codes, false, filter, pos, true, ℕ}
use Rattle.std.specs.List.{list_all, list_any}
use Rattle.iv_span.specs.Extent.{Extent}
use Rattle.iv_time.specs.declared.granularity.Granularity.TheVariants as Granularities
use Rattle.seg_names.specs.Ids.{same_id}
use Rattle.seg_names.specs.declared.seg_id.SegId.{SegId}
use Rattle.book_rows.specs.Answer.{next}
use Rattle.book_rows.specs.Append.{after_append, append_fault}
use Rattle.book_rows.specs.Form.{KeepsForm}
use Rattle.book_rows.specs.Lists.{In}
use Rattle.book_rows.specs.Over.{Inserting, Replacing, Target, check_over}
use Rattle.book_rows.specs.Publications.{Publish, appending, in_spans, publication_of}
use Rattle.book_rows.specs.Rewrite.{after_drop, after_insert, after_replace, drop_fault, own_row, tomb_row}
use Rattle.book_rows.specs.Shape.{AreDistinct, HaveMembers, same_task}
use Rattle.book_rows.specs.Spans.{is_span}
use Rattle.book_rows.specs.declared.commands.Command.{Command}
use Rattle.book_rows.specs.declared.commands.Command.TheVariants as Commands
use Rattle.book_rows.specs.declared.kinds.LockKind.TheVariants as LockKinds
use Rattle.book_rows.specs.declared.kinds.PubKind.TheVariants as PubKinds
use Rattle.book_rows.specs.declared.kinds.TaskKind.TheVariants as TaskKinds
use Rattle.book_rows.specs.declared.kinds.TaskStatus.TheVariants as Statuses
use Rattle.book_rows.specs.declared.rows.Book.{Book}
use Rattle.book_rows.specs.declared.rows.ChunkRow.{ChunkRow}
use Rattle.book_rows.specs.declared.rows.PendingRow.{PendingRow}
use Rattle.book_rows.specs.declared.rows.PosseRow.{PosseRow}
use Rattle.book_rows.specs.declared.rows.Publication.{Publication}
use Rattle.book_rows.specs.declared.rows.SegmentRow.{SegmentRow}
use Rattle.book_rows.specs.declared.rows.TaskRow.{TaskRow}
use Rattle.laws_locks.specs.LockShape.{IsLockShape}
use Rattle.laws_chunks.specs.Appending.{IsAppend, root_appended}
use Rattle.laws_chunks.specs.Covering.{IsInsert, IsReplace, span_inserted, span_replaced}
use Rattle.cases_locks.specs.Day.{day, day_id, first_pending, hour, hour_id, left, locked, pending_row, replaced, replacer, replacer_row, source, target, the_day, upgrade_row, writer}
use Rattle.scenes.specs.Script.{after, now}
use Rattle.scenes.specs.Publishing.{used_row}
use Rattle.scenes.specs.Rows.{p_row}
use Rattle.laws_chunks.specs.Dropping.{IsFree}
use Rattle.laws_chunks.specs.Growing.{building, pushed}
use Rattle.laws_chunks.specs.Inserts.{AreDisjoint, ArePlaced, IsInsertSpan}
use Rattle.cases_locks.specs.LockCases.{AreBothSound, replace_lock, third_hour, under}
use Rattle.laws_chunks.specs.Replacements.{IsReplaceSpan}
use Rattle.laws_chunks.specs.RowOrder.{HasSameUsed, with_segments}

-- ---- an append: it begins empty, and grows by one root; then a whole one of two roots

abbrev pub begun_append : Publication
begun_append = publication_of PubKinds.Append p_row [] (appending [] None)

abbrev pub both_ids : List SegId
both_ids = hour_id 0 ∷ hour_id 1 ∷ []

abbrev pub root_done : Book
root_done = root_appended 0 [] begun_append first_pending (upgrade_row ∷ []) (after locked)

abbrev pub append_done : Book
append_done = after_append p_row (appending both_ids None) (after locked)

pub record AppendsAreDone : Type 0 where
  pub begun : AreBothSound (after locked) (pushed begun_append (after locked))
  pub begun_publications : (pushed begun_append (after locked)).publications ≡ begun_append ∷ []
  pub is_append : IsAppend (after locked) [] begun_append first_pending (upgrade_row ∷ [])
  pub one_root : AreBothSound (building [] begun_append (after locked)) root_done
  pub root_segments : root_done.segments ≡ used_row (hour_id 0) (hour_id 0) 0 ∷ []
  pub root_pendings : root_done.pendings ≡ pending_row (hour_id 1) (hour_id 1) ∷ []
  pub distinct_ids : AreDistinct same_id both_ids
  pub is_task : In p_row (after locked).tasks
  pub not_refused : append_fault (after locked).posses (after locked).pendings writer both_ids ≡ None
  pub members : HaveMembers (after locked).tasks (after locked).posses
  pub distinct_tasks : AreDistinct same_task (after locked).tasks
  pub whole : AreBothSound (after locked) append_done
  pub whole_segments : append_done.segments ≡ used_row (hour_id 0) (hour_id 0) 0 ∷ used_row (hour_id 1) (hour_id 1) 0 ∷ []
  pub whole_pendings : append_done.pendings ≡ []
  pub whole_upgrades : append_done.upgrades ≡ upgrade_row ∷ record { posse = 2; root = hour_id 1 } ∷ []

-- ---- an insert under an exclusive lock on the day: an id in one hour, and a tombstone in another

abbrev pub inserter : List ℕ
inserter = codes "i"

abbrev pub inserter_row : TaskRow
inserter_row = record { task = inserter; group = inserter; source = source; kind = TaskKinds.Batch; priority = 50; status = Statuses.Running; wants = [] }

abbrev pub held : Book
held = after (Commands.Submit inserter inserter source TaskKinds.Batch 50 [] ∷ Commands.Manage now ∷ Commands.Lock inserter LockKinds.Exclusive day now ∷ [])

abbrev pub exclusive_lock : PosseRow
exclusive_lock = record {
  number = 1;
  lock_kind = LockKinds.Exclusive;
  group = inserter;
  source = source;
  span = day;
  version = now;
  priority = 50;
  members = inserter ∷ [];
  revoked = false;
  since = 0;
}

-- an id of the lock's version
abbrev pub new_id : Extent → SegId
new_id span = record { source = source; span = span; version = now; part = 0 }

abbrev pub the_ids : List SegId
the_ids = new_id hour ∷ []

abbrev pub the_tombs : List SegId
the_tombs = new_id third_hour ∷ []

abbrev pub two_spans : List Extent
two_spans = hour ∷ third_hour ∷ []

abbrev pub target_at : Extent → Target
target_at span = record { span = span; lock = 1; version = now; since = 0 }

abbrev pub two_targets : List Target
two_targets = target_at hour ∷ target_at third_hour ∷ []

abbrev pub whole_chunk : Extent → ℕ → ChunkRow
whole_chunk span next = record { source = source; span = span; version = now; core = 1; next = next }

abbrev pub begun_insert : Publication
begun_insert = publication_of PubKinds.Over inserter_row [] (in_spans [] [] [] None)

abbrev pub span_done : Book
span_done = span_inserted [] begun_insert (whole_chunk hour 1) 0 the_ids the_tombs held

-- what it publishes
abbrev pub the_insert : Publish
the_insert = in_spans two_spans the_ids the_tombs None

abbrev pub insert_done : Book
insert_done = after_insert inserter_row the_insert two_targets held

pub record InsertsAreDone : Type 0 where
  pub is_insert : IsInsert held begun_insert exclusive_lock (whole_chunk hour 1) 0 the_ids the_tombs
  pub one_span : AreBothSound (building [] begun_insert held) span_done
  pub span_segments : span_done.segments ≡ own_row 0 (new_id hour) ∷ []
  pub disjoint : AreDisjoint two_targets
  pub ids_placed : ArePlaced two_targets the_ids
  pub tombs_placed : ArePlaced two_targets the_tombs
  pub are_spans : (x : Target) → In x two_targets → IsInsertSpan held inserter_row the_ids the_tombs x
  pub whole : AreBothSound held insert_done
  pub whole_segments : insert_done.segments ≡ own_row 0 (new_id hour) ∷ tomb_row 0 (new_id third_hour) ∷ []
  pub whole_chunks : insert_done.chunks ≡ whole_chunk hour 1 ∷ whole_chunk third_hour 1 ∷ []
  pub proper : list_all is_span two_spans ≡ true
  pub let_through : check_over Inserting held the_insert inserter_row ≡ Ok two_targets

-- ---- the replacement of the day: it copies the appended id by its upgrade row, and the pending

abbrev pub begun_replace : Publication
begun_replace = publication_of PubKinds.Replace replacer_row [] (in_spans [] [] [] None)

abbrev pub day_done : Book
day_done = span_replaced under.publications begun_replace (replace_lock false) (whole_chunk day 3) 1 (day_id 0 ∷ []) [] under

abbrev pub of_day : Publish
of_day = in_spans (day ∷ []) (day_id 0 ∷ []) [] None

abbrev pub replace_done : Book
replace_done = after_replace replacer_row of_day (target ∷ []) under

abbrev pub the_replace : Command
the_replace = Commands.Replace replacer (day ∷ []) (day_id 0 ∷ []) [] None

-- the appended id, the new one, and the copy of the appended one
abbrev pub three_rows : List SegmentRow
three_rows = used_row (hour_id 0) (hour_id 0) 0 ∷ used_row (day_id 0) (day_id 0) 1 ∷ used_row (day_id 1) (hour_id 0) 1 ∷ []

-- the pending and its copy
abbrev pub two_pendings : List PendingRow
two_pendings = pending_row (hour_id 1) (hour_id 1) ∷ pending_row (day_id 2) (hour_id 1) ∷ []

pub record ReplacesAreDone : Type 0 where
  pub is_replace : IsReplace under begun_replace (replace_lock false) (whole_chunk day 3) 1 (day_id 0 ∷ []) []
  pub one_span : AreBothSound (building under.publications begun_replace under) day_done
  pub span_segments : day_done.segments ≡ three_rows
  pub span_pendings : day_done.pendings ≡ two_pendings
  pub span_upgrades : day_done.upgrades ≡ []
  pub disjoint : AreDisjoint (target ∷ [])
  pub ids_placed : ArePlaced (target ∷ []) (day_id 0 ∷ [])
  pub tombs_placed : ArePlaced (target ∷ []) []
  pub are_spans : (x : Target) → In x (target ∷ []) → IsReplaceSpan under replacer_row (day_id 0 ∷ []) [] x
  pub whole : AreBothSound under replace_done
  pub whole_segments : replace_done.segments ≡ three_rows
  pub whole_pendings : replace_done.pendings ≡ two_pendings
  pub proper : list_all is_span (day ∷ []) ≡ true
  pub let_through : check_over Replacing under of_day replacer_row ≡ Ok (target ∷ [])
  pub form : KeepsForm the_replace
  pub lock_shape : IsLockShape under
  pub by_command : AreBothSound under (next under the_replace)
  pub command_segments : (next under the_replace).segments ≡ three_rows

-- ---- other orders, a drop, and the removal of what it leaves

-- the rows of the replacement, the last one first
abbrev pub turned_rows : List SegmentRow
turned_rows = used_row (day_id 1) (hour_id 0) 1 ∷ used_row (hour_id 0) (hour_id 0) 0 ∷ used_row (day_id 0) (day_id 0) 1 ∷ []

-- after the drop a segment is appended in the next day
abbrev pub later : List ℕ
later = codes "l"

abbrev pub next_id : SegId
next_id = record { source = source; span = record { start = pos 86400000; end = pos 90000000 }; version = pos 0; part = 0 }

abbrev pub and_later : List Command
and_later =
    the_day
    ++ (Commands.Submit later later source TaskKinds.Realtime 75 []
    ∷ Commands.Manage now
    ∷ Commands.Allocate later LockKinds.Append (codes "s") None (pos 86400000) Granularities.Hour now
    ∷ Commands.Append later (next_id ∷ []) None
    ∷ [])

abbrev pub is_used : SegmentRow → Bool
is_used r = r.used

abbrev pub removed : List SegmentRow
removed = filter is_used (after and_later).segments

pub record RowsAreGone : Type 0 where
  pub same_turned : HasSameUsed three_rows turned_rows
  pub turned : AreBothSound (after replaced) (with_segments turned_rows (after replaced))
  pub is_free : IsFree (after left).posses (after left).segments source day
  pub not_refused : drop_fault (after left).posses (after left).segments source day ≡ None
  pub dropped : AreBothSound (after left) (after_drop source day (after left))
  pub some_before : list_any is_used (after left).segments ≡ true
  pub none_after : list_any is_used (after_drop source day (after left)).segments ≡ false
  pub keeps_used : (r : SegmentRow) → r.used ≡ true → is_used r ≡ true
  pub same_used : HasSameUsed (after and_later).segments removed
  pub without_unused : AreBothSound (after and_later) (with_segments removed (after and_later))
  pub one_left : removed ≡ used_row next_id next_id 4 ∷ []
