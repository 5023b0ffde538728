-- What comes of commands that publish, where all is decided before anything changes.
use Rattle.std.specs.Prelude.{◌++◌, ◌∷◌, ◌≡◌, List, None, Option, Result, Some, [], filter, length, map, not}
use Rattle.seg_names.specs.declared.seg_id.SegId.{SegId}
use Rattle.book_rows.specs.Append.{without_roots}
use Rattle.book_rows.specs.Offsets.{advanced}
use Rattle.book_rows.specs.Outcome as rules
use Rattle.book_rows.specs.Outcome.{changed, refused_or}
use Rattle.book_rows.specs.Over.{Filling, Inserting, Replacing, Target, kind_of}
use Rattle.book_rows.specs.PublishSteps.{commit_reply, published_or}
use Rattle.book_rows.specs.Publications.{repeat_of}
use Rattle.book_rows.specs.Rewrite.{is_used_up}
use Rattle.book_rows.specs.Sequences.{published}
use Rattle.book_rows.specs.declared.kinds.PubKind.TheVariants as PubKinds
use Rattle.book_rows.specs.declared.kinds.Table.{Table}
use Rattle.book_rows.specs.declared.replies.Refusal.{Refusal}
use Rattle.book_rows.specs.declared.rows.Book.{Book}
use Rattle.book_rows.specs.declared.rows.PendingRow.{PendingRow}
use Rattle.book_rows.specs.declared.rows.Publication.{Publication}
use Rattle.book_rows.specs.declared.rows.TaskRow.{TaskRow}
use Rattle.tab_pending.specs.PendingRows.{PendingRows}
use Rattle.publish_rows.specs.Room.{insert_tables, replace_tables}
use Rattle.upgrade_plan.specs.declared.appending.AppendRows.{AppendRows}
use Rattle.upgrade_plan.specs.declared.filling.OverRows.{OverRows}
use Rattle.book_core.specs.Done.{IsDone}
use Rattle.book_core.specs.declared.outcomes.Outcome.{Outcome}
use Rattle.overlord_core.specs.declared.publishing.appending.AppendPlan.{AppendPlan}
use Rattle.overlord_core.specs.declared.publishing.filling.FillPlan.{FillPlan}

-- where a publish of the task is answered, whatever is decided of it: it is a repeat, or the task doesn't run
abbrev pub IsAnswered : Option Outcome → Book → TaskRow → Publication → Type 0
IsAnswered (Some done) b t m = (decided : rules.Outcome) → IsDone done b (published_or (repeat_of m b.publications) b t.status (commit_reply m.kind) decided)
IsAnswered None b t m = (decided : rules.Outcome) → published_or (repeat_of m b.publications) b t.status (commit_reply m.kind) decided ≡ decided

-- the publication is added, the ends of its ranges are stored, and the sequence that its group names is published
abbrev pub committed_by : Publication → Book → Book
committed_by m b = record b {
  publications = b.publications ++ m ∷ [];
  offsets = advanced b.offsets m.source m.ranges;
  sequences = map (published m.group) b.sequences;
}

-- ---- append

abbrev pub with_append_rows : AppendRows → List SegId → Book → Book
with_append_rows rows ids b = record b {
  segments = b.segments ++ rows.segments.items;
  pendings = without_roots ids b.pendings;
  upgrades = b.upgrades ++ rows.upgrades.items;
}

abbrev pub after_append_plan : AppendPlan → Book → Book
after_append_plan a b = committed_by a.publication (with_append_rows a.rows a.publication.adds b)

abbrev pub append_outcome : Result AppendPlan Refusal → Book → rules.Outcome
append_outcome o b = refused_or o b (λ a. changed (after_append_plan a b) (commit_reply PubKinds.Append (length b.publications)))

-- ---- insert and replace

abbrev pub pending_rows : Book → PendingRows
pending_rows b = record { pendings = b.pendings; upgrades = b.upgrades }

-- a replacement adds the copies of pendings, and its upgrade rows are used up
abbrev pub carried : Filling → List PendingRow → List Target → Book → Book
carried Inserting copies xs b = b
carried Replacing copies xs b = record b { pendings = b.pendings ++ copies; upgrades = filter (λ u. not (is_used_up xs u)) b.upgrades }

abbrev pub with_fill_rows : Filling → List Target → OverRows → Book → Book
with_fill_rows f xs rows b = carried f rows.pendings.items xs (record b { chunks = b.chunks ++ rows.chunks.items; segments = b.segments ++ rows.segments.items })

abbrev pub after_fill_plan : Filling → FillPlan → Book → Book
after_fill_plan f a b = committed_by a.publication (with_fill_rows f a.targets.items a.rows b)

abbrev pub fill_outcome : Filling → Result FillPlan Refusal → Book → rules.Outcome
fill_outcome f o b = refused_or o b (λ a. changed (after_fill_plan f a b) (commit_reply (kind_of f) (length b.publications)))

-- the tables that it adds to, in the order in which they are tested
abbrev pub fill_tables : Filling → List Table
fill_tables Inserting = insert_tables
fill_tables Replacing = replace_tables
