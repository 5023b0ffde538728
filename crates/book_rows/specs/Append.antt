-- Appending: allocated ids become segments beside what is there.
use Rattle.std.specs.Prelude.{◌&&◌, ◌++◌, ◌∷◌, if◌then◌else◌, Bool, List, None, Option, Some, [], bytes_eq, false, filter, find, length, map, not, option_map, true, ℕ, ℤ}
use Rattle.std.specs.List.{list_any}
use Rattle.std.specs.Ordering.{int_eq}
use Rattle.iv_span.specs.Extent.{Extent, overlap}
use Rattle.seg_names.specs.Ids.{same_id}
use Rattle.seg_names.specs.declared.seg_id.SegId.{SegId}
use Rattle.book_rows.specs.Allocation.{is_root}
use Rattle.book_rows.specs.Ids.{is_listed}
use Rattle.book_rows.specs.Lists.{gathered}
use Rattle.book_rows.specs.Locks.{is_member_of, is_replacing, least, posse_of}
use Rattle.book_rows.specs.Publications.{Publish, committed, publication_of}
use Rattle.book_rows.specs.declared.replies.Refusal.{Refusal}
use Rattle.book_rows.specs.declared.rows.Book.{Book}
use Rattle.book_rows.specs.declared.rows.ChunkRow.{ChunkRow}
use Rattle.book_rows.specs.declared.rows.PendingRow.{PendingRow}
use Rattle.book_rows.specs.declared.rows.PosseRow.{PosseRow}
use Rattle.book_rows.specs.declared.rows.SegmentRow.{SegmentRow}
use Rattle.book_rows.specs.declared.rows.TaskRow.{TaskRow}
use Rattle.book_rows.specs.declared.rows.UpgradeRow.{UpgradeRow}
use Rattle.book_rows.specs.declared.kinds.PubKind.TheVariants as PubKinds
use Rattle.book_rows.specs.declared.replies.Refusal.TheVariants as Refusals

-- a root pending of a lock of which the task is a member
abbrev pub is_allocated : List PosseRow → List PendingRow → List ℕ → SegId → Bool
is_allocated qs ps task a = list_any (λ p. is_root p && same_id p.id a && is_member_of (posse_of p.posse qs) task) ps

-- the first id that the task may not append
abbrev pub append_fault : List PosseRow → List PendingRow → List ℕ → List SegId → Option Refusal
append_fault qs ps task ids = option_map Refusals.NotAllocated (find (λ a. not (is_allocated qs ps task a)) ids)

-- ---- the segments

abbrev pub as_row : ℕ → PendingRow → SegmentRow
as_row k p = record { id = p.id; used = true; root = p.root; commit = k; tombstone = false }

abbrev pub is_root_of : SegId → PendingRow → Bool
is_root_of a p = same_id p.root a && same_id p.id a

abbrev pub is_copy_of : SegId → PendingRow → Bool
is_copy_of a p = same_id p.root a && not (same_id p.id a)

-- a root and then its copies become used segments
abbrev pub rows_of_root : ℕ → SegId → List PendingRow → List SegmentRow
rows_of_root k a ps = map (as_row k) (filter (is_root_of a) ps ++ filter (is_copy_of a) ps)

abbrev pub without_root : SegId → List PendingRow → List PendingRow
without_root a ps = filter (λ p. not (same_id p.root a)) ps

abbrev pub without_roots : List SegId → List PendingRow → List PendingRow
without_roots ids ps = filter (λ p. not (is_listed ids p.root)) ps

-- ---- the upgrade rows: what a replacement that is under way has to carry

-- a chunk of the source and version overlaps the span
abbrev pub version_overlaps : List ChunkRow → List ℕ → Extent → ℤ → Bool
version_overlaps cs source span version = list_any (λ c. bytes_eq c.source source && int_eq c.version version && overlap c.span span) cs

-- that lock carries the root, unless a chunk of its version is there
abbrev pub upgrade_by : List ChunkRow → SegId → Option PosseRow → List UpgradeRow
upgrade_by cs a None = []
upgrade_by cs a (Some q) = if version_overlaps cs q.source a.span q.version then [] else record { posse = q.number; root = a } ∷ []

-- the upgrade row of an appended root, of the least valid replacing lock that contains the root's span
abbrev pub upgrade_of : List PosseRow → List ChunkRow → SegId → List UpgradeRow
upgrade_of qs cs a = upgrade_by cs a (least (is_replacing a.source a.span) qs)

-- ---- the book

abbrev pub after_append : TaskRow → Publish → Book → Book
after_append t p b = committed t (publication_of PubKinds.Append t [] p) (record b {
  segments = b.segments ++ gathered (λ a. rows_of_root (length b.publications) a b.pendings) p.ids;
  pendings = without_roots p.ids b.pendings;
  upgrades = b.upgrades ++ gathered (upgrade_of b.posses b.chunks) p.ids;
})
