-- Inserting and replacing: the chunks, segments and copies that they make.
use Rattle.std.specs.Prelude.{◌&&◌, ◌++◌, ◌+◌, ◌==◌, ◌∷◌, Bool, List, Option, [], bytes_eq, false, filter, find, length, map, not, option_map, suc, true, zero, ℕ, ℤ}
use Rattle.std.specs.List.{list_any}
use Rattle.iv_span.specs.Extent.{Extent, covers}
use Rattle.seg_names.specs.declared.seg_id.SegId.{SegId}
use Rattle.book_rows.specs.Allocation.{is_root}
use Rattle.book_rows.specs.Ids.{is_of_span}
use Rattle.book_rows.specs.Lists.{gathered, numbered, or_else}
use Rattle.book_rows.specs.Locks.{is_valid_over, least}
use Rattle.book_rows.specs.Over.{Target}
use Rattle.book_rows.specs.Publications.{Publish, committed, drop_publication, publication_of}
use Rattle.book_rows.specs.Visible.{is_used_over}
use Rattle.book_rows.specs.declared.answers.Copies.{Copies}
use Rattle.book_rows.specs.declared.replies.Refusal.{Refusal}
use Rattle.book_rows.specs.declared.rows.Book.{Book}
use Rattle.book_rows.specs.declared.rows.ChunkRow.{ChunkRow}
use Rattle.book_rows.specs.declared.rows.PendingRow.{PendingRow}
use Rattle.book_rows.specs.declared.rows.PosseRow.{PosseRow}
use Rattle.book_rows.specs.declared.rows.SegmentRow.{SegmentRow}
use Rattle.book_rows.specs.declared.rows.TaskRow.{TaskRow}
use Rattle.book_rows.specs.declared.rows.UpgradeRow.{UpgradeRow}
use Rattle.book_rows.specs.declared.kinds.PubKind.TheVariants as PubKinds
use Rattle.book_rows.specs.declared.replies.Refusal.TheVariants as Refusals

-- ---- ids and tombstones

abbrev pub own_row : ℕ → SegId → SegmentRow
own_row k a = record { id = a; used = true; root = a; commit = k; tombstone = false }

abbrev pub tomb_row : ℕ → SegId → SegmentRow
tomb_row k a = record { id = a; used = true; root = a; commit = k; tombstone = true }

-- the segments that the ids and the tombstone of a span become
abbrev pub own_rows : ℕ → List SegId → List SegId → Extent → List SegmentRow
own_rows k ids tombs span = map (own_row k) (filter (is_of_span span) ids) ++ map (tomb_row k) (filter (is_of_span span) tombs)

abbrev pub core_by : ℕ → ℕ
core_by zero = 1
core_by (suc n) = suc n

-- the number of ids of the span, and 1 for a tombstone
abbrev pub core_of : List SegId → Extent → ℕ
core_of ids span = core_by (length (filter (is_of_span span) ids))

-- ---- copies

abbrev pub copy_id : List ℕ → Extent → ℤ → ℕ → SegId
copy_id source span version part = record { source = source; span = span; version = version; part = part }

-- an upgrade row of the lock whose root lies in the span
abbrev pub is_taken_up : ℕ → Extent → UpgradeRow → Bool
is_taken_up lock span u = (u.posse == lock) && covers span u.root.span

-- a root pending of the source that lies in the span
abbrev pub is_copied : List ℕ → Extent → PendingRow → Bool
is_copied source span p = is_root p && bytes_eq p.id.source source && covers span p.id.span

abbrev pub upgrade_copy : List ℕ → Extent → ℤ → ℕ → ℕ → UpgradeRow → SegmentRow
upgrade_copy source span version k part u = record { id = copy_id source span version part; used = true; root = u.root; commit = k; tombstone = false }

abbrev pub pending_copy : List ℕ → Extent → ℤ → ℕ → PendingRow → PendingRow
pending_copy source span version part p = record { id = copy_id source span version part; root = p.root; posse = p.posse; sequence = p.sequence; previous = p.previous }

-- the copies of a lock's upgrade roots and of the root pendings in a span, numbered on from a part
abbrev pub copies_for : List PendingRow → List UpgradeRow → ℕ → List ℕ → Extent → ℤ → ℕ → ℕ → Copies
copies_for ps us lock source span version from k = record {
  segments = numbered (upgrade_copy source span version k) from (filter (is_taken_up lock span) us);
  pendings = numbered (pending_copy source span version) (from + length (filter (is_taken_up lock span) us)) (filter (is_copied source span) ps);
}

-- the copies of one span
abbrev pub copies_of : Book → TaskRow → List SegId → Target → Copies
copies_of b t ids x = copies_for b.pendings b.upgrades x.lock t.source x.span x.version (core_of ids x.span) (length b.publications)

-- ---- chunks

abbrev pub chunk_for : List ℕ → List SegId → ℕ → Target → ChunkRow
chunk_for source ids copies x = record { source = source; span = x.span; version = x.version; core = core_of ids x.span; next = core_of ids x.span + copies }

abbrev pub how_many : Copies → ℕ
how_many c = length c.segments + length c.pendings

-- ---- the book

abbrev pub after_insert : TaskRow → Publish → List Target → Book → Book
after_insert t p xs b = committed t (publication_of PubKinds.Over t (map (λ x. record { span = x.span; since = 0 }) xs) p) (record b {
  chunks = b.chunks ++ map (chunk_for t.source p.ids 0) xs;
  segments = b.segments ++ gathered (λ x. own_rows (length b.publications) p.ids p.tombstones x.span) xs;
})

-- an upgrade row that one of the spans takes up
abbrev pub is_used_up : List Target → UpgradeRow → Bool
is_used_up xs u = list_any (λ x. is_taken_up x.lock x.span u) xs

-- first the ids and tombstones of all spans, then the copies span by span
abbrev pub after_replace : TaskRow → Publish → List Target → Book → Book
after_replace t p xs b = committed t (publication_of PubKinds.Replace t (map (λ x. record { span = x.span; since = x.since }) xs) p) (record b {
  chunks = b.chunks ++ map (λ x. chunk_for t.source p.ids (how_many (copies_of b t p.ids x)) x) xs;
  segments = (b.segments ++ gathered (λ x. own_rows (length b.publications) p.ids p.tombstones x.span) xs) ++ gathered (λ x. (copies_of b t p.ids x).segments) xs;
  pendings = b.pendings ++ gathered (λ x. (copies_of b t p.ids x).pendings) xs;
  upgrades = filter (λ u. not (is_used_up xs u)) b.upgrades;
})

-- ---- dropping

-- a valid lock that overlaps the span, else a used row that overlaps it and doesn't lie within it
abbrev pub drop_fault : List PosseRow → List SegmentRow → List ℕ → Extent → Option Refusal
drop_fault qs rows source span =
    or_else (option_map (λ q. Refusals.DropLocked q.number) (least (is_valid_over source span) qs))
    (option_map (λ r. Refusals.DropPartial r.id) (find (λ r. is_used_over source span r && not (covers span r.id.span)) rows))

-- a used row within the span becomes unused
abbrev pub unused : List ℕ → Extent → SegmentRow → SegmentRow
unused source span r = record r { used = r.used && not (bytes_eq r.id.source source && covers span r.id.span) }

abbrev pub after_drop : List ℕ → Extent → Book → Book
after_drop source span b = record b { segments = map (unused source span) b.segments; publications = b.publications ++ drop_publication source span ∷ [] }
