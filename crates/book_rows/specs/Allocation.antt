-- How an id is allocated: a known pending, the place of a new one, and the next part of its chunk.
use Rattle.std.specs.Prelude.{◌&&◌, ◌++◌, ◌+◌, ◌==◌, ◌∷◌, Bool, Err, List, None, Ok, Option, Result, Some, [], bytes_eq, cond, false, find, int_lt, map, not, ℕ, ℤ}
use Rattle.std.specs.List.{list_any}
use Rattle.std.specs.Ordering.{int_eq}
use Rattle.iv_span.specs.Extent.{Extent, has, overlap}
use Rattle.iv_time.specs.declared.granularity.Granularity.{Granularity}
use Rattle.seg_names.specs.Ids.{same_extent, same_id}
use Rattle.seg_names.specs.declared.seg_id.SegId.{SegId}
use Rattle.iv_time.specs.Buckets.{and_finer, bucket_of}
use Rattle.book_rows.specs.Ids.{same_previous}
use Rattle.book_rows.specs.Kinds.{same_kind}
use Rattle.book_rows.specs.Locks.{ends, is_lost, least, posse_of}
use Rattle.book_rows.specs.Visible.{is_used_over, is_visible}
use Rattle.book_rows.specs.declared.answers.NewPending.{NewPending}
use Rattle.book_rows.specs.declared.answers.Place.{Place}
use Rattle.book_rows.specs.declared.kinds.LockKind.{LockKind}
use Rattle.book_rows.specs.declared.replies.Refusal.{Refusal}
use Rattle.book_rows.specs.declared.rows.Book.{Book}
use Rattle.book_rows.specs.declared.rows.ChunkRow.{ChunkRow}
use Rattle.book_rows.specs.declared.rows.PendingRow.{PendingRow}
use Rattle.book_rows.specs.declared.rows.PosseRow.{PosseRow}
use Rattle.book_rows.specs.declared.rows.SegmentRow.{SegmentRow}
use Rattle.book_rows.specs.declared.rows.TaskRow.{TaskRow}
use Rattle.book_rows.specs.declared.replies.Refusal.TheVariants as Refusals

-- a pending whose id is its root; any other is a copy
abbrev pub is_root : PendingRow → Bool
is_root p = same_id p.id p.root

abbrev pub is_pending_at : List ℕ → ℤ → PendingRow → Bool
is_pending_at source t p = bytes_eq p.id.source source && has p.id.span t

abbrev pub is_pending_over : List ℕ → Extent → PendingRow → Bool
is_pending_over source span p = bytes_eq p.id.source source && overlap p.id.span span

-- ---- a known pending

-- a root pending of the source with this sequence and previous id
abbrev pub is_known : List ℕ → List ℕ → Option SegId → PendingRow → Bool
is_known source sequence previous p = is_root p && bytes_eq p.id.source source && bytes_eq p.sequence sequence && same_previous p.previous previous

abbrev pub known_pending : List PendingRow → List ℕ → List ℕ → Option SegId → Option PendingRow
known_pending ps source sequence previous = find (is_known source sequence previous) ps

-- its lock is of the kind asked for, and of the task's group and priority
abbrev pub fits_request : TaskRow → LockKind → Option PosseRow → Bool
fits_request t kind None = false
fits_request t kind (Some q) = same_kind q.lock_kind kind && bytes_eq q.group t.group && (q.priority == t.priority)

abbrev pub lost_fault : Option PosseRow → Option Refusal
lost_fault None = None
lost_fault (Some q) = Some (Refusals.LockRevoked q.number)

-- why a known pending isn't answered: it was asked for otherwise, or the task lost a lock there
abbrev pub known_fault : List PosseRow → TaskRow → LockKind → ℤ → PendingRow → Option Refusal
known_fault ps t kind at p =
    cond (has p.id.span at && fits_request t kind (posse_of p.posse ps)) (lost_fault (least (is_lost t.task t.source p.id.span) ps)) (Some (Refusals.SequenceMismatch p.id))

-- ---- the place of a new one

-- no used row and no pending of the source overlaps the span
abbrev pub is_free : List SegmentRow → List PendingRow → List ℕ → Extent → Bool
is_free rows ps source span = not (list_any (is_used_over source span) rows) && not (list_any (is_pending_over source span) ps)

abbrev pub free_or : List SegmentRow → List PendingRow → List ℕ → Option (ℤ × ℤ) → Option Extent → Option Extent
free_or rows ps source None rest = rest
free_or rows ps source (Some ends) rest = cond (is_free rows ps source (record { start = ends.0; end = ends.1 })) (Some (record { start = ends.0; end = ends.1 })) rest

-- the first bucket, of these granularities in order, that has the instant and is free
abbrev pub free_bucket : List SegmentRow → List PendingRow → List ℕ → ℤ → List Granularity → Option Extent
free_bucket rows ps source at [] = None
free_bucket rows ps source at (g ∷ gs) = free_or rows ps source (bucket_of g at) (free_bucket rows ps source at gs)

-- a used row of a greater version that overlaps the chunk of this one
abbrev pub is_cut_by : SegId → SegmentRow → Bool
is_cut_by a r = is_used_over a.source a.span r && int_lt a.version r.id.version

-- the place in the chunk of an id
abbrev pub in_chunk_of : SegId → Place
in_chunk_of a = record { span = a.span; version = Some a.version }

abbrev pub uncut : SegId → Option SegmentRow → Result Place Refusal
uncut a None = Ok (in_chunk_of a)
uncut a (Some r) = Err (Refusals.ChunkCut r.id)

abbrev pub bucket_place : ℤ → Option Extent → Result Place Refusal
bucket_place at None = Err (Refusals.NoBucket at)
bucket_place at (Some span) = Ok (record { span = span; version = None })

-- the cases in their order: the chunk that is visible there, the first pending there, a free bucket
abbrev pub place_by : Option SegmentRow → Option PendingRow → List SegmentRow → ℤ → Option Extent → Result Place Refusal
place_by (Some r) p rows at bucket = uncut r.id (find (is_cut_by r.id) rows)
place_by None (Some p) rows at bucket = Ok (in_chunk_of p.id)
place_by None None rows at bucket = bucket_place at bucket

-- where an id for this instant is allocated, or why nowhere
abbrev pub place : List SegmentRow → List PendingRow → List ℕ → ℤ → Granularity → Result Place Refusal
place rows ps source at g =
    place_by (find (is_visible rows source at) rows) (find (is_pending_at source at) ps) rows at (free_bucket rows ps source at (and_finer g))

-- ---- the next part

-- the id is of this chunk
abbrev pub is_of_chunk : ChunkRow → SegId → Bool
is_of_chunk c a = bytes_eq a.source c.source && same_extent a.span c.span && int_eq a.version c.version

-- the chunk of an id
abbrev pub chunk_of : SegId → List ChunkRow → Option ChunkRow
chunk_of a cs = find (λ c. is_of_chunk c a) cs

abbrev pub next_of : Option ChunkRow → ℕ
next_of None = 0
next_of (Some c) = c.next

-- the chunk of the id gets one more part
abbrev pub bumped : SegId → ChunkRow → ChunkRow
bumped a c = record c { next = c.next + cond (is_of_chunk c a) 1 0 }

-- a chunk without parts
abbrev pub new_chunk : SegId → ChunkRow
new_chunk a = record { source = a.source; span = a.span; version = a.version; core = 0; next = 0 }

abbrev pub with_chunk : SegId → Option ChunkRow → List ChunkRow → List ChunkRow
with_chunk a (Some c) cs = cs
with_chunk a None cs = cs ++ new_chunk a ∷ []

-- the chunks after the next part of the id's chunk is given
abbrev pub allotted_chunks : SegId → List ChunkRow → List ChunkRow
allotted_chunks a cs = map (bumped a) (with_chunk a (chunk_of a cs) cs)

-- the id of the next part
abbrev pub allotted_id : List ChunkRow → NewPending → SegId
allotted_id cs n = record {
  source = n.source;
  span = n.span;
  version = n.version;
  part = next_of (chunk_of (record { source = n.source; span = n.span; version = n.version; part = 0 }) cs);
}

abbrev pub allotted_row : SegId → NewPending → PendingRow
allotted_row a n = record { id = a; root = a; posse = n.posse; sequence = n.sequence; previous = n.previous }

-- the book after a root pending with the next part of its chunk is added
abbrev pub allotted : NewPending → Book → Book
allotted n b = record b {
  chunks = allotted_chunks (allotted_id b.chunks n) b.chunks;
  pendings = b.pendings ++ allotted_row (allotted_id b.chunks n) n ∷ [];
}
