-- Inserting and replacing: which sets of ids are refused.
use Rattle.std.specs.Prelude.{◌&&◌, ◌++◌, ◌||◌, ◌∷◌, Bool, Err, List, None, Ok, Option, Result, Some, [], bytes_eq, filter, find, length, map, not, option_map, ℕ, ℤ}
use Rattle.std.specs.List.{list_any, range_with_len}
use Rattle.std.specs.Ordering.{int_eq}
use Rattle.iv_span.specs.Extent.{Extent}
use Rattle.seg_names.specs.Ids.{same_extent}
use Rattle.seg_names.specs.declared.seg_id.SegId.{SegId}
use Rattle.book_rows.specs.Allocation.{is_root}
use Rattle.book_rows.specs.Append.{version_overlaps}
use Rattle.book_rows.specs.Ids.{in_order, is_of_span}
use Rattle.book_rows.specs.Lists.{ascending, is_empty, on_ok, or_else, same_numbers, stands_in}
use Rattle.book_rows.specs.Locks.{is_held, is_lost, least}
use Rattle.book_rows.specs.Publications.{Publish}
use Rattle.book_rows.specs.Spans.{first_overlap, is_span_of, overlaps_one, straddles}
use Rattle.book_rows.specs.declared.kinds.LockKind.{LockKind}
use Rattle.book_rows.specs.declared.kinds.PubKind.{PubKind}
use Rattle.book_rows.specs.declared.replies.Refusal.{Refusal}
use Rattle.book_rows.specs.declared.rows.Book.{Book}
use Rattle.book_rows.specs.declared.rows.ChunkRow.{ChunkRow}
use Rattle.book_rows.specs.declared.rows.PendingRow.{PendingRow}
use Rattle.book_rows.specs.declared.rows.PosseRow.{PosseRow}
use Rattle.book_rows.specs.declared.rows.TaskRow.{TaskRow}
use Rattle.book_rows.specs.declared.rows.UpgradeRow.{UpgradeRow}
use Rattle.book_rows.specs.declared.kinds.LockKind.TheVariants as LockKinds
use Rattle.book_rows.specs.declared.kinds.PubKind.TheVariants as PubKinds
use Rattle.book_rows.specs.declared.replies.Refusal.TheVariants as Refusals

-- ---- the spans are filled

abbrev pub is_placed : List ℕ → List Extent → SegId → Bool
is_placed source spans a = bytes_eq a.source source && is_span_of spans a.span

-- the parts of the ids of a span, ascending
abbrev pub parts_of : Extent → List SegId → List ℕ
parts_of span ids = ascending (map (λ a. a.part) (filter (is_of_span span) ids))

-- from 0 on without a gap, and at least one
abbrev pub is_whole_set : List ℕ → Bool
is_whole_set parts = not (is_empty parts) && same_numbers parts (range_with_len 0 (length parts))

-- a whole set of ids and no tombstone, or no ids and one tombstone of part 0
abbrev pub is_filled : List SegId → List SegId → Extent → Bool
is_filled ids tombs span =
    (is_whole_set (parts_of span ids) && is_empty (parts_of span tombs)) || (is_empty (parts_of span ids) && same_numbers (parts_of span tombs) (0 ∷ []))

-- ids and tombstones together, in id order
abbrev pub both_in_order : List SegId → List SegId → List SegId
both_in_order ids tombs = in_order (ids ++ tombs)

-- a span that overlaps an earlier one, else that of an id of another source or span, else one that isn't filled
abbrev pub bad_span : List ℕ → Publish → Option Extent
bad_span source p =
    or_else (first_overlap p.spans)
    (or_else (option_map (λ a. a.span) (find (λ a. not (is_placed source p.spans a)) (both_in_order p.ids p.tombstones)))
    (find (λ s. not (is_filled p.ids p.tombstones s)) p.spans))

-- ---- each span has a lock

-- the cases in their order: a lost lock, a lock that is held, and neither
abbrev pub held_by : Option PosseRow → Option PosseRow → Extent → Result PosseRow Refusal
held_by (Some lost) held span = Err (Refusals.LockRevoked lost.number)
held_by None (Some q) span = Ok q
held_by None None span = Err (Refusals.LockMissing span)

-- the lock of the kind that the task holds for the span, or why it holds none
abbrev pub held_for : List PosseRow → TaskRow → LockKind → Extent → Result PosseRow Refusal
held_for qs t kind span = held_by (least (is_lost t.task t.source span) qs) (least (is_held t.task t.source span kind) qs) span

-- a span with the number, the version and the `since` of its lock
pub record Target : Type 0 where
  pub span : Extent
  pub lock : ℕ
  pub version : ℤ
  pub since : ℕ

abbrev pub target_of : Extent → PosseRow → Target
target_of span q = record { span = span; lock = q.number; version = q.version; since = q.since }

-- the spans with their locks, or why the first span that has none has none
abbrev pub targets : List PosseRow → TaskRow → LockKind → List Extent → Result (List Target) Refusal
targets qs t kind [] = Ok []
targets qs t kind (s ∷ ss) = on_ok (held_for qs t kind s) (λ q. on_ok (targets qs t kind ss) (λ xs. Ok (target_of s q ∷ xs)))

-- ---- versions

abbrev pub has_own_version : List Target → SegId → Bool
has_own_version xs a = list_any (λ x. same_extent x.span a.span && int_eq x.version a.version) xs

-- the first id that hasn't its lock's version, else the first span that a chunk of its lock's version overlaps
abbrev pub version_fault : List ChunkRow → List ℕ → List Target → List SegId → Option Refusal
version_fault cs source xs ids =
    or_else (option_map Refusals.WrongVersion (find (λ a. not (has_own_version xs a)) ids))
    (option_map (λ x. Refusals.VersionUsed x.span) (find (λ x. version_overlaps cs source x.span x.version) xs))

-- ---- pendings

-- the first pending of the source that overlaps a span
abbrev pub pending_fault : List PendingRow → List ℕ → List Extent → Option Refusal
pending_fault ps source spans = option_map (λ p. Refusals.PendingOverlap p.id) (find (λ p. bytes_eq p.id.source source && overlaps_one spans p.id.span) ps)

abbrev pub straddles_one : List Extent → Extent → Bool
straddles_one spans a = list_any (λ s. straddles s a) spans

-- the first upgrade root of the locks that overlaps a span and doesn't lie within it
abbrev pub upgrade_fault : List UpgradeRow → List ℕ → List Extent → Option Refusal
upgrade_fault us locks spans = option_map (λ u. Refusals.Granularity u.root) (find (λ u. stands_in locks u.posse && straddles_one spans u.root.span) us)

-- the first root pending of the source that overlaps a span and doesn't lie within it
abbrev pub root_fault : List PendingRow → List ℕ → List Extent → Option Refusal
root_fault ps source spans = option_map (λ p. Refusals.Granularity p.id) (find (λ p. is_root p && bytes_eq p.id.source source && straddles_one spans p.id.span) ps)

-- ---- the checks

-- an insert takes the place of all that its spans have, a replacement of what they had when they were locked
pub data Filling : Type 0 where
  Inserting : Filling
  Replacing : Filling

abbrev pub kind_of : Filling → PubKind
kind_of Inserting = PubKinds.Over
kind_of Replacing = PubKinds.Replace

-- the kind of the lock that each span needs
abbrev pub lock_for : Filling → LockKind
lock_for Inserting = LockKinds.Exclusive
lock_for Replacing = LockKinds.Replace

-- what may not be in the way: of an insert a pending, of a replacement what it would have to copy and what doesn't lie within a span
abbrev pub way_fault : Filling → Book → Publish → TaskRow → List Target → Option Refusal
way_fault Inserting b p t xs = pending_fault b.pendings t.source p.spans
way_fault Replacing b p t xs = or_else (upgrade_fault b.upgrades (map (λ x. x.lock) xs) p.spans) (root_fault b.pendings t.source p.spans)

abbrev pub or_err : {X : Type 0} → Option Refusal → Result X Refusal → Result X Refusal
or_err (Some why) r = Err why
or_err None r = r

-- the spans with their locks, where the publish is let through, or the first case that fails
abbrev pub check_over : Filling → Book → Publish → TaskRow → Result (List Target) Refusal
check_over f b p t =
    or_err (option_map Refusals.BadSpan (bad_span t.source p))
    (on_ok (targets b.posses t (lock_for f) p.spans)
    (λ xs. or_err (or_else (version_fault b.chunks t.source xs (both_in_order p.ids p.tombstones)) (way_fault f b p t xs)) (Ok xs)))
