-- Locks, live chunks, pendings and upgrade rows: the least row that breaks each rule.
use Rattle.std.specs.Prelude.{◌&&◌, ◌+◌, ◌==◌, ◌||◌, ◌∷◌, Bool, List, Option, [], bytes_eq, false, int_le, int_lt, nat_le, nat_lt, not, pos, ℕ}
use Rattle.std.specs.List.{list_all, list_any, range_with_len}
use Rattle.std.specs.Ordering.{int_eq}
use Rattle.iv_span.specs.Extent.{covers, overlap}
use Rattle.seg_names.specs.Ids.{same_extent, same_id}
use Rattle.seg_names.specs.declared.seg_id.SegId.{SegId}
use Rattle.book_rows.specs.Allocation.{is_of_chunk}
use Rattle.book_rows.specs.Ids.{is_listed, same_previous}
use Rattle.book_rows.specs.Kinds.{guards, same_kind}
use Rattle.book_rows.specs.Lists.{count}
use Rattle.book_rows.specs.Locks.{compatible}
use Rattle.book_rows.specs.declared.kinds.LockKind.TheVariants as LockKinds
use Rattle.book_rows.specs.declared.rows.Book.{Book}
use Rattle.book_rows.specs.declared.rows.ChunkRow.{ChunkRow}
use Rattle.book_rows.specs.declared.rows.PendingRow.{PendingRow}
use Rattle.book_rows.specs.declared.rows.PosseRow.{PosseRow}
use Rattle.book_rows.specs.declared.rows.Publication.{Publication}
use Rattle.book_rows.specs.declared.rows.SegmentRow.{SegmentRow}
use Rattle.book_rows.specs.declared.rows.UpgradeRow.{UpgradeRow}
use Rattle.laws_unsound.specs.Counts.{before_chunks, before_pendings, before_posses, before_upgrades}
use Rattle.laws_unsound.specs.Rows.{first_clashing, first_failing, first_passing}

abbrev pub implies : Bool → Bool → Bool
implies a c = not a || c

-- ---- pairs of valid locks

abbrev pub are_in_conflict : PosseRow → PosseRow → Bool
are_in_conflict p q = not p.revoked && (not q.revoked && not (compatible p q))

abbrev pub compatible_row : Book → Option ℕ
compatible_row b = first_clashing (before_posses b) are_in_conflict b.posses

-- ---- live chunks, each named by its row

abbrev pub is_live : List SegmentRow → List PendingRow → ChunkRow → Bool
is_live rows ps c = list_any (λ r. r.used && is_of_chunk c r.id) rows || list_any (λ p. is_of_chunk c p.id) ps

-- two live chunks of one version that overlap
abbrev pub are_two_spans : List SegmentRow → List PendingRow → ChunkRow → ChunkRow → Bool
are_two_spans rows ps c d =
    is_live rows ps c && (is_live rows ps d && (bytes_eq c.source d.source && (overlap c.span d.span && (int_eq c.version d.version && not (same_extent c.span d.span)))))

abbrev pub one_span_row : Book → Option ℕ
one_span_row b = first_clashing (before_chunks b) (are_two_spans b.segments b.pendings) b.chunks

-- a valid lock that guards overlaps the chunk, and has a lower version
abbrev pub is_below : ChunkRow → PosseRow → Bool
is_below c q = not q.revoked && (guards q.lock_kind && (bytes_eq c.source q.source && (overlap c.span q.span && not (int_le c.version q.version))))

abbrev pub is_above_lock : List PosseRow → List SegmentRow → List PendingRow → ChunkRow → Bool
is_above_lock qs rows ps c = is_live rows ps c && list_any (is_below c) qs

abbrev pub below_locks_row : Book → Option ℕ
below_locks_row b = first_passing (before_chunks b) (is_above_lock b.posses b.segments b.pendings) b.chunks

-- ---- pendings and upgrade rows

abbrev pub is_root_of : PendingRow → PendingRow → Bool
is_root_of p r = same_id r.id r.root && (same_id r.id p.root && ((r.posse == p.posse) && (bytes_eq r.sequence p.sequence && same_previous r.previous p.previous)))

abbrev pub is_posse_of : PendingRow → PosseRow → Bool
is_posse_of p q = not q.revoked && ((q.number == p.posse) && (bytes_eq q.source p.id.source && covers q.span p.root.span))

abbrev pub is_copy : PendingRow → Bool
is_copy p = covers p.id.span p.root.span && int_lt p.root.version p.id.version

abbrev pub is_rooted : List PosseRow → List PendingRow → PendingRow → Bool
is_rooted qs ps p = list_any (is_root_of p) ps && (list_any (is_posse_of p) qs && (same_id p.id p.root || is_copy p))

-- a publication from this place on adds the id; the first of the list has place k
abbrev pub is_added_since : ℕ → ℕ → List Publication → SegId → Bool
is_added_since since k [] a = false
is_added_since since k (m ∷ ms) a = (nat_le since k && is_listed m.adds a) || is_added_since since (k + 1) ms a

abbrev pub is_posse_of_upgrade : List Publication → UpgradeRow → PosseRow → Bool
is_posse_of_upgrade pubs u q = not q.revoked && ((q.number == u.posse) && (same_kind q.lock_kind LockKinds.Replace && (covers q.span u.root.span && is_added_since q.since 0 pubs u.root)))

abbrev pub is_upgrade : List PosseRow → List Publication → UpgradeRow → Bool
is_upgrade qs pubs u = list_any (is_posse_of_upgrade pubs u) qs

abbrev pub rooted_rows : Book → List (Option ℕ)
rooted_rows b =
    first_failing (before_pendings b) (is_rooted b.posses b.pendings) b.pendings
    ∷ first_failing (before_upgrades b) (is_upgrade b.posses b.publications) b.upgrades
    ∷ []

-- ---- cores

abbrev pub owns : ChunkRow → PosseRow → Bool
owns c q = not q.revoked && (bytes_eq c.source q.source && int_eq c.version q.version)

abbrev pub has_part : List SegmentRow → ChunkRow → ℕ → Bool
has_part rows c i = list_any (λ r. r.used && (is_of_chunk c r.id && (r.id.part == i))) rows

abbrev pub is_whole : List SegmentRow → ChunkRow → Bool
is_whole rows c = list_all (has_part rows c) (range_with_len 0 c.core)

-- what a valid lock of the chunk's version asks of it
abbrev pub fits_owner : List SegmentRow → ChunkRow → PosseRow → Bool
fits_owner rows c q =
    is_whole rows c
    && (implies (same_kind q.lock_kind LockKinds.Shared) (c.core == 0)
    && (implies (same_kind q.lock_kind LockKinds.Replace) (nat_lt 0 c.core) && implies (int_lt (pos 0) c.version) (covers q.span c.span)))

abbrev pub has_core : List PosseRow → List SegmentRow → List PendingRow → ChunkRow → Bool
has_core qs rows ps c = implies (is_live rows ps c) (is_whole rows c) && (implies (int_eq c.version (pos 0)) (c.core == 0) && list_all (λ q. implies (owns c q) (fits_owner rows c q)) qs)

abbrev pub whole_row : Book → Option ℕ
whole_row b = first_failing (before_chunks b) (has_core b.posses b.segments b.pendings) b.chunks

-- ---- copies

-- the second, a live chunk, lies above the first
abbrev pub is_above : List SegmentRow → List PendingRow → ChunkRow → ChunkRow → Bool
is_above rows ps c d = is_live rows ps c && (is_live rows ps d && (bytes_eq c.source d.source && (overlap c.span d.span && int_lt c.version d.version)))

abbrev pub is_root_in : ChunkRow → PendingRow → Bool
is_root_in c r = same_id r.id r.root && is_of_chunk c r.id

abbrev pub has_copy : List PendingRow → ChunkRow → PendingRow → Bool
has_copy ps d r = covers d.span r.id.span && (count (λ x. is_of_chunk d x.id && same_id x.root r.id) ps == 1)

-- the second has a core, and a copy of each root pending of the first
abbrev pub has_copies : List PendingRow → ChunkRow → ChunkRow → Bool
has_copies ps c d = nat_lt 0 d.core && list_all (λ r. implies (is_root_in c r) (has_copy ps d r)) ps

abbrev pub lacks_copies : List SegmentRow → List PendingRow → ChunkRow → ChunkRow → Bool
lacks_copies rows ps c d = is_above rows ps c d && not (has_copies ps c d)

-- both rows count
abbrev pub one_lacks : List SegmentRow → List PendingRow → ChunkRow → ChunkRow → Bool
one_lacks rows ps c d = lacks_copies rows ps c d || lacks_copies rows ps d c

abbrev pub copied_row : Book → Option ℕ
copied_row b = first_clashing (before_chunks b) (one_lacks b.segments b.pendings) b.chunks
