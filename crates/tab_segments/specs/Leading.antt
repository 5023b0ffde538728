-- Segments that lead their chunk: of each chunk that has used segments the first of these does.
use Rattle.std.specs.Prelude.{◌&&◌, ◌∷◌, ◌≡◌, ◌⊎◌, ◌<ℤ◌, ◌≤ℤ◌, ◌≤◌, Bool, List, Some, [], bytes_eq, find, map, negsuc, pos, slice_get, suc, true, zero, ℕ, ℤ}
use Rattle.std.specs.List.{AllByRecursion}
use Rattle.iv_span.specs.Extent.{Extent, covers}
use Rattle.seg_names.specs.declared.seg_id.SegId.{SegId}
use Rattle.book_rows.specs.Ids.{same_chunk}
use Rattle.book_rows.specs.Rewrite.{unused}
use Rattle.book_rows.specs.Visible.{is_used_at}
use Rattle.book_rows.specs.declared.rows.SegmentRow.{SegmentRow}
use Rattle.row_table.specs.Table.{with_row}
use Rattle.tab_segments.specs.declared.entries.Entry.{Entry}

abbrev pub rows_in : List Entry → List SegmentRow
rows_in es = map (λ e. e.row) es

-- the span has an instant, and its ends are numbers of 64 bits
abbrev pub IsReal : Extent → Type 0
IsReal a = (a.start <ℤ a.end) × (a.end ≤ℤ pos 9223372036854775807) × (negsuc 9223372036854775807 ≤ℤ a.start)

abbrev pub HaveRealSpans : List Entry → Type 0
HaveRealSpans es = AllByRecursion (λ e. IsReal e.row.id.span) es

-- a used segment of the chunk of an id
abbrev pub is_used_in : SegId → SegmentRow → Bool
is_used_in a r = r.used && same_chunk r.id a

-- only used segments pass, and with one its whole chunk
pub record IsOfChunks (test : SegmentRow → Bool) : Type 0 where
  pub used : (r : SegmentRow) → test r ≡ true → r.used ≡ true
  pub whole : (r s : SegmentRow) → test r ≡ true → is_used_in r.id s ≡ true → test s ≡ true

-- a leading segment that passes
abbrev pub leads_and : (SegmentRow → Bool) → Entry → Bool
leads_and test e = e.leads && test e.row

-- what asks for chunks is answered by the leading segments alone
abbrev pub AreLed : List Entry → Type 0
AreLed es = (test : SegmentRow → Bool) → IsOfChunks test → find (λ e. test e.row) es ≡ find (leads_and test) es

-- a leading segment of the chunk of an id
abbrev pub leads_in : SegId → Entry → Bool
leads_in a e = leads_and (is_used_in a) e

-- a leading segment at an instant
abbrev pub leads_at : List ℕ → ℤ → Entry → Bool
leads_at source t e = leads_and (is_used_at source t) e

-- the first version is greater, or they are one and the first place isn't greater
abbrev pub IsAbove : ℤ × ℕ → ℤ × ℕ → Type 0
IsAbove a b = (b.0 <ℤ a.0) ⊎ ((a.0 ≡ b.0) × (a.1 ≤ b.1))

-- ---- segments that become unused

-- the segment is of the source and lies within the span
abbrev pub lies_within : List ℕ → Extent → SegmentRow → Bool
lies_within source span r = bytes_eq r.id.source source && covers span r.id.span

-- a segment that is still to become unused
abbrev pub is_taken : List ℕ → Extent → Entry → Bool
is_taken source span e = e.row.used && lies_within source span e.row

abbrev pub unused_entry : List ℕ → Extent → Entry → Entry
unused_entry source span e = record e { row = unused source span e.row }

-- the entry of a place changed
abbrev pub changed_place : ℕ → (Entry → Entry) → List Entry → List Entry
changed_place n f [] = []
changed_place zero f (e ∷ es) = f e ∷ es
changed_place (suc n) f (e ∷ es) = e ∷ changed_place n f es

-- what is to become unused in the second list was in the first
abbrev pub AreNoMore : List ℕ → Extent → List Entry → List Entry → Type 0
AreNoMore source span before after = (s : ℕ) (e : Entry) → slice_get after s ≡ Some e → is_taken source span e ≡ true → slice_get before s ≡ Some e

-- ---- segments at places

-- the entries of these places, in turn
abbrev pub entries_at : List Entry → List ℕ → List Entry
entries_at es [] = []
entries_at es (n ∷ ns) = with_row (slice_get es n) (entries_at es ns)
