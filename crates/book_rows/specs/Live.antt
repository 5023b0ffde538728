-- Live chunks, valid locks and their chunks. A live chunk is named by one of its live ids.
use Rattle.std.specs.Prelude.{◌&&◌, ◌<◌, ◌≡◌, ◌⊎◌, Bool, List, bytes_eq, false, true, ℕ, ℤ}
use Rattle.std.specs.List.{list_any}
use Rattle.std.specs.Ordering.{int_eq}
use Rattle.iv_span.specs.Extent.{Extent, has, overlap}
use Rattle.seg_names.specs.declared.seg_id.SegId.{SegId}
use Rattle.book_rows.specs.Lists.{In}
use Rattle.book_rows.specs.declared.rows.ChunkRow.{ChunkRow}
use Rattle.book_rows.specs.declared.rows.PendingRow.{PendingRow}
use Rattle.book_rows.specs.declared.rows.PosseRow.{PosseRow}
use Rattle.book_rows.specs.declared.rows.SegmentRow.{SegmentRow}

-- an id of a used segment
abbrev pub IsUsed : List SegmentRow → SegId → Type 0
IsUsed rows a = (r : SegmentRow) × In r rows × (r.used ≡ true) × (r.id ≡ a)

-- an id of a pending
abbrev pub IsPending : List PendingRow → SegId → Type 0
IsPending ps a = (p : PendingRow) × In p ps × (p.id ≡ a)

-- a chunk is live where a used segment or a pending is in it: the id is one of these
abbrev pub IsLive : List SegmentRow → List PendingRow → SegId → Type 0
IsLive rows ps a = IsUsed rows a ⊎ IsPending ps a

-- the id is of this chunk
pub record IsOf (source : List ℕ) (s : Extent) (version : ℤ) (a : SegId) : Type 0 where
  pub source_is : a.source ≡ source
  pub span_is : a.span ≡ s
  pub version_is : a.version ≡ version

abbrev pub IsSameChunk : SegId → SegId → Type 0
IsSameChunk a b = IsOf b.source b.span b.version a

-- the id is in the chunk of this row
abbrev pub IsIn : ChunkRow → SegId → Type 0
IsIn c a = IsOf c.source c.span c.version a

-- two ids of one source whose spans share an instant
pub record DoMeet (a b : SegId) : Type 0 where
  pub source_is : a.source ≡ b.source
  pub overlap_is : overlap a.span b.span ≡ true

-- a valid lock of the list
pub record IsValid (qs : List PosseRow) (q : PosseRow) : Type 0 where
  pub among : In q qs
  pub valid : q.revoked ≡ false

-- a chunk of this source and version is one of a valid lock's version
pub record IsOwnerOf (qs : List PosseRow) (source : List ℕ) (version : ℤ) (q : PosseRow) : Type 0 where
  pub is_valid : IsValid qs q
  pub source_is : source ≡ q.source
  pub version_is : version ≡ q.version

abbrev pub IsOwner : List PosseRow → ChunkRow → PosseRow → Type 0
IsOwner qs c q = IsOwnerOf qs c.source c.version q

-- the chunk has a used segment for each part below its core
abbrev pub IsWhole : List SegmentRow → ChunkRow → Type 0
IsWhole rows c = (i : ℕ) → i < c.core → (r : SegmentRow) × In r rows × (r.used ≡ true) × IsIn c r.id × (r.id.part ≡ i)

-- an instant is covered by a lock where a chunk of its source and version has it
abbrev pub is_covered : List ChunkRow → PosseRow → ℤ → Bool
is_covered cs q t = list_any (λ c. bytes_eq c.source q.source && int_eq c.version q.version && has c.span t) cs
