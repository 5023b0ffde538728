-- What the proofs of the changes say of them, in the words of the rules.
use Rattle.std.specs.Prelude.{◌==◌, ◌<◌, ◌≡◌, ◌⊎◌, Bool, List, false, int_le, int_lt, pos, true, ℕ, ℤ}
use Rattle.iv_span.specs.Extent.{Extent, covers, overlap}
use Rattle.seg_names.specs.Ids.{same_id}
use Rattle.seg_names.specs.declared.seg_id.SegId.{SegId}
use Rattle.book_rows.specs.Kinds.{guards}
use Rattle.book_rows.specs.Lists.{In, count}
use Rattle.book_rows.specs.Live.{IsIn, IsLive, IsOf, IsOwner, IsValid, IsWhole}
use Rattle.book_rows.specs.declared.kinds.LockKind.TheVariants as LockKinds
use Rattle.book_rows.specs.declared.rows.ChunkRow.{ChunkRow}
use Rattle.book_rows.specs.declared.rows.PendingRow.{PendingRow}
use Rattle.book_rows.specs.declared.rows.PosseRow.{PosseRow}
use Rattle.book_rows.specs.declared.rows.SegmentRow.{SegmentRow}

-- ---- locks

-- the same lock, whoever is a member
pub record IsSameLock (p q : PosseRow) : Type 0 where
  pub number_is : p.number ≡ q.number
  pub kind_is : p.lock_kind ≡ q.lock_kind
  pub source_is : p.source ≡ q.source
  pub span_is : p.span ≡ q.span
  pub version_is : p.version ≡ q.version
  pub since_is : p.since ≡ q.since

-- a valid lock from before, or after, whose number isn't gone
pub record IsStillValid (gone : ℕ → Bool) (qs : List PosseRow) (q : PosseRow) : Type 0 where
  pub row : PosseRow
  pub is_valid : IsValid qs row
  pub same : IsSameLock row q
  pub kept : gone q.number ≡ false

-- the valid locks afterwards are those from before whose numbers aren't gone
pub record DoesLose (gone : ℕ → Bool) (qs after : List PosseRow) : Type 0 where
  pub back : (q : PosseRow) → IsValid after q → IsStillValid gone qs q
  pub forth : (q : PosseRow) → IsValid qs q → gone q.number ≡ false → IsStillValid gone after q

-- an appending lock has version 0, any other a version above all others
abbrev pub HasNewVersion : ℤ → PosseRow → Type 0
HasNewVersion last q = ((q.lock_kind ≡ LockKinds.Append) × (q.version ≡ pos 0)) ⊎ (int_lt last q.version ≡ true)

-- no valid lock has the number
abbrev pub HasNewNumber : List PosseRow → PosseRow → Type 0
HasNewNumber qs q = (p : PosseRow) → IsValid qs p → (p.number == q.number) ≡ false

-- ---- a chunk without core

-- a chunk without core that isn't there yet, of no replacing lock's version, and within the lock of its version
pub record IsNewChunk (qs : List PosseRow) (cs : List ChunkRow) (n : ChunkRow) : Type 0 where
  pub core_is : n.core ≡ 0
  pub is_new : (c : ChunkRow) (a : SegId) → In c cs → IsIn c a → IsIn n a → ⊥
  pub not_replacing : (q : PosseRow) → IsOwner qs n q → q.lock_kind ≡ LockKinds.Replace → ⊥
  pub within : (q : PosseRow) → IsOwner qs n q → int_lt (pos 0) n.version ≡ true → covers q.span n.span ≡ true

-- ---- a chunk with its segments and copies

-- no live chunk that meets the span is as high
abbrev pub IsAbove : List SegmentRow → List PendingRow → List ℕ → Extent → ℤ → Type 0
IsAbove rows ps source s v = (a : SegId) → IsLive rows ps a → a.source ≡ source → overlap a.span s ≡ true → int_lt a.version v ≡ true

-- a copy, in the new chunk, of a root pending that lies within the span
pub record IsNewCopy (ps : List PendingRow) (source : List ℕ) (s : Extent) (v : ℤ) (x : PendingRow) : Type 0 where
  pub is_of : IsOf source s v x.id
  pub root : PendingRow
  pub among : In root ps
  pub is_root : root.id ≡ root.root
  pub root_is : x.root ≡ root.id
  pub source_is : root.id.source ≡ source
  pub within : covers s root.id.span ≡ true
  pub meets : overlap root.id.span s ≡ true
  pub posse_is : x.posse ≡ root.posse
  pub sequence_is : x.sequence ≡ root.sequence
  pub previous_is : x.previous ≡ root.previous

-- each root pending that meets the span lies within it and has one copy
pub record HasCopy (copies : List PendingRow) (s : Extent) (r : PendingRow) : Type 0 where
  pub within : covers s r.id.span ≡ true
  pub one : count (λ x. same_id x.root r.id) copies ≡ 1

-- the chunk comes above all that it meets, with a core that is whole, copies of the roots within it, and below the locks there
pub record IsLaid (qs : List PosseRow) (cs : List ChunkRow) (rows : List SegmentRow) (ps : List PendingRow) (d : ChunkRow) (news : List SegmentRow) (copies : List PendingRow) : Type 0 where
  pub above : IsAbove rows ps d.source d.span d.version
  pub is_new : (c : ChunkRow) (a : SegId) → In c cs → IsIn c a → IsIn d a → ⊥
  pub has_core : 0 < d.core
  pub whole : IsWhole news d
  pub rows_of : (r : SegmentRow) → In r news → IsIn d r.id
  pub copies_of : (x : PendingRow) → In x copies → IsNewCopy ps d.source d.span d.version x
  pub copied : (r : PendingRow) → In r ps → r.id ≡ r.root → r.id.source ≡ d.source → overlap r.id.span d.span ≡ true → HasCopy copies d.span r
  pub guarded : (q : PosseRow) → IsValid qs q → guards q.lock_kind ≡ true → d.source ≡ q.source → overlap d.span q.span ≡ true → int_le d.version q.version ≡ true
  pub positive : int_lt (pos 0) d.version ≡ true
  pub not_shared : (q : PosseRow) → IsOwner qs d q → q.lock_kind ≡ LockKinds.Shared → ⊥
  pub within : (q : PosseRow) → IsOwner qs d q → covers q.span d.span ≡ true

-- ---- a drop

-- spans aren't empty, and no version of a lock is negative
pub record ArePlain (qs : List PosseRow) (cs : List ChunkRow) (ps : List PendingRow) : Type 0 where
  pub chunks : (c : ChunkRow) → In c cs → int_lt c.span.start c.span.end ≡ true
  pub roots : (p : PendingRow) → In p ps → int_lt p.root.span.start p.root.span.end ≡ true
  pub locks : (q : PosseRow) → IsValid qs q → int_le (pos 0) q.version ≡ true
