-- What two valid lock rows that meet are, and what a chunk of a replacing lock contains.
use Rattle.std.proofs.Common.{Bool, List, false, inl, inr, int_le, int_lt, not, pos, refl, sym, true, ◌||◌, ◌∙◌, ◌≡◌, ◌⊎◌}
use Rattle.std.proofs.lemmas.Bool.{false≢true}
use Rattle.std.proofs.lemmas.Bool.Decides.{Decides-eqb}
use Rattle.std.proofs.lemmas.Slice.Eq.{bytes_eq-Decides}
use Rattle.std.specs.Prelude.{bytes_eq}
use Rattle.iv_span.specs.Extent.{Extent, covers, overlap}
use Rattle.book_rows.specs.Kinds.{go_together, guards}
use Rattle.book_rows.specs.Lists.{In}
use Rattle.book_rows.specs.Live.{DoMeet, IsOwner, IsValid}
use Rattle.book_rows.specs.Locks.{HasDistinctNumbers, compatible, same_number}
use Rattle.book_rows.specs.Rules.{AreBelowLocks, AreCompatible, GoTogether, HaveCopies, HaveCores, HaveOneSpan}
use Rattle.book_rows.specs.declared.kinds.LockKind.{LockKind}
use Rattle.book_rows.specs.declared.rows.ChunkRow.{ChunkRow}
use Rattle.book_rows.specs.declared.rows.PendingRow.{PendingRow}
use Rattle.book_rows.specs.declared.rows.PosseRow.{PosseRow}
use Rattle.book_rows.specs.declared.rows.SegmentRow.{SegmentRow}
use Rattle.laws_chunks.proofs.ChangeFacts.{IsAbove}
pub use Rattle.laws_locks.proofs.Lists.{pair_of}
use Rattle.laws_chunks.proofs.Spans.{covers_self, le_cases, overlap_swap, overlap_wider}
use Rattle.laws_chunks.specs.Appending.{IsTaken}
use Rattle.laws_chunks.specs.ChunksSound.{HaveLiveChunks}
use Rattle.book_rows.specs.declared.kinds.LockKind.TheVariants as LockKinds

off_on : (b : Bool) → not b ≡ true → b ≡ true → ⊥
off_on true h e = false≢true h
off_on false h e = false≢true e

or_off : (a b : Bool) → (not a || b) ≡ true → a ≡ true → b ≡ true
or_off true b h e = h
or_off false b h e = absurd (false≢true e)

with_replace : (k : LockKind) (a b : Extent) → go_together k a LockKinds.Replace b ≡ true → overlap a b ≡ true → (k ≡ LockKinds.Append) × (covers b a ≡ true)
with_replace LockKinds.Exclusive a b h o = absurd (off_on (overlap a b) h o)
with_replace LockKinds.Shared a b h o = absurd (off_on (overlap a b) h o)
with_replace LockKinds.Append a b h o = (refl, or_off (overlap a b) (covers b a) h o)
with_replace LockKinds.Replace a b h o = absurd (off_on (overlap a b) h o)

replace_with : (k : LockKind) (a b : Extent) → go_together LockKinds.Replace b k a ≡ true → overlap b a ≡ true → (k ≡ LockKinds.Append) × (covers b a ≡ true)
replace_with LockKinds.Exclusive a b h o = absurd (off_on (overlap b a) h o)
replace_with LockKinds.Shared a b h o = absurd (off_on (overlap b a) h o)
replace_with LockKinds.Append a b h o = (refl, or_off (overlap b a) (covers b a) h o)
replace_with LockKinds.Replace a b h o = absurd (off_on (overlap b a) h o)

with_exclusive : (k : LockKind) (a b : Extent) → go_together k a LockKinds.Exclusive b ≡ true → overlap a b ≡ true → ⊥
with_exclusive LockKinds.Exclusive a b h o = off_on (overlap a b) h o
with_exclusive LockKinds.Shared a b h o = off_on (overlap a b) h o
with_exclusive LockKinds.Append a b h o = off_on (overlap a b) h o
with_exclusive LockKinds.Replace a b h o = off_on (overlap a b) h o

exclusive_with : (k : LockKind) (a b : Extent) → go_together LockKinds.Exclusive b k a ≡ true → overlap b a ≡ true → ⊥
exclusive_with LockKinds.Exclusive a b h o = off_on (overlap b a) h o
exclusive_with LockKinds.Shared a b h o = off_on (overlap b a) h o
exclusive_with LockKinds.Append a b h o = off_on (overlap b a) h o
exclusive_with LockKinds.Replace a b h o = off_on (overlap b a) h o

-- rows of one source that go together do so by kind
of_source : (p q : PosseRow) → p.source ≡ q.source → compatible p q ≡ true → go_together p.lock_kind p.span q.lock_kind q.span ≡ true
of_source p q e h = or_off (bytes_eq p.source q.source) (go_together p.lock_kind p.span q.lock_kind q.span) h ((bytes_eq-Decides _ _).1 e)

module _ (qs : List PosseRow) (sound : AreCompatible qs) where
  -- a valid lock row that meets a valid replacing one is that one, or appends within it
  pub beside_replace : (p q : PosseRow) → IsValid qs p → IsValid qs q → q.lock_kind ≡ LockKinds.Replace → p.source ≡ q.source → overlap p.span q.span ≡ true → (p ≡ q) ⊎ ((p.lock_kind ≡ LockKinds.Append) × (covers q.span p.span ≡ true))
  beside_replace p q vp vq kind source o = elim (pair_of GoTogether p q qs sound vp.among vq.among) [
    | inl e ↦ inl e
    | inr (inl g) ↦ inr (with_replace p.lock_kind p.span q.span (rw kind at (of_source p q source (g vp.valid vq.valid))) o)
    | inr (inr g) ↦ inr (replace_with p.lock_kind p.span q.span (rw kind at (of_source q p (sym source) (g vq.valid vp.valid))) (overlap_swap p.span q.span o))
  ]

  pub beside_exclusive : (p q : PosseRow) → IsValid qs p → IsValid qs q → q.lock_kind ≡ LockKinds.Exclusive → p.source ≡ q.source → overlap p.span q.span ≡ true → p ≡ q
  beside_exclusive p q vp vq kind source o = elim (pair_of GoTogether p q qs sound vp.among vq.among) [
    | inl e ↦ e
    | inr (inl g) ↦ absurd (with_exclusive p.lock_kind p.span q.span (rw kind at (of_source p q source (g vp.valid vq.valid))) o)
    | inr (inr g) ↦ absurd (exclusive_with p.lock_kind p.span q.span (rw kind at (of_source q p (sym source) (g vq.valid vp.valid))) (overlap_swap p.span q.span o))
  ]

-- two rows of one number are one
pub one_number : (qs : List PosseRow) (p q : PosseRow) → HasDistinctNumbers qs → In p qs → In q qs → p.number ≡ q.number → p ≡ q
one_number qs p q d i j e = elim (pair_of (λ p q. same_number p q ≡ false) p q qs d i j) [
  | inl same ↦ same
  | inr (inl off) ↦ absurd (false≢true (sym off ∙ (Decides-eqb p.number q.number).1 e))
  | inr (inr off) ↦ absurd (false≢true (sym off ∙ (Decides-eqb q.number p.number).1 (sym e)))
]

-- ---- chunks of a replacing lock

module _ (qs : List PosseRow) (cs : List ChunkRow) (rows : List SegmentRow) (ps : List PendingRow) (one : HaveOneSpan rows ps) (below : AreBelowLocks qs rows ps) (cores : HaveCores qs cs rows ps) (copies : HaveCopies cs rows ps) where
  -- a chunk of a valid replacing lock's version that meets a root pending contains it
  pub contains_root : (q : PosseRow) (r : PendingRow) (e : ChunkRow) → IsValid qs q → q.lock_kind ≡ LockKinds.Replace → int_lt (pos 0) q.version ≡ true → In r ps → r.id ≡ r.root → r.id.source ≡ q.source
      → In e cs → e.source ≡ q.source → e.version ≡ q.version → overlap e.span r.id.span ≡ true → covers e.span r.id.span ≡ true
  contains_root q r e v kind high ir root source ie es ev o =
      let own : IsOwner qs e q = record { is_valid = v; source_is = es; version_is = ev } in
      let u = cores.owned e q ie own 0 (cores.replace e q ie own kind) in
      let within : covers q.span e.span ≡ true = cores.within e q ie own (rw ev high) in
      let upto : int_le r.id.version q.version ≡ true = below r.id q (inr (r, ir, refl)) v (rw kind refl) source (overlap_swap q.span r.id.span (overlap_wider q.span e.span r.id.span within o)) in
      let meets : DoMeet r.id u.0.id = record { source_is = source ∙ sym es ∙ sym u.3.source_is; overlap_is = rw u.3.span_is (overlap_swap e.span r.id.span o) } in
      let version : u.0.id.version ≡ q.version = u.3.version_is ∙ ev in
      elim (le_cases r.id.version q.version upto) [
        | inl same ↦ rw (sym u.3.span_is ∙ sym (one r.id u.0.id (inr (r, ir, refl)) (inl (u.0, u.1, u.2, refl)) meets (same ∙ sym version))) (covers_self r.id.span)
        | inr lower ↦ rw (← u.3.span_is) (copies.contains r u.0.id ir root (inl (u.0, u.1, u.2, refl)) meets (rw version lower))
      ]

  -- a new chunk of the version of the lock that contains its span is above all that it meets, where no chunk of the version meets it
  pub above_all : HaveLiveChunks cs rows ps → (q : PosseRow) (s : Extent) → IsValid qs q → guards q.lock_kind ≡ true → covers q.span s ≡ true → (IsTaken cs q s → ⊥) → IsAbove rows ps q.source s q.version
  above_all chunks q s v g c free a la source o =
      let upto : int_le a.version q.version ≡ true = below a q la v g source (overlap_swap q.span a.span (overlap_wider q.span s a.span c (overlap_swap a.span s o))) in
      let x = chunks a la in
      elim (le_cases a.version q.version upto) [
        | inr lower ↦ lower
        | inl same ↦ absurd (free (record { chunk = x.0; among = x.1; source_is = sym x.2.source_is ∙ source; version_is = sym x.2.version_is ∙ same; meets = rw (← x.2.span_is) o }))
      ]
