-- Locks stand under their source and kind, and their span: those of a kind that never conflicts are not met.
use Rattle.std.specs.Prelude.{◌&&◌, ◌||◌, ◌∷◌, ◌≡◌, Bool, List, [], bytes_eq, cond, false, not, true, ℕ, ℤ}
use Rattle.std.proofs.Common.{inl, inr, refl, sym}
use Rattle.std.proofs.lemmas.Bool.{and_parts}
use Rattle.std.proofs.lemmas.Slice.Eq.{bytes_eq-Decides}
use Rattle.iv_span.specs.Extent.{Extent, covers, overlap}
use Rattle.book_rows.specs.Kinds.{go_together}
use Rattle.book_rows.specs.Locks.{compatible}
use Rattle.book_rows.specs.declared.kinds.LockKind.{LockKind}
use Rattle.book_rows.specs.declared.kinds.LockKind.TheVariants as LockKinds
use Rattle.book_rows.specs.declared.rows.PosseRow.{PosseRow}
use Rattle.row_index.specs.Index.{In, IsReached}
use Rattle.span_keys.specs.Classes.{span_key}
use Rattle.laws_unsound.specs.ChunkRows.{are_in_conflict}
use Rattle.row_search.specs.Classes.{class_digest, class_ranges, class_reached, overlap_turned}

abbrev pub kind_number : LockKind → ℕ
kind_number LockKinds.Exclusive = 0
kind_number LockKinds.Shared = 1
kind_number LockKinds.Append = 2
kind_number LockKinds.Replace = 3

-- a revoked lock stands apart
abbrev pub standing : PosseRow → ℕ
standing p = cond p.revoked 4 (kind_number p.lock_kind)

abbrev pub conflict_key : PosseRow → ℕ × ℤ
conflict_key p = span_key (class_digest p.source (standing p)) p.span

-- the kinds of locks that may be in conflict with one of this kind
abbrev pub rivals : LockKind → List ℕ
rivals LockKinds.Exclusive = 0 ∷ 1 ∷ 3 ∷ 2 ∷ []
rivals LockKinds.Shared = 0 ∷ 3 ∷ 2 ∷ []
rivals LockKinds.Append = 0 ∷ 1 ∷ 3 ∷ []
rivals LockKinds.Replace = 0 ∷ 1 ∷ 3 ∷ 2 ∷ []

abbrev pub conflict_ranges : PosseRow → List ((ℕ × ℤ) × ℤ)
conflict_ranges p = cond p.revoked [] (class_ranges p.source p.span (rivals p.lock_kind))

-- ---- what is in conflict is met

kept : (b : Bool) → not b ≡ false → b ≡ true
kept true off = refl
kept false off = cc

kept_first : (b c : Bool) → (not b || c) ≡ false → b ≡ true
kept_first true c off = refl
kept_first false c off = cc

-- they overlap, and the second is one of the rivals of the first
meet : (k : LockKind) (s : Extent) (j : LockKind) (t : Extent) → go_together k s j t ≡ false → (overlap s t ≡ true) × In (kind_number j) (rivals k)
meet LockKinds.Exclusive s LockKinds.Exclusive t off = (kept (overlap s t) off, inl refl)
meet LockKinds.Exclusive s LockKinds.Shared t off = (kept (overlap s t) off, inr (inl refl))
meet LockKinds.Exclusive s LockKinds.Append t off = (kept (overlap s t) off, inr (inr (inr (inl refl))))
meet LockKinds.Exclusive s LockKinds.Replace t off = (kept (overlap s t) off, inr (inr (inl refl)))
meet LockKinds.Shared s LockKinds.Exclusive t off = (kept (overlap s t) off, inl refl)
meet LockKinds.Shared s LockKinds.Shared t off = cc
meet LockKinds.Shared s LockKinds.Append t off = (kept (overlap s t) off, inr (inr (inl refl)))
meet LockKinds.Shared s LockKinds.Replace t off = (kept (overlap s t) off, inr (inl refl))
meet LockKinds.Append s LockKinds.Exclusive t off = (kept (overlap s t) off, inl refl)
meet LockKinds.Append s LockKinds.Shared t off = (kept (overlap s t) off, inr (inl refl))
meet LockKinds.Append s LockKinds.Append t off = cc
meet LockKinds.Append s LockKinds.Replace t off = (kept_first (overlap s t) (covers t s) off, inr (inr (inl refl)))
meet LockKinds.Replace s LockKinds.Exclusive t off = (kept (overlap s t) off, inl refl)
meet LockKinds.Replace s LockKinds.Shared t off = (kept (overlap s t) off, inr (inl refl))
meet LockKinds.Replace s LockKinds.Append t off = (kept_first (overlap s t) (covers s t) off, inr (inr (inr (inl refl))))
meet LockKinds.Replace s LockKinds.Replace t off = (kept (overlap s t) off, inr (inr (inl refl)))

off : (b : Bool) → not b ≡ true → b ≡ false
off true on = cc
off false on = refl

apart : (b c : Bool) → not (not b || c) ≡ true → (b ≡ true) × (c ≡ false)
apart true true on = cc
apart true false on = (refl, refl)
apart false c on = cc

pub conflict_reaches : (q p : PosseRow) → are_in_conflict q p ≡ true → IsReached (conflict_ranges q) (conflict_key p ∷ [])
conflict_reaches q p on =
    let first = and_parts (not q.revoked) (not p.revoked && not (compatible q p)) on in
    let second = and_parts (not p.revoked) (not (compatible q p)) first.1 in
    let valid : q.revoked ≡ false = off q.revoked first.0 in
    let own : p.revoked ≡ false = off p.revoked second.0 in
    let clash = apart (bytes_eq q.source p.source) (go_together q.lock_kind q.span p.lock_kind p.span) second.1 in
    let same : p.source ≡ q.source = sym ((bytes_eq-Decides q.source p.source).0 clash.0) in
    let met = meet q.lock_kind q.span p.lock_kind p.span clash.1 in
    rw (valid, own, same) (class_reached q.source q.span p.span (kind_number p.lock_kind) (rivals q.lock_kind) (overlap_turned q.span p.span met.0) met.1)
