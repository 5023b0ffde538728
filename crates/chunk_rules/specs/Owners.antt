-- Owners of chunks: the valid locks of a chunk's version, and how they are found.
use Rattle.std.specs.Prelude.{◌&&◌, ◌==◌, ◌||◌, ◌∷◌, ◌≡◌, Bool, List, [], bytes_eq, cond, false, fold, int_lt, nat_lt, not, pos, true, unsigned_abs, ℕ, ℤ}
use Rattle.std.specs.List.{list_all, list_any}
use Rattle.std.specs.Ordering.{int_eq}
use Rattle.std.proofs.Common.{ap, arith, inl, inr, refl, sym, ◌∙◌}
use Rattle.std.proofs.lemmas.Bool.{and_parts, cases_Bool, eqb-true}
use Rattle.std.proofs.lemmas.Int.{ints}
use Rattle.std.proofs.lemmas.Slice.Eq.{bytes_eq-Decides}
use Rattle.iv_span.specs.Extent.{covers}
use Rattle.seg_names.specs.Ids.{same_extent}
use Rattle.book_rows.specs.Kinds.{same_kind}
use Rattle.book_rows.specs.declared.kinds.LockKind.{LockKind}
use Rattle.book_rows.specs.declared.kinds.LockKind.TheVariants as LockKinds
use Rattle.book_rows.specs.declared.rows.ChunkRow.{ChunkRow}
use Rattle.book_rows.specs.declared.rows.PosseRow.{PosseRow}
use Rattle.book_rows.specs.declared.rows.SegmentRow.{SegmentRow}
use Rattle.row_index.specs.Digests.{mix}
use Rattle.row_index.specs.Index.{IsReached, digest_key, digest_range}
use Rattle.row_index.proofs.IndexLemmas.{digest_reached}
use Rattle.laws_unsound.specs.ChunkRows.{implies, is_whole, owns}
use Rattle.book_rows.specs.Allocation.{is_of_chunk}
use Rattle.row_search.specs.Classes.{behind_reached, front_reached}
use Rattle.row_search.specs.Digests.{chunks_mix, id_digest, mix_chunk}
use Rattle.chunk_rules.specs.Lives.{ChunkAt}
use Rattle.row_search.specs.Reached.{digest_reaches}

-- ---- parts

abbrev pub part_digest : ChunkRow → ℕ → ℕ
part_digest c part = mix (mix_chunk 5 c.source c.span c.version) part

pub part_reaches : (c : ChunkRow) (part : ℕ) (r : SegmentRow) → (r.used && (is_of_chunk c r.id && (r.id.part == part))) ≡ true → IsReached (digest_range (part_digest c part) ∷ []) (digest_key (id_digest r.id) ∷ [])
part_reaches c part r on =
    let both = and_parts (is_of_chunk c r.id) (r.id.part == part) (and_parts r.used (is_of_chunk c r.id && (r.id.part == part)) on).1 in
    let all = and_parts (bytes_eq r.id.source c.source && same_extent r.id.span c.span) (int_eq r.id.version c.version) both.0 in
    let two = and_parts (bytes_eq r.id.source c.source) (same_extent r.id.span c.span) all.0 in
    digest_reaches (part_digest c part) (id_digest r.id)
    (ap (λ (d : ℕ). mix d r.id.part) (chunks_mix 5 r.id.source c.source r.id.span c.span r.id.version c.version two.0 two.1 all.1)
    ∙ ap (λ (n : ℕ). mix (mix_chunk 5 c.source c.span c.version) n) (eqb-true r.id.part part both.1))

-- ---- owners

abbrev pub fits : ChunkRow → PosseRow → Bool
fits c q =
    implies (same_kind q.lock_kind LockKinds.Shared) (c.core == 0)
    && (implies (same_kind q.lock_kind LockKinds.Replace) (nat_lt 0 c.core) && implies (int_lt (pos 0) c.version) (covers q.span c.span))

-- an owner whose chunk isn't what it has to be
abbrev pub is_misfit : ChunkRow → Bool → PosseRow → Bool
is_misfit c whole q = owns c q && not (whole && fits c q)

abbrev pub owner_digest : Bool → List ℕ → ℤ → ℕ
owner_digest appends source version = mix (mix (fold mix 13 source) (unsigned_abs version)) (cond appends 1 0)

abbrev pub owner_key : PosseRow → ℕ × ℤ
owner_key q = digest_key (owner_digest (same_kind q.lock_kind LockKinds.Append) q.source q.version)

-- locks that append fit each whole chunk of version 0
abbrev pub owner_ranges : ChunkRow → Bool → List ((ℕ × ℤ) × ℤ)
owner_ranges c whole =
    digest_range (owner_digest false c.source c.version) ∷ cond (whole && not (int_lt (pos 0) c.version)) [] (digest_range (owner_digest true c.source c.version) ∷ [])

abbrev pub has_core_by : List PosseRow → List SegmentRow → ChunkAt → Bool
has_core_by qs rows x =
    implies x.live (is_whole rows x.chunk) && (implies (int_eq x.chunk.version (pos 0)) (x.chunk.core == 0) && not (list_any (is_misfit x.chunk (is_whole rows x.chunk)) qs))

same_int : (x y : ℤ) → int_eq x y ≡ true → x ≡ y
same_int x y e = grind (arith, ints)

-- a lock that appends fits a whole chunk of version 0
append_fits : (c : ChunkRow) (q : PosseRow) → same_kind q.lock_kind LockKinds.Append ≡ true → int_lt (pos 0) c.version ≡ false → fits c q ≡ true
append_fits c q on low = by q.lock_kind on where
  by : (k : LockKind) → same_kind k LockKinds.Append ≡ true → (implies (same_kind k LockKinds.Shared) (c.core == 0) && (implies (same_kind k LockKinds.Replace) (nat_lt 0 c.core) && implies (int_lt (pos 0) c.version) (covers q.span c.span))) ≡ true
  by LockKinds.Append on = rw low refl
  by LockKinds.Exclusive on = cc
  by LockKinds.Shared on = cc
  by LockKinds.Replace on = cc

pub misfit_reaches : (c : ChunkRow) (whole : Bool) (q : PosseRow) → is_misfit c whole q ≡ true → IsReached (owner_ranges c whole) (owner_key q ∷ [])
misfit_reaches c whole q on =
    let both = and_parts (owns c q) (not (whole && fits c q)) on in
    let named = and_parts (bytes_eq c.source q.source) (int_eq c.version q.version) (and_parts (not q.revoked) (bytes_eq c.source q.source && int_eq c.version q.version) both.0).1 in
    let source : q.source ≡ c.source = sym ((bytes_eq-Decides c.source q.source).0 named.0) in
    let version : q.version ≡ c.version = sym (same_int c.version q.version named.1) in
    let plain = digest_range (owner_digest false c.source c.version) ∷ [] in
    elim (cases_Bool (same_kind q.lock_kind LockKinds.Append)) [
      | inr off ↦
          front_reached plain (cond (whole && not (int_lt (pos 0) c.version)) [] (digest_range (owner_digest true c.source c.version) ∷ [])) (owner_key q ∷ [])
          (digest_reaches (owner_digest false c.source c.version) (owner_digest (same_kind q.lock_kind LockKinds.Append) q.source q.version) (rw (off, source, version) refl))
      | inl on' ↦
          (let there : IsReached (digest_range (owner_digest true c.source c.version) ∷ []) (owner_key q ∷ []) =
          digest_reaches (owner_digest true c.source c.version) (owner_digest (same_kind q.lock_kind LockKinds.Append) q.source q.version) (rw (on', source, version) refl) in
          elim (cases_Bool (whole && not (int_lt (pos 0) c.version))) [
            | inr off ↦ rw off (behind_reached plain (digest_range (owner_digest true c.source c.version) ∷ []) (owner_key q ∷ []) there)
            | inl low ↦
                (let parts = and_parts whole (not (int_lt (pos 0) c.version)) low in
                let clash : false ≡ true = rw (parts.0, append_fits c q on' (off (int_lt (pos 0) c.version) parts.1)) at both.1 in cc)
          ])
    ] where
      off : (b : Bool) → not b ≡ true → b ≡ false
      off true on = cc
      off false on = refl
