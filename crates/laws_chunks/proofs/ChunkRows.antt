-- Chunk rows of distinct chunks.
use Rattle.std.proofs.Common.{List, [], false, inl, inr, refl, sym, true, ◌&&◌, ◌++◌, ◌∙◌, ◌∷◌, ◌≡◌}
use Rattle.std.proofs.lemmas.Bool.{and_from, and_parts, cases_Bool, false≢true}
use Rattle.std.proofs.lemmas.Bool.Decides.{Decides-int_eq}
use Rattle.std.proofs.lemmas.Slice.Eq.{bytes_eq-Decides}
use Rattle.std.specs.Ordering.{int_eq}
use Rattle.std.specs.Prelude.{bytes_eq}
use Rattle.seg_names.specs.Ids.{same_extent}
use Rattle.seg_names.specs.declared.seg_id.SegId.{SegId}
use Rattle.book_rows.specs.Lists.{In}
use Rattle.book_rows.specs.Live.{IsIn}
use Rattle.book_rows.specs.Shape.{AreDistinct, same_chunk_row}
use Rattle.book_rows.specs.declared.rows.ChunkRow.{ChunkRow}
use Rattle.laws_chunks.proofs.LockFacts.{pair_of}
use Rattle.laws_chunks.proofs.Members.{all_from_In, pairs_push}
use Rattle.laws_chunks.proofs.Spans.{same_extent_from, same_extent_means}

-- rows that share an id are of one chunk
same_row_from : (c d : ChunkRow) (a : SegId) → IsIn c a → IsIn d a → same_chunk_row c d ≡ true
same_row_from c d a k l =
    and_from (bytes_eq c.source d.source && same_extent c.span d.span) (int_eq c.version d.version)
    (and_from (bytes_eq c.source d.source) (same_extent c.span d.span) ((bytes_eq-Decides c.source d.source).1 (sym k.source_is ∙ l.source_is)) (same_extent_from c.span d.span (sym k.span_is ∙ l.span_is)))
    ((Decides-int_eq c.version d.version).1 (sym k.version_is ∙ l.version_is))

-- and so they are one row
pub one_row : (cs : List ChunkRow) → AreDistinct same_chunk_row cs → (c d : ChunkRow) (a : SegId) → In c cs → In d cs → IsIn c a → IsIn d a → c ≡ d
one_row cs distinct c d a i j k l = elim (pair_of (λ c d. same_chunk_row c d ≡ false) c d cs distinct i j) [
  | inl same ↦ same
  | inr (inl off) ↦ absurd (false≢true (sym off ∙ same_row_from c d a k l))
  | inr (inr off) ↦ absurd (false≢true (sym off ∙ same_row_from d c a l k))
]

-- an id of the chunk of the first row
abbrev id_of : ChunkRow → SegId
id_of c = record { source = c.source; span = c.span; version = c.version; part = 0 }

row_differs : (c d : ChunkRow) → ((a : SegId) → IsIn c a → IsIn d a → ⊥) → same_chunk_row c d ≡ false
row_differs c d apart = elim (cases_Bool (same_chunk_row c d)) [
  | inr off ↦ off
  | inl on ↦
      let one = and_parts (bytes_eq c.source d.source && same_extent c.span d.span) (int_eq c.version d.version) on in
      let two = and_parts (bytes_eq c.source d.source) (same_extent c.span d.span) one.0 in
      absurd (apart (id_of c) (record { source_is = refl; span_is = refl; version_is = refl }) (record {
        source_is = (bytes_eq-Decides c.source d.source).0 two.0;
        span_is = same_extent_means c.span d.span two.1;
        version_is = (Decides-int_eq c.version d.version).0 one.1;
      }))
]

-- a row of a chunk that isn't there yet
pub rows_push : (cs : List ChunkRow) (d : ChunkRow) → AreDistinct same_chunk_row cs → ((c : ChunkRow) (a : SegId) → In c cs → IsIn c a → IsIn d a → ⊥) → AreDistinct same_chunk_row (cs ++ d ∷ [])
rows_push cs d distinct is_new = pairs_push (λ c d. same_chunk_row c d ≡ false) cs d distinct (all_from_In (λ c. same_chunk_row c d ≡ false) cs (λ c i. row_differs c d (λ a k l. is_new c a i k l)))
