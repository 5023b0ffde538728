use Rattle.std.proofs.Common.{◌++◌, subst, sym}
use Rattle.seg_names.specs.Ids.{same_id}
use Rattle.book_rows.specs.Shape.{AreDistinct, same_chunk_row, segment_ids}
use Rattle.book_rows.specs.declared.rows.Book.{Book}
use Rattle.overlord_core.proofs.publishing.filling.put_chunks.Goals as goal

pub add_chunks-requires : goal.add_chunks-requires
add_chunks-requires c = subst (λ (x : Book). AreDistinct same_chunk_row (x.chunks ++ c.args.chunks.items)) (sym c.core.view_is) c.requires.chunks_apart

pub add_segments-requires : goal.add_segments-requires
add_segments-requires c =
    rw c.in_ok-add_chunks.ensures
    (subst (λ (x : Book). AreDistinct same_id (segment_ids (x.segments ++ c.args.segments.items))) (sym c.core.view_is) c.requires.ids_apart)
