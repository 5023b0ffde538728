use Rattle.std.proofs.Common.{◌++◌, subst, sym}
use Rattle.seg_names.specs.Ids.{same_id}
use Rattle.book_rows.specs.Shape.{AreDistinct, segment_ids}
use Rattle.book_rows.specs.declared.rows.Book.{Book}
use Rattle.overlord_core.proofs.publishing.appending.put_append_rows.Goals as goal

pub add_segments-requires : goal.add_segments-requires
add_segments-requires c = subst (λ (x : Book). AreDistinct same_id (segment_ids (x.segments ++ c.args.rows.segments.items))) (sym c.core.view_is) c.requires
