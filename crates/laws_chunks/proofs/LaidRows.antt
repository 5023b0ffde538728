-- The segments of a new chunk: of its ids, of its tombstones, and copies of upgrade roots.
use Rattle.std.proofs.Common.{List, filter, map, ℕ, ◌++◌}
use Rattle.seg_names.specs.declared.seg_id.SegId.{SegId}
use Rattle.book_rows.specs.Lists.{numbered}
use Rattle.book_rows.specs.Rewrite.{is_taken_up, own_row, tomb_row, upgrade_copy}
use Rattle.book_rows.specs.declared.rows.ChunkRow.{ChunkRow}
use Rattle.book_rows.specs.declared.rows.SegmentRow.{SegmentRow}
use Rattle.book_rows.specs.declared.rows.UpgradeRow.{UpgradeRow}

-- where all ids and tombstones are of the chunk
abbrev pub laid_rows : ℕ → List SegId → List SegId → List SegmentRow
laid_rows k ids tombs = map (own_row k) ids ++ map (tomb_row k) tombs

abbrev pub upgrade_copies : ChunkRow → ℕ → ℕ → List UpgradeRow → List SegmentRow
upgrade_copies d k number us = numbered (upgrade_copy d.source d.span d.version k) d.core (filter (is_taken_up number d.span) us)
