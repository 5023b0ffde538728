-- What the table of streams means.
use Rattle.std.specs.Prelude.{List}
use Rattle.book_rows.specs.declared.rows.OffsetRow.{OffsetRow}
use Rattle.book_rows.specs.declared.rows.Publication.{Publication}

-- the publications, each under its place, and the stored offsets
pub record StreamRows : Type 0 where
  pub publications : List Publication
  pub offsets : List OffsetRow
