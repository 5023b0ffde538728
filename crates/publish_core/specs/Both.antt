-- The first id of two lists.
use Rattle.std.specs.Prelude.{None, Option, Some, cond}
use Rattle.seg_names.specs.declared.seg_id.SegId.{SegId}
use Rattle.book_rows.specs.Ids.{id_before}

-- the one that comes first in id order
abbrev pub earlier : Option SegId → Option SegId → Option SegId
earlier None b = b
earlier (Some a) None = Some a
earlier (Some a) (Some b) = cond (id_before b a) (Some b) (Some a)
