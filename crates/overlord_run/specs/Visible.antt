-- How many ids the timeline of a load gives.
use Rattle.std.specs.Prelude.{◌∷◌, List, [], codes, flat_map, length, ℕ}
use Rattle.seg_names.specs.declared.seg_id.SegId.{SegId}
use Rattle.book_rows.specs.Ids.{in_order, put_id}
use Rattle.book_rows.specs.Shown.{timeline_of}
use Rattle.book_rows.specs.declared.replies.Reply.{Reply}
use Rattle.book_rows.specs.declared.replies.Reply.TheVariants.{Timeline}
use Rattle.book_rows.specs.declared.replies.TimelinePart.{TimelinePart}
use Rattle.book_rows.specs.declared.rows.Book.{Book}

-- the ids of the parts, in id order, each once
abbrev pub ids_in : List TimelinePart → List SegId
ids_in parts = in_order (flat_map (λ p. p.ids) parts)

-- how many ids the timeline of the load's source gives, each counted once
abbrev pub visible_in : Book → ℕ
visible_in b = length (ids_in (timeline_of b.segments (codes "load")))

-- the parts of a timeline; other replies have none
abbrev pub parts_in : Reply → List TimelinePart
parts_in (Timeline parts source) = parts
parts_in _ = []

-- ids put into a list in id order one by one, the last first
abbrev pub put_all : List SegId → List SegId → List SegId
put_all [] ids = ids
put_all (a ∷ as') ids = put_id a (put_all as' ids)
