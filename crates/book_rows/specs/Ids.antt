-- Segment ids: chunks, order, and lists of ids.
use Rattle.std.specs.Prelude.{◌&&◌, ◌∷◌, Bool, List, None, Option, Some, [], bytes_eq, false, true}
use Rattle.std.specs.List.{list_any}
use Rattle.std.specs.Ordering.{int_eq}
use Rattle.std.specs.declared.cmp.Ordering.{Ordering}
use Rattle.iv_span.specs.Extent.{Extent}
use Rattle.seg_names.specs.Ids.{id_cmp, same_extent, same_id}
use Rattle.seg_names.specs.declared.seg_id.SegId.{SegId}
use Rattle.std.specs.declared.cmp.Ordering.TheVariants as Orderings

-- both are ids of one chunk
abbrev pub same_chunk : SegId → SegId → Bool
same_chunk a b = bytes_eq a.source b.source && same_extent a.span b.span && int_eq a.version b.version

abbrev pub is_less : Ordering → Bool
is_less Orderings.Less = true
is_less _ = false

-- the first stands before the second in id order
abbrev pub id_before : SegId → SegId → Bool
id_before a b = is_less (id_cmp a b)

abbrev pub put_by : Ordering → SegId → SegId → List SegId → List SegId → List SegId
put_by Orderings.Less a b bs rest = a ∷ b ∷ bs
put_by Orderings.Equal a b bs rest = b ∷ bs
put_by Orderings.Greater a b bs rest = b ∷ rest

-- the id at its place in a list in id order, where it isn't there yet
abbrev pub put_id : SegId → List SegId → List SegId
put_id a [] = a ∷ []
put_id a (b ∷ bs) = put_by (id_cmp a b) a b bs (put_id a bs)

-- the ids in id order, each once
abbrev pub in_order : List SegId → List SegId
in_order [] = []
in_order (a ∷ as') = put_id a (in_order as')

-- an id is one of the list
abbrev pub is_listed : List SegId → SegId → Bool
is_listed ids a = list_any (λ b. same_id b a) ids

abbrev pub same_ids : List SegId → List SegId → Bool
same_ids [] [] = true
same_ids (a ∷ as') (b ∷ bs) = same_id a b && same_ids as' bs
same_ids _ _ = false

-- no id in both, or the same one
abbrev pub same_previous : Option SegId → Option SegId → Bool
same_previous None None = true
same_previous (Some a) (Some b) = same_id a b
same_previous _ _ = false

-- the span of an id
abbrev pub is_of_span : Extent → SegId → Bool
is_of_span s a = same_extent a.span s
