-- Ids that are put into a set one by one.
use Rattle.std.proofs.Common.{◌++◌, ◌∙◌, ◌∷◌, ◌≡◌, List, [], ap, arith, length, refl, sym}
use Rattle.std.specs.Prelude.{flat_map}
use Rattle.seg_names.specs.declared.seg_id.SegId.{SegId}
use Rattle.book_rows.specs.Ids.{in_order, put_id}
use Rattle.book_rows.specs.declared.replies.TimelinePart.{TimelinePart}
use Rattle.overlord_run.specs.Visible.{ids_in, put_all}

pub last_put : (ids : List SegId) (a : SegId) (into : List SegId) → put_all (ids ++ a ∷ []) into ≡ put_all ids (put_id a into)
last_put [] a into = refl
last_put (b ∷ ids) a into = ap (put_id b) (last_put ids a into)

joined_put : (ids more into : List SegId) → put_all (ids ++ more) into ≡ put_all ids (put_all more into)
joined_put [] more into = refl
joined_put (a ∷ ids) more into = ap (put_id a) (joined_put ids more into)

-- all of a list into none are the list in order
pub all_put : (ids : List SegId) → put_all ids [] ≡ in_order ids
all_put [] = refl
all_put (a ∷ ids) = ap (put_id a) (all_put ids)

-- the ids of parts into a list, those of the last first
abbrev pub put_parts : List TimelinePart → List SegId → List SegId
put_parts [] into = into
put_parts (p ∷ ps) into = put_all p.ids (put_parts ps into)

pub last_part : (ps : List TimelinePart) (p : TimelinePart) (into : List SegId) → put_parts (ps ++ p ∷ []) into ≡ put_parts ps (put_all p.ids into)
last_part [] p into = refl
last_part (q ∷ ps) p into = ap (put_all q.ids) (last_part ps p into)

flat_put : (ps : List TimelinePart) (into : List SegId) → put_all (flat_map (λ p. p.ids) ps) into ≡ put_parts ps into
flat_put [] into = refl
flat_put (p ∷ ps) into = joined_put p.ids (flat_map (λ q. q.ids) ps) into ∙ ap (put_all p.ids) (flat_put ps into)

pub parts_put : (ps : List TimelinePart) → put_parts ps [] ≡ ids_in ps
parts_put ps = sym (flat_put ps []) ∙ all_put (flat_map (λ p. p.ids) ps)

-- none is left to put
pub all_seen : (left ps : List TimelinePart) (seen : List SegId) → length left ≡ 0 → put_parts left seen ≡ put_parts ps [] → seen ≡ ids_in ps
all_seen [] ps seen none is = is ∙ parts_put ps
all_seen (p ∷ left) ps seen none is = absurd (omega (arith, none))
