-- The roots of the rows that the looks see are those that a replacement has to read.
use Rattle.std.proofs.Common.{Bool, List, [], ap, cond, false, filter, inl, inr, map, not, refl, sym, true, ◌&&◌, ◌++◌, ◌∙◌, ◌∷◌, ◌≡◌}
use Rattle.std.proofs.lemmas.Bool.{cases_Bool, false≢true}
use Rattle.std.specs.BTreeSet.{insert_key}
use Rattle.std.specs.Ordering.{match_ordering}
use Rattle.std.specs.declared.cmp.Ordering.{Ordering}
use Rattle.std.specs.declared.cmp.Ordering.TheVariants as Orderings
use Rattle.seg_names.specs.Ids.{id_cmp}
use Rattle.seg_names.specs.declared.seg_id.SegId.{SegId}
use Rattle.book_rows.specs.Carried.{is_before, is_carried, is_seen_within, to_replace}
use Rattle.book_rows.specs.Contents.{commit_of}
use Rattle.book_rows.specs.Ids.{in_order, put_by, put_id}
use Rattle.book_rows.specs.Lists.{In}
use Rattle.book_rows.specs.Visible.{is_used_over}
use Rattle.book_rows.specs.declared.rows.PosseRow.{PosseRow}
use Rattle.book_rows.specs.declared.rows.Publication.{Publication}
use Rattle.book_rows.specs.declared.rows.SegmentRow.{SegmentRow}
use Rattle.laws_chunks.proofs.Members.{filter_In}
use Rattle.timeline_view.specs.Looks.{is_read, put_all_read, put_read}
use Rattle.timeline_view.proofs.Seeing.{looks_at_all, seen_is, seen_over}

-- ---- roots in id order

-- an id is put into a set as it is put into a list in id order
pub insert_is : (a : SegId) (ids : List SegId) → insert_key id_cmp ids a ≡ put_id a ids
insert_is a [] = refl
insert_is a (b ∷ bs) = go (id_cmp a b) (insert_is a bs) where
  go : (o : Ordering) → insert_key id_cmp bs a ≡ put_id a bs → match_ordering o (a ∷ b ∷ bs) (b ∷ bs) (b ∷ insert_key id_cmp bs a) ≡ put_by o a b bs (put_id a bs)
  go Orderings.Less rest = refl
  go Orderings.Equal rest = refl
  go Orderings.Greater rest = ap (λ (l : List SegId). b ∷ l) rest

pub last_put : (test : SegmentRow → Bool) (rs : List SegmentRow) (r : SegmentRow) (ids : List SegId) → put_all_read test (rs ++ r ∷ []) ids ≡ put_all_read test rs (put_read (test r) r ids)
last_put test [] r ids = refl
last_put test (q ∷ rs) r ids = ap (λ (l : List SegId). put_read (test q) q l) (last_put test rs r ids)

all_put : (test : SegmentRow → Bool) (rs : List SegmentRow) → put_all_read test rs [] ≡ in_order (map (λ r. r.root) (filter test rs))
all_put test [] = refl
all_put test (r ∷ rs) = go (test r) (all_put test rs) where
  go : (b : Bool) → put_all_read test rs [] ≡ in_order (map (λ r. r.root) (filter test rs)) → put_read b r (put_all_read test rs []) ≡ in_order (map (λ r. r.root) (cond b (r ∷ filter test rs) (filter test rs)))
  go true rest = ap (λ (l : List SegId). put_id r.root l) rest
  go false rest = rest

-- ---- the rows

filter_both : (p u q : SegmentRow → Bool) (rs : List SegmentRow) → ((r : SegmentRow) → In r rs → p r ≡ (u r && q r)) → filter p rs ≡ filter q (filter u rs)
filter_both p u q [] h = refl
filter_both p u q (r ∷ rs) h =
    let rest = filter_both p u q rs (λ x i. h x (inr i)) in
    elim (cases_Bool (u r)) [
      | inl on ↦ (let same : p r ≡ q r = h r (inl refl) ∙ ap (λ (b : Bool). b && q r) on in rw (on, same) (ap (λ (l : List SegmentRow). cond (q r) (r ∷ l) l) rest))
      | inr off ↦ (let none : p r ≡ false = h r (inl refl) ∙ ap (λ (b : Bool). b && q r) off in rw (off, none) rest)
    ]

module _ (rows : List SegmentRow) (pubs : List Publication) (q : PosseRow) where
  abbrev over : SegmentRow → Bool
  over = is_used_over q.source q.span

  abbrev read : SegmentRow → Bool
  read = is_read (looks_at_all rows q.source q.span) pubs q.since

  carried_is : (r : SegmentRow) → In r rows → is_carried rows pubs q r ≡ (over r && read r)
  carried_is r i = elim (cases_Bool (over r)) [
    | inl on ↦
        rw on (ap (λ (b : Bool). not r.tombstone && b && is_before (commit_of pubs r.root) q.since) (sym (seen_is rows q.source q.span r i (filter_In over r rows i on))))
    | inr off ↦
        (let unseen : is_seen_within rows q.source q.span r ≡ false = elim (cases_Bool (is_seen_within rows q.source q.span r)) [
          | inl on ↦ absurd (false≢true (sym off ∙ seen_over rows q.source q.span r i on))
          | inr none ↦ none
        ] in
        rw off (ap (λ (b : Bool). not r.tombstone && b && is_before (commit_of pubs r.root) q.since) unseen ∙ none_of (not r.tombstone) (is_before (commit_of pubs r.root) q.since)))
  ] where
    none_of : (a b : Bool) → (a && false && b) ≡ false
    none_of true b = refl
    none_of false b = refl

  -- the roots put in order are what the rules say
  pub read_is : put_all_read read (filter over rows) [] ≡ to_replace rows pubs q
  read_is =
      all_put read (filter over rows)
      ∙ ap (λ (l : List SegmentRow). in_order (map (λ r. r.root) l)) (sym (filter_both (is_carried rows pubs q) over read rows carried_is))
