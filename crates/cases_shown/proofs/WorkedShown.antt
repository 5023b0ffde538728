-- The worked cases, by computation.
use Rattle.std.proofs.Common.{None, Some, [], arith, false, inl, inr, not, pos, refl, subst, suc, sym, true, zero, ℕ, ℤ, ◌∙◌, ◌∷◌, ◌≡◌}
use Rattle.std.proofs.lemmas.Bool.{cases_Bool, false≢true, or_right}
use Rattle.std.specs.Prelude.{codes, int_le, neg_ℤ}
use Rattle.iv_span.specs.Extent.{Extent, has, overlap}
use Rattle.seg_names.specs.Ids.{same_id}
use Rattle.seg_names.specs.declared.seg_id.SegId.{SegId}
use Rattle.book_rows.specs.Contents.{takes}
use Rattle.book_rows.specs.Lists.{In, at_place}
use Rattle.book_rows.specs.declared.rows.PendingRow.{PendingRow}
use Rattle.book_rows.specs.declared.rows.PosseRow.{PosseRow}
use Rattle.book_rows.specs.declared.rows.Publication.{Publication}
use Rattle.laws_chunks.proofs.Spans.{has_wider, same_id_from}
use Rattle.cases_shown.specs.ShownCases.{AllInstants, AskingOfTheDay, CountedWhereDistinct, HourInTheDay, MemberAppends, NewPendingOfTheHour, PutInTheHour, SeenInTheDay, morning}
use Rattle.laws_shown.specs.Ends.{IsBeforeAll}
use Rattle.cases_shown.specs.ShownDay.{after, appended, day, day_id, hour, hour_id, is_in_day_if_in_hour, replacement, replacing, source}
use Rattle.laws_shown.specs.History.{IsKept, IsPut}
use Rattle.scenes.specs.Rows.{r_row}

-- ---- the ends

pub hour_in_the_day : HourInTheDay
hour_in_the_day = (λ t u ht hu alike. alike hour (inl refl), refl, (pos 5, refl, refl), refl, λ all. false≢true (all (pos 7) refl), refl, λ t h. h)

pub all_instants : AllInstants
all_instants = (
  λ t u alike. rw (alike day (inl refl), alike hour (inr (inl refl))) refl,
  λ t u alike. rw (alike day (inl refl), alike hour (inr (inl refl))) refl,
  before_all,
  refl,
  refl,
  refl,
  in_day,
  refl,
  refl,
) where
  before_all : IsBeforeAll (neg_ℤ (pos 1)) (day ∷ hour ∷ [])
  before_all s (inl e) = subst (λ (x : Extent). int_le x.start (neg_ℤ (pos 1)) ≡ false) (sym e) refl
  before_all s (inr (inl e)) = subst (λ (x : Extent). int_le x.start (neg_ℤ (pos 1)) ≡ false) (sym e) refl
  before_all s (inr (inr none)) = absurd none

  in_day : (t : ℤ) → is_in_day_if_in_hour t ≡ true
  in_day t = elim (cases_Bool (has hour t)) [ inl on ↦ or_right (not (has hour t)) (has day t) (has_wider day hour t refl on) | inr off ↦ rw off refl ]

pub seen_in_the_day : SeenInTheDay
seen_in_the_day = (inr (inl refl), refl, (pos 5, refl, refl, refl), inr (inl refl), refl, refl)

-- ---- the contents

pub put_in_the_hour : PutInTheHour
put_in_the_hour = (
  refl,
  refl,
  refl,
  refl,
  record { place = 1; publication = appended 1; at = refl; source_is = refl; in_span = refl; added = inl refl; kept = kept },
  refl,
  not_put,
) where
  kept : IsKept after source (pos 5) 1
  kept zero m lt e = absurd (omega arith)
  kept (suc zero) m lt e = absurd (omega arith)
  kept (suc (suc zero)) m lt e = (let same : replacement ≡ m = cc in subst (λ (m : Publication). takes source (pos 5) m 1 ≡ false) same refl)
  kept (suc (suc (suc k))) m lt e = absurd (cc)

  other : (a : SegId) → In (hour_id 0) (a ∷ []) → same_id (hour_id 0) a ≡ false → ⊥
  other a (inl e) off = false≢true (sym off ∙ same_id_from (hour_id 0) a e)
  other a (inr none) off = none

  -- the first append is taken away, and no other publication added its id
  put_at : (place : ℕ) (m : Publication) → at_place place after ≡ Some m → In (hour_id 0) m.adds → IsKept after source (pos 5) place → ⊥
  put_at zero m e i kept = false≢true (sym (kept 2 replacement (omega arith) refl))
  put_at (suc zero) m e i kept = (let same : appended 1 ≡ m = cc in other (hour_id 1) (subst (λ (m : Publication). In (hour_id 0) m.adds) (sym same) i) refl)
  put_at (suc (suc zero)) m e i kept = (let same : replacement ≡ m = cc in other (day_id 0) (subst (λ (m : Publication). In (hour_id 0) m.adds) (sym same) i) refl)
  put_at (suc (suc (suc k))) m e i kept = absurd (cc)

  not_put : IsPut after source (pos 5) (hour_id 0) → ⊥
  not_put w = put_at w.place w.publication w.at w.added w.kept

pub counted_where_distinct : CountedWhereDistinct
counted_where_distinct = (((refl, (refl, tt)), ((refl, tt), (tt, tt))), refl, refl, refl, refl, refl)

-- ---- who is answered

pub asking_of_the_day : AskingOfTheDay
asking_of_the_day = (
  record {
    row = r_row;
    found = refl;
    runs = refl;
    lost_none = none_lost;
    is_valid = record { among = inl refl; valid = refl };
    kind_is = refl;
    source_is = refl;
    is_member = inl refl;
    contains = refl;
  },
  refl,
  refl,
  refl,
  refl,
  refl,
  refl,
) where
  none_lost : (lost : PosseRow) → In lost (replacing ∷ []) → lost.revoked ≡ true → lost.source ≡ source → In (codes "r") lost.members → overlap lost.span morning ≡ false
  none_lost lost (inl e) revoked of member = absurd (false≢true (subst (λ (q : PosseRow). q.revoked ≡ true) e revoked))
  none_lost lost (inr none) revoked of member = absurd none

-- ---- allocations and appends

abbrev new_pending : PendingRow
new_pending = record { id = hour_id 1; root = hour_id 1; posse = 1; sequence = codes "s2"; previous = None }

pub new_pending_of_the_hour : NewPendingOfTheHour
new_pending_of_the_hour = (refl, (new_pending, inr (inl refl), refl, refl, refl))

pub member_appends : MemberAppends
member_appends = (inl refl, refl, refl, refl, refl, refl)
