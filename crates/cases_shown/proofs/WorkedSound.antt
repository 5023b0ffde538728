-- The worked cases: soundness by the law, and the rest by computation.
use Rattle.std.proofs.Common.{Some, [], arith, false, inl, inr, refl, subst, suc, sym, true, zero, ℕ, ◌<◌, ◌∙◌, ◌∷◌, ◌≡◌}
use Rattle.std.proofs.lemmas.Bool.{false≢true}
use Rattle.std.specs.Str.{chars, is_utf8}
use lib.Utf8.{encode}
use Rattle.std.specs.Prelude.{codes}
use Rattle.iv_span.specs.Extent.{overlap}
use Rattle.seg_names.specs.Ids.{same_id}
use Rattle.seg_names.specs.declared.seg_id.SegId.{SegId}
use Rattle.book_rows.specs.Contents.{takes}
use Rattle.book_rows.specs.Lists.{In, at_place}
use Rattle.book_rows.specs.Sound.{Sound}
use Rattle.book_rows.specs.declared.rows.PosseRow.{PosseRow}
use Rattle.book_rows.specs.declared.rows.Publication.{Publication}
use Rattle.laws_chunks.proofs.Spans.{same_id_from}
use Rattle.laws_shown.specs.Asking.{MayAsk}
use Rattle.laws_shown.specs.Carrying.{IsToRead}
use Rattle.laws_shown.specs.History.{IsKept}
use Rattle.cases_shown.specs.SoundCases.{AskedDay, PendingWaits, PrintedDay, ShownAfterAppend, ShownDay, SoundDay, SplitDay, allocated, locked}
use Rattle.book_rows.specs.Answer.{reached}
use Rattle.scenes.specs.Script.{minutes, hour, r, w}
use Rattle.cases_shown.specs.SoundScene.{alloc, append, appended, copy, replaced, replacement, under_lock}
use Rattle.scenes.specs.Publishing.{hour_id, replace_day}
use Rattle.scenes.specs.Rows.{p_lock, r_lock, r_row}
use Rattle.laws_sound.proofs.Joined.{next_is_sound, reached_books_are_sound, sound_after}

-- ---- soundness

under_lock_sound : Sound (reached under_lock)
unfolding is_utf8 chars encode
under_lock_sound = reached_books_are_sound under_lock refl

pub sound_day : SoundDay
unfolding is_utf8 chars encode
sound_day = (refl, under_lock_sound, refl, refl, next_is_sound (reached under_lock) replace_day refl under_lock_sound, reached_books_are_sound replaced refl)

-- ---- what is shown and printed

pub shown_day : ShownDay
unfolding is_utf8 chars encode
shown_day = (refl, (refl, refl, refl), (refl, refl, refl), (refl, refl, refl), (refl, refl, refl), (refl, refl, refl))

pub printed_day : PrintedDay
unfolding is_utf8 chars encode
printed_day = (refl, refl, (copy, inr (inr (inr (inl refl))), inr (inl refl), refl, refl), refl, refl)

-- ---- what a replacement reads and carries

-- of two appends none takes away anything
appends_keep : IsKept (appended 0 ∷ appended 1 ∷ []) w (minutes 310) 0
appends_keep zero m lt e = absurd (omega arith)
appends_keep (suc zero) m lt e = (let same : appended 1 ≡ m = cc in subst (λ (m : Publication). takes w (minutes 310) m 0 ≡ false) same refl)
appends_keep (suc (suc k)) m lt e = absurd (cc)

others_id : (a b : SegId) → In a (b ∷ []) → same_id a b ≡ false → ⊥
others_id a b (inl e) off = false≢true (sym off ∙ same_id_from a b e)
others_id a b (inr none) off = none

-- the first publication added another id than the second one
not_first : (place : ℕ) (m : Publication) → place < 1 → at_place place (appended 0 ∷ appended 1 ∷ []) ≡ Some m → In (hour_id 1) m.adds → ⊥
not_first zero m lt e i = (let same : appended 0 ≡ m = cc in others_id (hour_id 1) (hour_id 0) (subst (λ (m : Publication). In (hour_id 1) m.adds) (sym same) i) refl)
not_first (suc k) m lt e i = absurd (omega arith)

pub asked_day : AskedDay
unfolding is_utf8 chars encode
asked_day = (refl, may_ask, refl, refl, read, not_read, refl) where
  none_lost : (lost : PosseRow) → In lost (p_lock ∷ r_lock ∷ []) → lost.revoked ≡ true → lost.source ≡ w → In r lost.members → overlap lost.span hour ≡ false
  none_lost lost (inl e) revoked of member = absurd (false≢true (subst (λ (q : PosseRow). q.revoked ≡ true) e revoked))
  none_lost lost (inr (inl e)) revoked of member = absurd (false≢true (subst (λ (q : PosseRow). q.revoked ≡ true) e revoked))
  none_lost lost (inr (inr none)) revoked of member = absurd none

  may_ask : MayAsk (reached under_lock) r hour r_lock
  may_ask = record {
    row = r_row;
    found = refl;
    runs = refl;
    lost_none = none_lost;
    is_valid = record { among = inr (inl refl); valid = refl };
    kind_is = refl;
    source_is = refl;
    is_member = inl refl;
    contains = refl;
  }

  read : IsToRead (reached under_lock).publications r_lock (hour_id 0)
  read = record {
    instant = minutes 310;
    in_span = refl;
    put = record { place = 0; publication = appended 0; at = refl; source_is = refl; in_span = refl; added = inl refl; kept = appends_keep };
    before = omega arith;
  }

  not_read : IsToRead (reached under_lock).publications r_lock (hour_id 1) → ⊥
  not_read v = not_first v.put.place v.put.publication v.before v.put.at v.put.added

pub split_day : SplitDay
unfolding is_utf8 chars encode
split_day = (refl, record { among = inr (inl refl); valid = refl }, refl, refl, refl, refl, refl, refl, refl)

-- ---- from the allocation to what is shown

pub pending_waits : PendingWaits
unfolding is_utf8 chars encode
pending_waits = (
  refl,
  inl refl,
  (
    record { sound = reached_books_are_sound allocated refl; lock = p_lock; is_valid = record { among = inl refl; valid = refl }; number_is = refl; not_added = λ i. i },
    record { sound = reached_books_are_sound locked refl; lock = p_lock; is_valid = record { among = inl refl; valid = refl }; number_is = refl; not_added = λ i. i },
  ),
  inl refl,
  refl,
  refl,
  refl,
  refl,
)

taken_away : IsKept (appended 0 ∷ appended 1 ∷ replacement ∷ []) w (minutes 310) 0 → ⊥
taken_away kept = false≢true (sym (kept 2 replacement (omega arith) refl))

pub shown_after_append : ShownAfterAppend
unfolding is_utf8 chars encode
shown_after_append = (refl, refl, record { sound = reached_books_are_sound allocated refl; done = refl; still_sound = sound_after (append 0 ∷ alloc (codes "s2") ∷ append 1 ∷ []) (reached allocated) refl (reached_books_are_sound allocated refl) }, refl, refl, refl, appends_keep, refl, refl, refl, taken_away, refl)
