-- A lock that is granted: the book after it has the lock that the reply names, and its locks are within their limits.
use Rattle.std.proofs.Common.{Err, List, None, Ok, Option, Result, Some, [], refl, subst, true, ℤ, ◌&&◌, ◌∷◌, ◌≡◌}
use Rattle.std.specs.List.{list_all}
use Rattle.iv_time.specs.Range.{is_instant}
use Rattle.book_rows.specs.Fits.{reply_fits, span_fits}
use Rattle.book_rows.specs.Grant.{blocks, book_granted, counters_at, grant_by, grant_lock, is_fit, posses_after, version_for}
use Rattle.book_rows.specs.LockSteps.{lock_outcome, lock_reply, locked}
use Rattle.book_rows.specs.Locks.{is_lost, least}
use Rattle.book_rows.specs.Outcome.{changed, fitted_by, no_room, refused_or}
use Rattle.book_rows.specs.Shape.{is_posse_row}
use Rattle.book_rows.specs.declared.answers.GrantedLock.{GrantedLock}
use Rattle.book_rows.specs.declared.answers.Counters.{Counters}
use Rattle.book_rows.specs.declared.kinds.Table.{Table}
use Rattle.book_rows.specs.declared.kinds.Table.TheVariants as Tables
use Rattle.book_rows.specs.declared.replies.Refusal.{Refusal}
use Rattle.book_rows.specs.declared.rows.Book.{Book}
use Rattle.book_rows.specs.declared.rows.PosseRow.{PosseRow}
use Rattle.book_rows.specs.declared.rows.TaskRow.{TaskRow}
use Rattle.book_rows.specs.declared.rows.Want.{Want}
use Rattle.laws_locks.specs.LockShape.{HasSoundLocks}
use Rattle.laws_locks.proofs.Grants.{granted_stands}
use Rattle.laws_locks.proofs.Lists.{In-list_all}
use Rattle.laws_texts.proofs.Limited.{lock_texts}
use Rattle.laws_texts.proofs.Outcomes.{error_fits}

-- ---- why a request is refused

grant_by_fits : (lost fit block : Option PosseRow) (version : Option ℤ) (ps : List PosseRow) (k : Counters) (t : TaskRow) (w : Want) → error_fits (grant_by lost fit block version ps k t w) ≡ true
grant_by_fits (Some lost) fit block version ps k t w = refl
grant_by_fits None (Some fit) block version ps k t w = refl
grant_by_fits None None (Some block) version ps k t w = refl
grant_by_fits None None None None ps k t w = refl
grant_by_fits None None None (Some version) ps k t w = refl

pub grant_fits : (ps : List PosseRow) (k : Counters) (t : TaskRow) (w : Want) → error_fits (grant_lock ps k t w) ≡ true
grant_fits ps k t w = grant_by_fits (least (is_lost t.task t.source w.span) ps) (least (is_fit t w) ps) (least (blocks t w) ps) (version_for w.lock_kind k) ps k t w

-- ---- what is granted

pub granted_texts : (ps : List PosseRow) (k : Counters) (t : TaskRow) (w : Want) (l : GrantedLock) → grant_lock ps k t w ≡ Ok l → list_all is_posse_row (posses_after ps t.task l.granted) ≡ true
    → (span_fits l.span && is_instant l.version) ≡ true
granted_texts ps k t w l e rows =
    let s = granted_stands ps k t w l e in
    subst (λ v. (span_fits l.span && is_instant v) ≡ true) s.version_is
    (subst (λ x. (span_fits x && is_instant s.lock.version) ≡ true) s.span_is (lock_texts s.lock (In-list_all is_posse_row s.lock (posses_after ps t.task l.granted) s.among rows)))

granted_fits : (o : Option Table) (b : Book) (t : TaskRow) (w : Want) (now : ℤ) (l : GrantedLock) → grant_lock b.posses (counters_at b now) t w ≡ Ok l → HasSoundLocks (fitted_by o b (changed (book_granted b t.task l.granted) (lock_reply l))).book
    → reply_fits (fitted_by o b (changed (book_granted b t.task l.granted) (lock_reply l))).reply ≡ true
granted_fits (Some table) b t w now l e h = refl
granted_fits None b t w now l e h = granted_texts b.posses (counters_at b now) t w l e h.0.locks.rows

outcome_fits : (o : Result GrantedLock Refusal) (b : Book) (t : TaskRow) (w : Want) (now : ℤ) → grant_lock b.posses (counters_at b now) t w ≡ o → error_fits o ≡ true → HasSoundLocks (refused_or o b (lock_outcome b t)).book
    → reply_fits (refused_or o b (lock_outcome b t)).reply ≡ true
outcome_fits (Err why) b t w now e fits h = fits
outcome_fits (Ok l) b t w now e fits h = granted_fits (no_room (Tables.Locks ∷ Tables.Numbers ∷ []) (book_granted b t.task l.granted)) b t w now l e h

pub locked_fits : (b : Book) (w : Want) (now : ℤ) (t : TaskRow) → HasSoundLocks (locked b w now t).book → reply_fits (locked b w now t).reply ≡ true
locked_fits b w now t h = outcome_fits (grant_lock b.posses (counters_at b now) t w) b t w now refl (grant_fits b.posses (counters_at b now) t w) h
