-- The worked cases on locks and their pendings, by computation.
use Rattle.std.proofs.Common.{◌≡◌, ◌<◌, ℕ, ◌∷◌, ◌++◌, [], arith, inl, inr, refl, true, ap}
use Rattle.std.specs.Str.{chars, is_utf8}
use lib.Utf8.{encode}
use Rattle.book_rows.specs.Lists.{In}
use Rattle.book_rows.specs.declared.kinds.LockKind.TheVariants as LockKinds
use Rattle.book_rows.specs.declared.rows.PosseRow.{PosseRow}
use Rattle.laws_sound.proofs.Joined.{reached_books_are_sound}
use Rattle.cases_shown.specs.LockCases.{IdsUnderLocks, LeastIsNamed, LockIsRevokedForGood, NumberIsOver, SoundBookWithPendings, ToReplaceIsLost}
use Rattle.laws_revocation.specs.LockNumbers.{IsOver}
use Rattle.cases_shown.specs.RevocationScenes.{alloc, copied_run, half_lost, left_run, lost_row, revoked_run}
use Rattle.scenes.specs.Script.{after, c, now1}
use Rattle.laws_revocation.proofs.Numbering.{reached_has_numbers}
use Rattle.laws_revocation.proofs.PendingLocks.{reached_has_held_pendings}

pub sound_book_with_pendings : SoundBookWithPendings
unfolding is_utf8 chars encode
sound_book_with_pendings = (reached_books_are_sound copied_run refl, refl, refl, refl, refl, refl, refl, refl)

pub lock_is_revoked_for_good : LockIsRevokedForGood
lock_is_revoked_for_good = (reached_has_numbers revoked_run, refl, refl, refl, refl, refl)

-- ---- lock 1 is over

-- no lock of a greater number has number 1
not_one : {A : Type 0} (n m : ℕ) → n ≡ m → 1 < m → n ≡ 1 → A
not_one n m e lt f = absurd (omega (arith, e, lt, f))

one_below_three : 1 < 3
one_below_three = omega arith

one_below_four : 1 < 4
one_below_four = omega arith

pub over_as_revoked : IsOver 1 (after revoked_run)
over_as_revoked = record { given = one_below_three; lost = by_row } where
  by_row : (q : PosseRow) → In q (after revoked_run).posses → q.number ≡ 1 → q.revoked ≡ true
  by_row q (inl same) e = ap (λ (x : PosseRow). x.revoked) same
  by_row q (inr (inl same)) e = not_one q.number 2 (ap (λ (x : PosseRow). x.number) same) (omega arith) e
  by_row q (inr (inr none)) e = absurd none

over_as_gone : IsOver 1 (after left_run)
over_as_gone = record { given = one_below_three; lost = λ q i e. absurd i }

over_later : IsOver 1 (after (left_run ++ alloc c ∷ []))
over_later = record { given = one_below_four; lost = by_row } where
  by_row : (q : PosseRow) → In q (after (left_run ++ alloc c ∷ [])).posses → q.number ≡ 1 → q.revoked ≡ true
  by_row q (inl same) e = not_one q.number 3 (ap (λ (x : PosseRow). x.number) same) (omega arith) e
  by_row q (inr none) e = absurd none

pub number_is_over : NumberIsOver
unfolding is_utf8 chars encode
number_is_over = (
  reached_books_are_sound revoked_run refl,
  reached_has_numbers revoked_run,
  reached_has_held_pendings revoked_run,
  over_as_revoked,
  refl,
  refl,
  reached_books_are_sound left_run refl,
  over_as_gone,
  refl,
  refl,
  over_later,
  refl,
  refl,
  refl,
)

-- ---- publishes, and what a replacement has to read

pub ids_under_locks : IdsUnderLocks
unfolding is_utf8 chars encode
ids_under_locks = (reached_has_numbers revoked_run, refl, refl, refl, refl, refl, refl, reached_has_numbers (half_lost LockKinds.Replace), refl, refl, refl, refl)

pub to_replace_is_lost : ToReplaceIsLost
to_replace_is_lost = (
  record { found = refl; runs = refl },
  record { lock = lost_row 2 LockKinds.Replace now1; among = inr (inl refl); lost = refl },
  refl,
  refl,
  refl,
)

pub least_is_named : LeastIsNamed
least_is_named = (refl, refl, refl, refl, refl)
