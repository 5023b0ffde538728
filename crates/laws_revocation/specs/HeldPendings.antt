-- Pendings are of valid locks: those of a lock that is revoked or ends go with it.
use Rattle.std.specs.Prelude.{◌≡◌, List, true, ℕ}
use Rattle.book_rows.specs.Answer.{book_after, empty_book, next}
use Rattle.book_rows.specs.Lists.{In}
use Rattle.book_rows.specs.Sound.{Sound}
use Rattle.book_rows.specs.declared.commands.Command.{Command}
use Rattle.book_rows.specs.declared.rows.Book.{Book}
use Rattle.book_rows.specs.declared.rows.PendingRow.{PendingRow}
use Rattle.book_rows.specs.declared.rows.PosseRow.{PosseRow}
use Rattle.laws_revocation.specs.LockNumbers.{HasNone, HasNumbers, HasValidLock, IsOver}

-- each pending is of a valid lock of the book
abbrev pub HasHeldPendings : Book → Type 0
HasHeldPendings b = (p : PendingRow) → In p b.pendings → HasValidLock b.posses p.posse

abbrev pub SoundHasHeldPendings : Type 0
SoundHasHeldPendings = (b : Book) → Sound b → HasHeldPendings b

-- of any commands whatever
abbrev pub ReachedHasHeldPendings : Type 0
ReachedHasHeldPendings = (cs : List Command) → HasHeldPendings (book_after empty_book cs)

abbrev pub HeldPendingsStay : Type 0
HeldPendingsStay = (b : Book) (cs : List Command) → HasHeldPendings b → HasHeldPendings (book_after b cs)

-- no pending is of the number
abbrev pub HasNoPending : ℕ → Book → Type 0
HasNoPending n b = (p : PendingRow) → In p b.pendings → p.posse ≡ n → ⊥

-- after the command by which a lock is revoked none is of its number
abbrev pub RevokingTakesPendings : Type 0
RevokingTakesPendings = (b : Book) (c : Command) (q : PosseRow) → HasNumbers b → HasHeldPendings b → In q (next b c).posses → q.revoked ≡ true → HasNoPending q.number (next b c)

-- nor after the command by which it ends
abbrev pub EndingTakesPendings : Type 0
EndingTakesPendings = (b : Book) (c : Command) (n : ℕ) → HasHeldPendings b → HasNone n (next b c) → HasNoPending n (next b c)

-- and after any further commands none is
abbrev pub NoPendingComes : Type 0
NoPendingComes = (n : ℕ) (b : Book) (cs : List Command) → HasHeldPendings b → IsOver n b → HasNoPending n (book_after b cs)
