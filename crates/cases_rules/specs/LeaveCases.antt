-- Leaving locks, and what goes with a lock that is revoked or ends: its pendings with their copies, and what it had to carry.
use Rattle.book_rows.specs.Answer.{changes, next}
use Rattle.book_rows.specs.declared.commands.Command.{Command}
use Rattle.book_rows.specs.declared.rows.Book.{Book}
use Rattle.book_rows.specs.declared.rows.PendingRow.{PendingRow}
use Rattle.std.specs.Prelude.{List, [], false, true, ◌++◌, ◌∷◌, ◌≡◌}
use Rattle.cases_rules.specs.ReplaceCases.{both, chunk_row}
use Rattle.scenes.specs.Asking.{Leaves, ask_hour, batch, conflict, exclusive, granted, group_of_two, group_row, hours, lock_row, lost, replacing, runs_in, time}
use Rattle.scenes.specs.Script.{after, s, s2, Answers, a, append, b, day, fail, hour, id, next_day, now, now1, p, r, replace, succeed, v0, x, y}
use Rattle.scenes.specs.Publishing.{pending_row_of, upgrade_row_of, used_row}
use Rattle.scenes.specs.Rows.{hour_pending}
use Rattle.book_rows.specs.declared.commands.Command.TheVariants as Commands
use Rattle.book_rows.specs.declared.kinds.LockKind.TheVariants as LockKinds
use Rattle.book_rows.specs.declared.replies.Reply.TheVariants as Replies

-- ---- unlocking

-- a task leaves a lock of which it is a member, once, and no other number
abbrev pub UnlockOwn : Type 0
UnlockOwn =
    Answers (batch a ++ (batch b ++ exclusive a hour ∷ []))
    (Commands.Unlock b 1 ∷ Commands.Unlock a 7 ∷ Commands.Unlock a 1 ∷ Commands.Unlock a 1 ∷ exclusive b hour ∷ [])
    (Replies.Unlock false ∷ Replies.Unlock false ∷ Replies.Unlock true ∷ Replies.Unlock false ∷ granted 2 hour now1 ∷ [])

abbrev pub hour_held : Book
hour_held = after (batch a ++ (batch b ++ exclusive a hour ∷ []))

-- the last member takes the lock away and changes nothing else; leaving another lock changes nothing
abbrev pub UnlockEnds : Type 0
UnlockEnds =
    Leaves hour_held (Commands.Unlock b 1) × Leaves hour_held (Commands.Unlock a 2)
    × (changes hour_held (Commands.Unlock a 1) ≡ true) × (next hour_held (Commands.Unlock a 1) ≡ record hour_held { posses = [] })

abbrev pub hour_of_two : List Command
hour_of_two = group_of_two 50 ++ (exclusive x hour ∷ exclusive y hour ∷ [])

-- another member keeps the lock, and who comes back joins as the last
abbrev pub MemberComesBack : Type 0
MemberComesBack =
    ((after (hour_of_two ++ Commands.Unlock x 1 ∷ [])).posses ≡ group_row 1 LockKinds.Exclusive (y ∷ []) hour now 50 ∷ [])
    × ((after (hour_of_two ++ (Commands.Unlock x 1 ∷ exclusive x hour ∷ []))).posses ≡ group_row 1 LockKinds.Exclusive (y ∷ x ∷ []) hour now 50 ∷ [])

-- a revoked lock stays with its members, and goes when the last one leaves it
abbrev pub RevokedIsLeft : Type 0
RevokedIsLeft =
    Answers (group_of_two 25 ++ batch a)
    (exclusive x hour ∷ exclusive y hour ∷ exclusive a hour ∷ Commands.Unlock x 1 ∷ Commands.Unlock x 1 ∷ exclusive x hour ∷ exclusive y hour ∷ Commands.Unlock y 1 ∷ Commands.Unlock y 1 ∷ [])
    (granted 1 hour now
    ∷ granted 1 hour now
    ∷ Replies.Lock 2 (1 ∷ []) hour now1
    ∷ Replies.Unlock true
    ∷ Replies.Unlock false
    ∷ conflict 2
    ∷ lost 1
    ∷ Replies.Unlock true
    ∷ Replies.Unlock false
    ∷ [])

-- ---- the pendings of a lock

-- a stream has two hours allocated, and the first of them is replaced
abbrev pub first_hour_replaced : List Command
first_hour_replaced =
    both
    ++ (ask_hour p s (time 5 10)
    ∷ ask_hour p s2 (time 7 10)
    ∷ replacing r hour
    ∷ replace r hour (id hour now 0 ∷ [])
    ∷ [])

abbrev pub second_pending : PendingRow
second_pending = pending_row_of (id (hours 7 8) v0 0) (id (hours 7 8) v0 0) 2 s2

abbrev pub copied_pending : PendingRow
copied_pending = pending_row_of (id hour now 1) (id hour v0 0) 1 s

-- a lock that its task leaves takes its pendings and their copies along, and no other lock's; the end of the replacing lock takes none
abbrev pub UnlockTakesCopies : Type 0
UnlockTakesCopies =
    ((after first_hour_replaced).pendings ≡ hour_pending ∷ second_pending ∷ copied_pending ∷ [])
    × ((after (first_hour_replaced ++ Commands.Unlock p 1 ∷ [])).pendings ≡ second_pending ∷ [])
    × ((after (first_hour_replaced ++ Commands.Unlock p 2 ∷ [])).pendings ≡ hour_pending ∷ copied_pending ∷ [])
    × ((after (first_hour_replaced ++ fail r ∷ [])).pendings ≡ hour_pending ∷ second_pending ∷ copied_pending ∷ [])

-- a task that ends takes all its pendings along; chunks stay, with the parts that were given
abbrev pub EndTakesPendings : Type 0
EndTakesPendings =
    ((after (first_hour_replaced ++ succeed p ∷ [])).pendings ≡ [])
    × ((after (first_hour_replaced ++ succeed p ∷ [])).chunks ≡ chunk_row hour v0 0 1 ∷ chunk_row (hours 7 8) v0 0 1 ∷ chunk_row hour now 1 2 ∷ [])

abbrev pub hour_seized : List Command
hour_seized = first_hour_replaced ++ (runs_in y y 80 ++ exclusive y hour ∷ [])

-- a lock that is revoked takes its pendings and their copies along
abbrev pub RevocationTakesCopies : Type 0
RevocationTakesCopies =
    ((after hour_seized).pendings ≡ second_pending ∷ [])
    × ((after hour_seized).posses
    ≡ record (lock_row 1 LockKinds.Append p hour v0 75) { revoked = true }
    ∷ lock_row 2 LockKinds.Append p (hours 7 8) v0 75
    ∷ record (lock_row 3 LockKinds.Replace r hour now 50) { revoked = true }
    ∷ record (lock_row 4 LockKinds.Exclusive y hour now1 80) { since = 1 }
    ∷ [])

-- ---- what a replacing lock has to carry

-- an hour is appended while a day is being replaced
abbrev pub hour_to_carry : List Command
hour_to_carry = both ++ (ask_hour p s (time 5 10) ∷ replacing r day ∷ append p (id hour v0 0 ∷ []) ∷ [])

-- what a replacing lock has to carry is forgotten when its task leaves it or ends, and not when the appending task does
abbrev pub LeavingForgets : Type 0
LeavingForgets =
    ((after hour_to_carry).upgrades ≡ upgrade_row_of 2 (id hour v0 0) ∷ [])
    × ((after (hour_to_carry ++ Commands.Unlock r 2 ∷ [])).upgrades ≡ [])
    × ((after (hour_to_carry ++ fail r ∷ [])).upgrades ≡ [])
    × ((after (hour_to_carry ++ succeed p ∷ [])).upgrades ≡ upgrade_row_of 2 (id hour v0 0) ∷ [])

-- it is forgotten with the revocation, and what was appended stays
abbrev pub RevocationForgets : Type 0
RevocationForgets =
    ((after (hour_to_carry ++ (runs_in y y 80 ++ exclusive y next_day ∷ []))).upgrades ≡ upgrade_row_of 2 (id hour v0 0) ∷ [])
    × ((after (hour_to_carry ++ (runs_in y y 80 ++ exclusive y (hours 9 10) ∷ []))).upgrades ≡ [])
    × ((after (hour_to_carry ++ (runs_in y y 80 ++ exclusive y (hours 9 10) ∷ []))).segments ≡ used_row (id hour v0 0) (id hour v0 0) 0 ∷ [])
