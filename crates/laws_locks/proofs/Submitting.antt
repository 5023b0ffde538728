-- A task is submitted.
use Rattle.std.proofs.Common.{◌≡◌, ℕ, ◌<◌, true, not, ◌&&◌, List, [], ◌∷◌, ◌++◌, Some, None, Option, refl, arith, bytes_eq, length, nat_le}
use Rattle.std.specs.List.{list_all}
use Rattle.std.specs.Str.{IsAscii, is_utf8}
use Rattle.std.proofs.lemmas.Str.{IsUtf8-from_ascii, is_utf8-from_IsUtf8}
use Rattle.std.proofs.lemmas.Str.Ascii.{IsAscii-cons, IsAscii-nil}
use Rattle.std.proofs.lemmas.Bool.{and_from, and_parts}
use Rattle.std.proofs.lemmas.Bool.Decides.{nat_tests}
use Rattle.seg_names.specs.Names.{is_task_id}
use Rattle.book_rows.specs.Form.{is_submit_byte, is_submit_text}
use Rattle.book_rows.specs.Names.{begins_with, compact_prefix, sup_prefix}
use Rattle.book_rows.specs.Outcome.{task_of}
use Rattle.book_rows.specs.Shape.{is_task_row}
use Rattle.book_rows.specs.TaskSteps.{submitted, waiting_row}
use Rattle.book_rows.specs.declared.kinds.Table.TheVariants as Tables
use Rattle.book_rows.specs.declared.kinds.TaskStatus.TheVariants as Statuses
use Rattle.book_rows.specs.declared.replies.Reply.TheVariants as Replies
use Rattle.book_rows.specs.declared.rows.Book.{Book}
use Rattle.book_rows.specs.declared.rows.TaskRow.{TaskRow}
use Rattle.laws_locks.specs.Commands.{SubmitKeepsLocks}
use Rattle.laws_locks.specs.LockShape.{HasSoundLocks}
use Rattle.laws_locks.proofs.Lists.{none_found}
use Rattle.laws_locks.proofs.Members.{members_more}
use Rattle.laws_locks.proofs.Rooms.{fitted_keeps, task_room}
use Rattle.laws_locks.proofs.TaskRows.{task_rows_push}

-- ---- the text of a submitted task is that of a task

below_128 : (x : ℕ) → is_submit_byte x ≡ true → x < 128
below_128 x h = grind (arith, nat_tests)

pub text_is_ascii : (text : List ℕ) → list_all is_submit_byte text ≡ true → IsAscii text
text_is_ascii [] h = IsAscii-nil
text_is_ascii (x ∷ xs) h =
    let both = and_parts (is_submit_byte x) (list_all is_submit_byte xs) h in
    IsAscii-cons x xs (below_128 x both.0) (text_is_ascii xs both.1)

text_is_utf8 : (text : List ℕ) → list_all is_submit_byte text ≡ true → is_utf8 text ≡ true
text_is_utf8 text h = is_utf8-from_IsUtf8 text (IsUtf8-from_ascii text (text_is_ascii text h))

longer_limit : (n : ℕ) → nat_le n 200 ≡ true → nat_le n 255 ≡ true
longer_limit n h = grind (arith, nat_tests)

pub submit_text_is_id : (text : List ℕ) → is_submit_text text ≡ true → is_task_id text ≡ true
submit_text_is_id text h =
    let one = and_parts (nat_le 1 (length text) && nat_le (length text) 200 && list_all is_submit_byte text && not (begins_with sup_prefix text)) (not (begins_with compact_prefix text)) h in
    let two = and_parts (nat_le 1 (length text) && nat_le (length text) 200 && list_all is_submit_byte text) (not (begins_with sup_prefix text)) one.0 in
    let three = and_parts (nat_le 1 (length text) && nat_le (length text) 200) (list_all is_submit_byte text) two.0 in
    let four = and_parts (nat_le 1 (length text)) (nat_le (length text) 200) three.0 in
    and_from (nat_le 1 (length text) && nat_le (length text) 255) (is_utf8 text) (and_from (nat_le 1 (length text)) (nat_le (length text) 255) four.0 (longer_limit (length text) four.1)) (text_is_utf8 text three.1)

-- ---- the command

submitted_keeps : (o : Option TaskRow) (b : Book) (row : TaskRow) → task_of row.task b.tasks ≡ o → is_task_row row ≡ true → HasSoundLocks b → HasSoundLocks (submitted o b row).book
submitted_keeps (Some t) b row e fits h = h
submitted_keeps None b row e fits h =
    fitted_keeps HasSoundLocks (Tables.Tasks ∷ []) b (record b { tasks = b.tasks ++ row ∷ [] }) (Replies.Submit Statuses.Waiting row.task) h
    (λ room. (
      record {
        room = record { tasks = task_room [] (record b { tasks = b.tasks ++ row ∷ [] }) room; locks = h.0.room.locks; numbers = h.0.room.numbers };
        instants = h.0.instants;
        tasks = task_rows_push b.tasks row h.0.tasks fits (none_found (λ t. bytes_eq t.task row.task) b.tasks e);
        locks = h.0.locks;
        members = members_more b.tasks (row ∷ []) b.posses h.0.members;
      },
      h.1,
    ))

pub submit_keeps_locks : SubmitKeepsLocks
submit_keeps_locks task group source kind priority locks b form h =
    let wants = and_parts _ _ form in
    let count = and_parts _ _ wants.0 in
    let high = and_parts _ _ count.0 in
    let named = and_parts _ _ high.0 in
    let texts = and_parts (is_submit_text task) (is_submit_text group) named.0 in
    submitted_keeps (task_of task b.tasks) b (waiting_row task group source kind priority locks) refl
    (and_from _ _ (and_from _ _ (and_from _ _ (and_from _ _ (and_from (is_task_id task) (is_task_id group) (submit_text_is_id task texts.0) (submit_text_is_id group texts.1)) named.1) high.1) count.1) wants.1) h
