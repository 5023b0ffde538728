-- The record of a line tells what the line changes, and may have others behind it.
use Rattle.std.proofs.Common.{◌≡◌, ◌<◌, ℕ, Bool, true, false, List, [], ◌∷◌, ◌++◌, length, Option, Some, None, Result, Ok, Err, if◌then◌else◌, refl, sym, ◌∙◌, ap, subst, arith}
use Rattle.std.proofs.lemmas.Bool.{false≢true}
use Rattle.std.specs.Prelude.{codes}
use Rattle.std.specs.Str.{is_utf8}
use Rattle.serde_json.specs.Data.{Data}
use Rattle.serde_json.specs.Read.{read}
use Rattle.book_rows.specs.Answer.{changes, next}
use Rattle.book_rows.proofs.StepLaws.{stays_where_unchanged}
use Rattle.book_rows.specs.Form.{keeps_form}
use Rattle.book_rows.specs.Outcome.{refused_or, running, running_as, task_of}
use Rattle.book_rows.specs.Over.{held_for}
use Rattle.book_rows.specs.PublishSteps.{asked, told_of}
use Rattle.iv_span.specs.Extent.{Extent}
use Rattle.book_rows.specs.declared.commands.Command.{Command}
use Rattle.book_rows.specs.declared.commands.Command.TheVariants as C
use Rattle.book_rows.specs.declared.kinds.LockKind.TheVariants as LockKinds
use Rattle.book_rows.specs.declared.kinds.TaskStatus.{TaskStatus}
use Rattle.book_rows.specs.declared.kinds.TaskStatus.TheVariants as Statuses
use Rattle.book_rows.specs.declared.replies.Refusal.{Refusal}
use Rattle.book_rows.specs.declared.rows.Book.{Book}
use Rattle.book_rows.specs.declared.rows.PosseRow.{PosseRow}
use Rattle.book_rows.specs.declared.rows.TaskRow.{TaskRow}
use Rattle.cmd_codec.specs.Records.{commands_of, IsSpelled}
use Rattle.cmd_codec.proofs.RecordBytes.{some_bytes, one_again}
use Rattle.overlord_rules.proofs.Joining.{joined_again}
use Rattle.cmd_codec.specs.Spelling.{spelling}
use Rattle.cmd_words.specs.Lines.{CommandOf, command_of, command_by}
use Rattle.cmd_words.specs.Values.{text_at}
use Rattle.iv_time.specs.Texts.{◌>>=◌}
use Rattle.machine_run.specs.Rules.{IsKeptByRecords}
use Rattle.machine_run.specs.LineItems.{LineItem, short, long}
use Rattle.overlord_rules.specs.CommandRules.{checked, command_rules}
use Rattle.overlord_rules.specs.LineCommands.{CommandsAreSpelled, LinesKeepForm}
use Rattle.overlord_rules.specs.OverlordRules.{load_of, book_by, body_by, book_of, record_of, restore_by, restore_of, book_after, record_in, overlord_rules}

-- ---- the commands that lines give

some_part : {A B : Type 0} (o : Option A) (f : A → Option B) (y : B) → (o >>= f) ≡ Some y → (x : A) × (f x ≡ Some y)
some_part None f y is = absurd (cc)
some_part (Some x) f y is = (x, is)

pub checked_form : (c c' : Command) → checked c ≡ Some c' → keeps_form c' ≡ true
checked_form c c' is = by (keeps_form c) refl is
  where
    by : (kept : Bool) → keeps_form c ≡ kept → (if kept then Some c else None) ≡ Some c' → keeps_form c' ≡ true
    by true k is = let same : c ≡ c' = cc in subst (λ (x : Command). keeps_form x ≡ true) same k
    by false k is = absurd (cc)

object_form : (d : Data) (c : Command) → command_of d ≡ Some c → keeps_form c ≡ true
unfolding command_of
object_form d c is =
    let word = some_part (text_at (codes "do") d) (λ word. command_by word d >>= checked) c is in
    let read = some_part (command_by word.0 d) checked c word.1 in
    checked_form read.0 c read.1

-- the command of a line keeps its form
pub line_form : LinesKeepForm
unfolding CommandOf
line_form line c is = by (is_utf8 line) is
  where
    by : (utf8 : Bool) → (if utf8 then (read line >>= command_of) else None) ≡ Some c → keeps_form c ≡ true
    by true e = let d = some_part (read line) command_of c e in object_form d.0 c d.1
    by false e = absurd (cc)

-- ---- spellings

-- a task that asks changes nothing
asked_by : (o : Option TaskRow) (b : Book) (span : Extent) → (running o b (asked b span)).changes ≡ false
asked_by None b span = refl
asked_by (Some t) b span = by_status t.status where
  by_lock : (r : Result PosseRow Refusal) → (refused_or r b (told_of b)).changes ≡ false
  by_lock (Err why) = refl
  by_lock (Ok q) = refl

  by_status : (s : TaskStatus) → (running_as s b (asked b span t)).changes ≡ false
  by_status Statuses.Waiting = refl
  by_status Statuses.Running = by_lock (held_for b.posses t LockKinds.Replace span)
  by_status Statuses.Success = refl
  by_status Statuses.Failed = refl

-- a command that keeps its form and changes a book can be spelled: only questions can't
pub spelled : CommandsAreSpelled
spelled b (C.Submit task group source kind priority locks) kept changed = (kept, refl)
spelled b (C.Manage now) kept changed = (kept, refl)
spelled b (C.Lock task kind span now) kept changed = (kept, refl)
spelled b (C.Unlock task lock) kept changed = (kept, refl)
spelled b (C.Allocate task kind sequence previous at granularity now) kept changed = (kept, refl)
spelled b (C.Append task ids ranges) kept changed = (kept, refl)
spelled b (C.Insert task spans ids tombstones ranges) kept changed = (kept, refl)
spelled b (C.Replace task spans ids tombstones ranges) kept changed = (kept, refl)
spelled b (C.End task status) kept changed = (kept, refl)
spelled b (C.Drop source span) kept changed = (kept, refl)
spelled b (C.Reset source stream offsets) kept changed = (kept, refl)
spelled b (C.Supervise source stream partitions task_count replicas task_duration completion_timeout) kept changed = (kept, refl)
spelled b (C.Tick now) kept changed = (kept, refl)
spelled b (C.Paused task offsets) kept changed = (kept, refl)
spelled b (C.Checkpoint task offsets) kept changed = (kept, refl)
spelled b (C.ToReplace task span) kept changed = absurd (false≢true (sym (asked_by (task_of task b.tasks) b span) ∙ changed))
spelled b (C.Show what) kept changed = absurd (cc)

-- ---- of the command of a line, if it is one

unchanged_by : (b : Book) (o : Option Command) → body_by b o ≡ None → book_by b o ≡ b
unchanged_by b None is = refl
unchanged_by b (Some c) is = by (changes b c) refl is
  where
    by : (changed : Bool) → changes b c ≡ changed → (if changed then Some (spelling c) else None) ≡ None → next b c ≡ b
    by true e is = absurd (cc)
    by false e is = stays_where_unchanged b c e

restores_by : (b : Book) (o : Option Command) (body : List ℕ) → ((c : Command) → o ≡ Some c → keeps_form c ≡ true) → body_by b o ≡ Some body → restore_of b body ≡ Some (book_by b o)
unfolding restore_of
restores_by b None body form is = absurd (cc)
restores_by b (Some c) body form is = by (changes b c) refl is
  where
    by : (changed : Bool) → changes b c ≡ changed → (if changed then Some (spelling c) else None) ≡ Some body → restore_by b (commands_of body) ≡ Some (next b c)
    by true e is =
        let same : spelling c ≡ body = cc in
        let reads : commands_of body ≡ Some (c ∷ []) = ap commands_of (sym same) ∙ one_again c (spelled b c (form c refl) e) in
        ap (λ (o : Option (List Command)). restore_by b o) reads ∙ rw e refl
    by false e is = absurd (cc)

-- a record isn't empty
some_by : (b : Book) (o : Option Command) → ((c : Command) → o ≡ Some c → keeps_form c ≡ true) → body_by b o ≡ Some [] → ⊥
some_by b None form is = absurd (cc)
some_by b (Some c) form is = by (changes b c) refl is
  where
    by : (changed : Bool) → changes b c ≡ changed → (if changed then Some (spelling c) else None) ≡ Some [] → ⊥
    by true e is =
        let same : spelling c ≡ [] = cc in
        let some : 0 < length (spelling c) = some_bytes c (spelled b c (form c refl) e) in
        absurd (omega (arith, some, ap length same))
    by false e is = absurd (cc)

-- a record may have others behind it
joins_then : (b : Book) (c : Command) (more : List ℕ) (t : Book) → changes b c ≡ true → IsSpelled c → (o : Option (List Command)) → commands_of more ≡ o → restore_by (next b c) o ≡ Some t → restore_by b (commands_of (spelling c ++ more)) ≡ Some t
joins_then b c more t changed is None e on = absurd (cc)
joins_then b c more t changed is (Some cs) e on = ap (λ (o : Option (List Command)). restore_by b o) (joined_again c more cs is e) ∙ rw changed on

joins_by : (b : Book) (o : Option Command) (body more : List ℕ) (t : Book) → ((c : Command) → o ≡ Some c → keeps_form c ≡ true) → body_by b o ≡ Some body → restore_of (book_by b o) more ≡ Some t → restore_of b (body ++ more) ≡ Some t
unfolding restore_of
joins_by b None body more t form is on = absurd (cc)
joins_by b (Some c) body more t form is on = by (changes b c) refl is
  where
    by : (changed : Bool) → changes b c ≡ changed → (if changed then Some (spelling c) else None) ≡ Some body → restore_by b (commands_of (body ++ more)) ≡ Some t
    by true e is =
        let same : spelling c ≡ body = cc in
        ap (λ (l : List ℕ). restore_by b (commands_of (l ++ more))) (sym same) ∙ joins_then b c more t e (spelled b c (form c refl) e) (commands_of more) refl on
    by false e is = absurd (cc)

-- ---- of lines

unchanged_in : (b : Book) (item : LineItem) → record_in b item ≡ None → book_after b item ≡ b
unfolding book_of record_of
unchanged_in b (short line) is = unchanged_by b (CommandOf line) is
unchanged_in b (long size) is = refl

some_in : (b : Book) (item : LineItem) → record_in b item ≡ Some [] → ⊥
unfolding record_of
some_in b (short line) is = some_by b (CommandOf line) (line_form line) is
some_in b (long size) is = absurd (cc)

restores_in : (b : Book) (item : LineItem) (body : List ℕ) → record_in b item ≡ Some body → restore_of b body ≡ Some (book_after b item)
unfolding book_of record_of
restores_in b (short line) body is = restores_by b (CommandOf line) body (line_form line) is
restores_in b (long size) body is = absurd (cc)

joins_in : (b : Book) (item : LineItem) (body more : List ℕ) (t : Book) → record_in b item ≡ Some body → restore_of (book_after b item) more ≡ Some t → restore_of b (body ++ more) ≡ Some t
unfolding book_of record_of
joins_in b (short line) body more t is on = joins_by b (CommandOf line) body more t (line_form line) is on
joins_in b (long size) body more t is on = absurd (cc)

no_longer : (bytes : List ℕ) → 0 < length bytes → load_of bytes ≡ None
no_longer [] some = absurd (omega (arith, some))
no_longer (byte ∷ bytes) some = refl

pub kept_by_records : IsKeptByRecords overlord_rules
kept_by_records = record {
  loads = refl;
  too_long = no_longer;
  unchanged = unchanged_in;
  some = some_in;
  restores = restores_in;
  joins = joins_in;
}

-- ---- of commands

pub commands_kept_by_records : IsKeptByRecords command_rules
commands_kept_by_records = record {
  loads = refl;
  too_long = no_longer;
  unchanged = λ b c is. unchanged_by b (checked c) is;
  some = λ b c is. some_by b (checked c) (checked_form c) is;
  restores = λ b c body is. restores_by b (checked c) body (checked_form c) is;
  joins = λ b c body more t is on. joins_by b (checked c) body more t (checked_form c) is on;
}
