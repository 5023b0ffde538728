-- A tick that opens a sequence adds one task and one sequence, and a replace adds the pendings that it copies.
use Rattle.std.proofs.Common.{◌≡◌, ◌∙◌, ◌+◌, ◌∷◌, ◌++◌, Bool, List, [], ap, ap₂, bytes_eq, cond, false, filter, find, length, map, nat_lt, not, pos, refl, subst, sym, true, true≢false, ℕ}
use Rattle.std.proofs.lemmas.Bool.{and_parts}
use Rattle.std.specs.Fmt.{digits}
use Rattle.std.specs.List.{list_all, list_any}
use Rattle.std.specs.Prelude.{None, Ok, Option, Some}
use Rattle.seg_names.specs.declared.seg_id.SegId.{SegId}
use Rattle.book_rows.specs.Answer.{answer}
use Rattle.book_rows.specs.Lists.{numbered}
use Rattle.book_rows.specs.Over.{Replacing, Target, or_err}
use Rattle.book_rows.specs.Publications.{committed, in_spans, publication_of}
use Rattle.book_rows.specs.Rewrite.{own_row, pending_copy}
use Rattle.book_rows.specs.declared.kinds.PubKind.TheVariants as PubKinds
use Rattle.book_rows.specs.declared.kinds.TaskKind.TheVariants as TaskKinds
use Rattle.book_rows.specs.declared.replies.Refusal.{Refusal}
use Rattle.book_rows.specs.declared.rows.PendingRow.{PendingRow}
use Rattle.book_rows.specs.Outcome.{changed, fitted, fitted_by, no_room, refused_or}
use Rattle.book_rows.specs.SupSteps.{after_tick, tick_outcome}
use Rattle.book_rows.specs.Names.{sequence_name}
use Rattle.book_rows.specs.PublishSteps.{over_checked}
use Rattle.book_rows.specs.Sequences.{is_of_group, name_of, partitions_of, positions}
use Rattle.book_rows.specs.Ticks.{Ticking, is_active, is_late, is_over, last_ends, late_from, nothing_ticked, opened_row, opens, replicas_of, stopped, ticked, with_opened, with_stopped, without_late}
use Rattle.book_rows.specs.declared.kinds.SeqState.TheVariants as States
use Rattle.book_rows.specs.declared.kinds.Table.TheVariants as Tables
use Rattle.book_rows.specs.declared.replies.Reply.{Reply}
use Rattle.book_rows.specs.declared.kinds.TaskStatus.TheVariants as Statuses
use Rattle.book_rows.specs.declared.replies.Reply.TheVariants as Replies
use Rattle.book_rows.specs.declared.rows.Book.{Book}
use Rattle.book_rows.specs.declared.rows.SequenceRow.{SequenceRow}
use Rattle.book_rows.specs.declared.rows.SupervisorRow.{SupervisorRow}
use Rattle.book_rows.specs.declared.rows.TaskRow.{TaskRow}
use Rattle.cases_rules.specs.FullRowCases.{AreOfOthers, OneIsCopied, ReplacesFillPendings, TicksFillSequences, TicksFillTasks, one_pending, table_full, with_pendings, with_sequences, with_task_rows}
use Rattle.cases_rules.specs.ReportCases.{first_row}
use Rattle.scenes.specs.Script.{day, id, now, r, t, w}
use Rattle.scenes.specs.Publishing.{replace_day}
use Rattle.scenes.specs.Supervising.{first_sequence, r000}
use Rattle.cases_rules.specs.SequenceCases.{replica_task, supervisor_row_of}
use Rattle.cases_rules.proofs.FullLaws.{one_more}

the_task : TaskRow
the_task = replica_task r000 Statuses.Waiting

-- what the tick makes of the sequences, and of the book
opening : Ticking
opening = ticked [] now (supervisor_row_of w ∷ []) []

after_opening : List TaskRow → Book
unfolding opening
after_opening ts = after_tick opening now (with_task_rows ts)

the_reply : Reply
the_reply = Replies.Tick [] (first_sequence ∷ []) []

-- the reply, where it is known whether the tasks are too many
reply_by : Bool → List TaskRow → Reply
unfolding opening after_opening the_reply
reply_by full ts = (fitted_by (cond full (Some Tables.Tasks) (no_room (Tables.Sequences ∷ []) (after_opening ts))) (with_task_rows ts) (changed (after_opening ts) the_reply)).reply

pub ticks_fill_tasks : TicksFillTasks
unfolding digits the_task opening after_opening the_reply reply_by
ticks_fill_tasks = (
  λ ts e. subst (λ (x : Bool). reply_by x ts ≡ the_reply) (sym (subst (λ (n : ℕ). nat_lt 262144 n ≡ false) (sym (one_more ts the_task 262143 e)) refl)) refl,
  λ ts e. subst (λ (x : Bool). reply_by x ts ≡ table_full Tables.Tasks) (sym (subst (λ (n : ℕ). nat_lt 262144 n ≡ true) (sym (one_more ts the_task 262144 e)) refl)) refl,
)

-- ---- sequences of other sources

not_true : (x : Bool) → not x ≡ true → x ≡ false
not_true true e = absurd (true≢false (sym e))
not_true false e = refl

-- a test that no sequence of another source passes
FailsOthers : (SequenceRow → Bool) → Type 0
FailsOthers test = (u : SequenceRow) → bytes_eq u.source w ≡ false → test u ≡ false

others_first : (u : SequenceRow) (us : List SequenceRow) → AreOfOthers (u ∷ us) → bytes_eq u.source w ≡ false
others_first u us o = not_true (bytes_eq u.source w) (and_parts _ _ o).0

others_rest : (u : SequenceRow) (us : List SequenceRow) → AreOfOthers (u ∷ us) → AreOfOthers us
others_rest u us o = (and_parts (not (bytes_eq u.source w)) (list_all (λ x. not (bytes_eq x.source w)) us) o).1

none_found : (test : SequenceRow → Bool) → FailsOthers test → (us : List SequenceRow) → AreOfOthers us → find test us ≡ None
unfolding FailsOthers
none_found test f [] o = refl
none_found test f (u ∷ us) o = rw (f u (others_first u us o)) (none_found test f us (others_rest u us o))

none_kept : (test : SequenceRow → Bool) → FailsOthers test → (us : List SequenceRow) → AreOfOthers us → filter test us ≡ []
unfolding FailsOthers
none_kept test f [] o = refl
none_kept test f (u ∷ us) o = rw (f u (others_first u us o)) (none_kept test f us (others_rest u us o))

none_pass : (test : SequenceRow → Bool) → FailsOthers test → (us : List SequenceRow) → AreOfOthers us → list_any test us ≡ false
unfolding FailsOthers
none_pass test f [] o = refl
none_pass test f (u ∷ us) o = rw (f u (others_first u us o)) (none_pass test f us (others_rest u us o))

the_supervisor : SupervisorRow
the_supervisor = supervisor_row_of w

fails_late : FailsOthers (is_late the_supervisor 0 now)
unfolding FailsOthers the_supervisor
fails_late u e = rw (e) refl

fails_over : FailsOthers (is_over the_supervisor 0 now)
unfolding FailsOthers the_supervisor
fails_over u e = rw (e) refl

fails_active : FailsOthers (is_active the_supervisor 0)
unfolding FailsOthers the_supervisor
fails_active u e = rw (e) refl

fails_group : FailsOthers (is_of_group w 0)
unfolding FailsOthers
fails_group u e = rw (e) refl

none_stops : (us : List SequenceRow) → AreOfOthers us → map (stopped the_supervisor 0 now) us ≡ us
unfolding FailsOthers the_supervisor
none_stops [] o = refl
none_stops (u ∷ us) o = rw (others_first u us o, none_stops us (others_rest u us o)) refl

-- the sequence that opens
the_sequence : SequenceRow
the_sequence = first_row States.Reading (pos 0) [] (r000 ∷ []) []

opening_beside : List SequenceRow → Ticking
opening_beside us = record { rows = us ++ the_sequence ∷ []; told = record { abandoned = []; paused = []; opened = first_sequence ∷ []; ended = []; submitted = the_task ∷ [] } }

-- ---- the three steps of the tick

before_steps : List SequenceRow → Ticking
before_steps us = record { rows = us; told = nothing_ticked }

nothing_late : (us : List SequenceRow) → AreOfOthers us → without_late the_supervisor 0 now (before_steps us) ≡ before_steps us
unfolding before_steps
nothing_late us o = ap (λ (found : Option SequenceRow). late_from found the_supervisor 0 (before_steps us)) (none_found (is_late the_supervisor 0 now) fails_late us o)

with_told : List SequenceRow → List SequenceRow → Ticking
with_told rows over = record { rows = rows; told = record nothing_ticked { paused = [] ++ map name_of over } }

nothing_stops : (us : List SequenceRow) → AreOfOthers us → with_stopped the_supervisor 0 now (before_steps us) ≡ before_steps us
unfolding before_steps with_told
nothing_stops us o = ap₂ with_told (none_stops us o) (none_kept (is_over the_supervisor 0 now) fails_over us o)

-- the sequence that opens beside those of its group
opened_after : List SequenceRow → SequenceRow
unfolding the_supervisor
opened_after rows = record {
  source = w;
  group = 0;
  index = length rows;
  state = States.Reading;
  opened = now;
  closed = pos 0;
  starts = last_ends (positions [] w t (partitions_of the_supervisor 0)) rows;
  ends = [];
  live = replicas_of (sequence_name w 0 (length rows)) 1;
  reports = [];
}

one_opens : (us : List SequenceRow) → AreOfOthers us → with_opened [] the_supervisor 0 now (before_steps us) ≡ opening_beside us
unfolding digits before_steps the_supervisor the_task the_sequence opening_beside opened_after
one_opens us o =
    ap (λ (active : Bool). cond active (before_steps us) (opens (opened_row [] the_supervisor 0 now us) (before_steps us))) (none_pass (is_active the_supervisor 0) fails_active us o)
    ∙ ap (λ (rows : List SequenceRow). opens (opened_after rows) (before_steps us)) (none_kept (is_of_group w 0) fails_group us o)

ticked_beside : (us : List SequenceRow) → AreOfOthers us → ticked [] now (the_supervisor ∷ []) us ≡ opening_beside us
unfolding before_steps the_supervisor
ticked_beside us o =
    ap (λ (k : Ticking). with_opened [] the_supervisor 0 now (with_stopped the_supervisor 0 now k)) (nothing_late us o)
    ∙ (ap (λ (k : Ticking). with_opened [] the_supervisor 0 now k) (nothing_stops us o) ∙ one_opens us o)

beside : List SequenceRow → Book
unfolding opening_beside
beside us = after_tick (opening_beside us) now (with_sequences us)

-- the reply, where it is known whether the sequences are too many
reply_beside : Bool → List SequenceRow → Reply
unfolding opening_beside beside the_reply
reply_beside full us = (fitted_by (cond full (Some Tables.Sequences) None) (with_sequences us) (changed (beside us) the_reply)).reply

pub ticks_fill_sequences : TicksFillSequences
unfolding digits the_task the_supervisor the_sequence opening_beside beside the_reply reply_beside
ticks_fill_sequences = (
  λ us o e. subst (λ (k : Ticking). (tick_outcome (with_sequences us) k now).reply ≡ the_reply) (sym (ticked_beside us o))
      (subst (λ (x : Bool). reply_beside x us ≡ the_reply) (sym (subst (λ (n : ℕ). nat_lt 262144 n ≡ false) (sym (one_more us the_sequence 262143 e)) refl)) refl),
  λ us o e. subst (λ (k : Ticking). (tick_outcome (with_sequences us) k now).reply ≡ table_full Tables.Sequences) (sym (ticked_beside us o))
      (subst (λ (x : Bool). reply_beside x us ≡ table_full Tables.Sequences) (sym (subst (λ (n : ℕ). nat_lt 262144 n ≡ true) (sym (one_more us the_sequence 262144 e)) refl)) refl),
)

-- ---- a replace that copies a pending

-- the row of the task that replaces, and its span with its lock
the_replacer : TaskRow
the_replacer = record { task = r; group = r; source = w; kind = TaskKinds.Batch; priority = 50; status = Statuses.Running; wants = [] }

the_target : Target
the_target = record { span = day; lock = 1; version = now; since = 0 }

the_ids : List SegId
the_ids = id day now 0 ∷ []

-- the book after, with these pendings copied
copying : List PendingRow → List PendingRow → Book
unfolding the_replacer the_target the_ids
copying ps copied =
    committed the_replacer (publication_of PubKinds.Replace the_replacer (record { span = day; since = 0 } ∷ []) (in_spans (day ∷ []) the_ids [] None)) (record (with_pendings ps) {
      chunks = record { source = w; span = day; version = now; core = 1; next = 1 + (0 + length (numbered (pending_copy w day now) 1 copied)) } ∷ [];
      segments = own_row 0 (id day now 0) ∷ [];
      pendings = ps ++ (numbered (pending_copy w day now) 1 copied ++ []);
      upgrades = [];
    })

-- the reply, where it is known which pendings are copied
reply_copying : List PendingRow → List PendingRow → Reply
unfolding copying
reply_copying ps copied = (fitted (Tables.Chunks ∷ Tables.Parts ∷ Tables.Segments ∷ Tables.Pendings ∷ Tables.Publications ∷ Tables.Offsets ∷ []) (with_pendings ps) (copying ps copied) (Replies.Replace 0)).reply

-- and where it is known whether one reaches out
reply_checked : Option Refusal → List PendingRow → Reply
unfolding the_replacer the_target the_ids
reply_checked fault ps = (refused_or (or_err fault (Ok (the_target ∷ []))) (with_pendings ps) (over_checked Replacing (with_pendings ps) (in_spans (day ∷ []) the_ids [] None) the_replacer)).reply

by_checks : (ps : List PendingRow) → OneIsCopied ps → answer (with_pendings ps) replace_day ≡ reply_copying ps (one_pending ∷ [])
unfolding the_replacer the_target the_ids copying reply_copying reply_checked
by_checks ps o = ap (λ (fault : Option Refusal). reply_checked fault ps) o.0 ∙ ap (reply_copying ps) o.1

one_copy : PendingRow
one_copy = pending_copy w day now 1 one_pending

fullness : Bool → List PendingRow → Reply
unfolding copying
fullness full ps = (fitted_by (cond full (Some Tables.Pendings) (no_room (Tables.Publications ∷ Tables.Offsets ∷ []) (copying ps (one_pending ∷ [])))) (with_pendings ps) (changed (copying ps (one_pending ∷ [])) (Replies.Replace 0))).reply

pub replaces_fill_pendings : ReplacesFillPendings
unfolding the_replacer the_target the_ids copying reply_copying one_copy fullness
replaces_fill_pendings = (
  λ ps o e. by_checks ps o ∙ subst (λ (x : Bool). fullness x ps ≡ Replies.Replace 0) (sym (subst (λ (n : ℕ). nat_lt 262144 n ≡ false) (sym (one_more ps one_copy 262143 e)) refl)) refl,
  λ ps o e. by_checks ps o ∙ subst (λ (x : Bool). fullness x ps ≡ table_full Tables.Pendings) (sym (subst (λ (n : ℕ). nat_lt 262144 n ≡ true) (sym (one_more ps one_copy 262144 e)) refl)) refl,
)
