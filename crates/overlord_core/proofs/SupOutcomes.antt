-- Commands on supervisors and sequences come to what the rules say.
use Rattle.std.proofs.Common.{◌&&◌, ◌++◌, ◌+◌, ◌||◌, ◌≡◌, ◌∙◌, ◌∷◌, ◌⊎◌, Bool, Err, IfErr, IfOk, List, None, Ok, OnErr, OnOk, Option, Result, Some, [], ap, cond, false, inl, inr, length, map, nat_lt, refl, subst, sym, true, ℕ, ℤ}
use Rattle.std.proofs.lemmas.Bool.{and_from}
use Rattle.std.proofs.lemmas.List.{length_push}
use Rattle.book_rows.specs.Kinds.{same_state}
use Rattle.book_rows.specs.Outcome as rules
use Rattle.book_rows.specs.Outcome.{fitted_by, row_limit, unless}
use Rattle.book_rows.specs.Reports.{all_reported, closed_at, closes, ends_told, first_bad, is_told, kept, reported, told}
use Rattle.book_rows.specs.Sequences.{is_named, sequence_named}
use Rattle.book_rows.specs.SupSteps as steps
use Rattle.book_rows.specs.SupSteps.{report_as, report_by, report_step, row_reply, supervised}
use Rattle.book_rows.specs.declared.answers.Reported.{Reported}
use Rattle.book_rows.specs.declared.kinds.SeqState.{SeqState}
use Rattle.book_rows.specs.declared.kinds.SeqState.TheVariants as States
use Rattle.book_rows.specs.declared.kinds.Table.{Table}
use Rattle.book_rows.specs.declared.kinds.Table.TheVariants as Tables
use Rattle.book_rows.specs.declared.replies.Refusal.{Refusal}
use Rattle.book_rows.specs.declared.replies.Refusal.TheVariants as Refusals
use Rattle.book_rows.specs.declared.replies.Reply.{Reply}
use Rattle.book_rows.specs.declared.replies.Reply.TheVariants as Replies
use Rattle.book_rows.specs.declared.rows.Book.{Book}
use Rattle.book_rows.specs.declared.rows.Offset.{Offset}
use Rattle.book_rows.specs.declared.rows.Report.{Report}
use Rattle.book_rows.specs.declared.rows.SequenceRow.{SequenceRow}
use Rattle.book_rows.specs.declared.rows.SupervisorRow.{SupervisorRow}
use Rattle.book_rows.specs.declared.rows.TaskRow.{TaskRow}
use Rattle.laws_locks.proofs.Lists.{found_In}
use Rattle.sup_core.specs.Reports.{bad_fault, closed_reply, closing_after, closing_reply, or_fault, told_fault, told_reply, rows_after, state_fault}
use Rattle.sup_core.specs.SupRows.{SupRows}
use Rattle.sup_core.specs.Supervising.{supervise_by}
use Rattle.sup_core.specs.declared.answers.SupFault.{SupFault}
use Rattle.sup_core.specs.declared.answers.SupFault.TheVariants as Faults
use Rattle.book_core.specs.Done.{IsDone}
use Rattle.book_core.specs.Refused.{IsSupRefusal}
use Rattle.overlord_core.specs.Supervised.{IsTold, reported_outcome}
use Rattle.book_core.specs.declared.outcomes.Outcome.{Outcome}
use Rattle.book_core.proofs.Refusing.{refusal_done}

-- ---- refusals

-- a fault that is refused isn't want of memory
pub fault_is : (o : Option SupFault) (source : List ℕ) (fault : SupFault) (why : Refusal) → (fault ≡ Faults.OutOfMemory) ⊎ (o ≡ Some fault) → IsSupRefusal source fault why → o ≡ Some fault
fault_is o source fault why (inl none) k = absurd (subst (λ (f : SupFault). IsSupRefusal source f why) none k)
fault_is o source fault why (inr is) k = is

why_is : (f fault : SupFault) (source : List ℕ) (why : Refusal) → Some f ≡ Some fault → IsSupRefusal source fault why → IsSupRefusal source f why
why_is f fault source why is k =
    let same : fault ≡ f = cc in
    subst (λ (x : SupFault). IsSupRefusal source x why) same k

-- ---- supervise

module _ (b : Book) (row : SupervisorRow) where
  abbrev whole : rules.Outcome
  whole = rules.changed (record b { supervisors = b.supervisors ++ row ∷ [] }) (Replies.Supervise row.source)

  abbrev by_room : Bool → rules.Outcome
  by_room full = fitted_by (cond full (Some Tables.Supervisors) None) b whole

  room_is : supervised None b row ≡ by_room (nat_lt row_limit (length b.supervisors + 1))
  room_is = ap (λ n. by_room (nat_lt row_limit n)) (length_push b.supervisors row)

  has_room : (full : Bool) → cond full (Some (Faults.Full Tables.Supervisors)) None ≡ None → by_room full ≡ whole
  has_room true passes = absurd (cc)
  has_room false passes = refl

  pub supervised_is : (o : Option SupervisorRow) → supervise_by o (length b.supervisors) ≡ None → supervised o b row ≡ whole
  supervised_is (Some s) passes = absurd (cc)
  supervised_is None passes = room_is ∙ has_room (nat_lt row_limit (length b.supervisors + 1)) passes

  too_full : (full : Bool) (fault : SupFault) (why : Refusal) → cond full (Some (Faults.Full Tables.Supervisors)) None ≡ Some fault → IsSupRefusal row.source fault why → by_room full ≡ rules.refused b why
  too_full true fault why is k = ap (λ (w : Refusal). rules.refused b w) (sym (why_is (Faults.Full Tables.Supervisors) fault row.source why is k))
  too_full false fault why is k = absurd (cc)

  pub supervise_refused : (o : Option SupervisorRow) (fault : SupFault) (why : Refusal) → supervise_by o (length b.supervisors) ≡ Some fault → IsSupRefusal row.source fault why → supervised o b row ≡ rules.refused b why
  supervise_refused (Some s) fault why is k = ap (λ (w : Refusal). rules.refused b w) (sym (why_is Faults.Exists fault row.source why is k))
  supervise_refused None fault why is k = room_is ∙ too_full (nat_lt row_limit (length b.supervisors + 1)) fault why is k

-- ---- the reply to a report that is kept

closing_shown : (closing begin : Bool) (clock : ℤ) (ends before : List Offset)
    → steps.report_reply begin (closing_reply (cond closing (Some (record { at = clock; ends = ends })) None)).state (closing_reply (cond closing (Some (record { at = clock; ends = ends })) None)).ends
    ≡ steps.report_reply begin (cond closing States.Closed States.Paused) (cond (same_state (cond closing States.Closed States.Paused) States.Closed) (cond closing ends before) [])
closing_shown true begin clock ends before = refl
closing_shown false begin clock ends before = refl

kept_reply : (begin : Bool) (name : List ℕ) (new : Report) (clock : ℤ) (u : SequenceRow) → is_named name u ≡ true → is_told name u ≡ true
    → steps.report_reply begin (closing_reply (closing_after u (kept new u.reports) clock)).state (closing_reply (closing_after u (kept new u.reports) clock)).ends ≡ row_reply begin (reported name new clock u)
kept_reply begin name new clock u named takes =
    let rs : List Report = kept new u.reports in
    let paused : SequenceRow = record u { state = States.Paused; reports = rs } in
    let told_is : told name new u ≡ paused = ap (λ (t : Bool). record u { state = cond t States.Paused u.state; reports = cond t rs u.reports }) takes in
    let closing : closes name paused ≡ all_reported rs u.live = ap (λ (n : Bool). n && same_state States.Paused States.Paused && all_reported rs u.live) named in
    closing_shown (all_reported rs u.live) begin clock (ends_told u.starts rs) u.ends
    ∙ ap (λ (c : Bool). steps.report_reply begin (cond c States.Closed States.Paused) (cond (same_state (cond c States.Closed States.Paused) States.Closed) (cond c (ends_told u.starts rs) u.ends) [])) (sym closing)
    ∙ ap (λ (v : SequenceRow). row_reply begin (closed_at name clock v)) (sym told_is)

-- ---- a report that isn't refused

changed_by : (closing : Bool) (clock : ℤ) (ends : List Offset) → (closing_reply (cond closing (Some (record { at = clock; ends = ends })) None)).changed ≡ true
changed_by true clock ends = refl
changed_by false clock ends = refl

module _ (b : Book) (name : List ℕ) (new : Report) (r : Reported) (d : Outcome) (after : Book) where
  -- it is kept
  kept_done : (begin : Bool) (u : SequenceRow) (bad : Option ℕ) → d ≡ reported_outcome begin r → first_bad u.starts new.offsets ≡ bad → bad_fault bad ≡ None
      → Some (closing_reply (closing_after u (kept new u.reports) b.clock)) ≡ Some r → after ≡ record b { sequences = map (reported name new b.clock) b.sequences } → is_named name u ≡ true → is_told name u ≡ true
      → IsDone d after (unless (steps.report_fault (first_bad u.starts new.offsets)) b (rules.changed (record b { sequences = map (reported name new b.clock) b.sequences }) (row_reply begin (reported name new b.clock u))))
  kept_done begin u (Some partition) is bad passes reply left named takes = absurd (cc)
  kept_done begin u None is bad passes reply left named takes =
      let same : r ≡ closing_reply (closing_after u (kept new u.reports) b.clock) = cc in
      rw bad (record {
        reply = ap (λ (x : Outcome). x.reply) is ∙ ap (λ (x : Reported). steps.report_reply begin x.state x.ends) same ∙ kept_reply begin name new b.clock u named takes;
        changes = ap (λ (x : Outcome). x.changes) is ∙ ap (λ (x : Reported). x.changed) same ∙ changed_by (all_reported (kept new u.reports) u.live) b.clock (ends_told u.starts (kept new u.reports));
        book = left;
      })

  done_as : (st : SeqState) (begin : Bool) (u : SequenceRow) → d ≡ reported_outcome begin r → or_fault (state_fault st begin) (cond (same_state st States.Closed) None (bad_fault (first_bad u.starts new.offsets))) ≡ None
      → Some (cond (same_state st States.Closed) (closed_reply u) (closing_reply (closing_after u (kept new u.reports) b.clock))) ≡ Some r
      → after ≡ record b { sequences = cond (same_state st States.Closed) b.sequences (map (reported name new b.clock) b.sequences) }
      → is_named name u ≡ true → ((same_state st States.Reading || same_state st States.Paused) ≡ true → is_told name u ≡ true) → IsDone d after (report_as st begin b name new u)
  done_as States.Reading false u is passes reply left named takes = absurd (cc)
  done_as States.Reading true u is passes reply left named takes = kept_done true u (first_bad u.starts new.offsets) is refl passes reply left named (takes refl)
  done_as States.Paused begin u is passes reply left named takes = kept_done begin u (first_bad u.starts new.offsets) is refl passes reply left named (takes refl)
  done_as States.Closed begin u is passes reply left named takes =
      let same : r ≡ closed_reply u = cc in
      record {
        reply = ap (λ (x : Outcome). x.reply) is ∙ ap (λ (x : Reported). steps.report_reply begin x.state x.ends) same;
        changes = ap (λ (x : Outcome). x.changes) is ∙ ap (λ (x : Reported). x.changed) same;
        book = left;
      }
  done_as States.Published begin u is passes reply left named takes = absurd (cc)
  done_as States.Abandoned begin u is passes reply left named takes = absurd (cc)

  done_by : (o : Option SequenceRow) (begin : Bool) → ((u : SequenceRow) → o ≡ Some u → is_named name u ≡ true) → d ≡ reported_outcome begin r → told_fault begin o new.offsets ≡ None → told_reply o new b.clock ≡ Some r
      → after ≡ record b { sequences = rows_after o name new b.clock b.sequences } → IsDone d after (report_by o begin b name new)
  done_by None begin named is passes reply left = absurd (cc)
  done_by (Some u) begin named is passes reply left = done_as u.state begin u is passes reply left (named u refl) (λ on. and_from (is_named name u) (same_state u.state States.Reading || same_state u.state States.Paused) (named u refl) on)

pub report_done : (begin : Bool) (b : Book) (t : TaskRow) (offsets : List Offset) (r : Reported) (d : Outcome) (after : Book) → d ≡ reported_outcome begin r → told_fault begin (sequence_named t.group b.sequences) offsets ≡ None
    → told_reply (sequence_named t.group b.sequences) (record { task = t.task; offsets = offsets }) b.clock ≡ Some r
    → after ≡ record b { sequences = rows_after (sequence_named t.group b.sequences) t.group (record { task = t.task; offsets = offsets }) b.clock b.sequences } → IsDone d after (report_step begin b offsets t)
report_done begin b t offsets r d after is passes reply left =
    done_by b t.group (record { task = t.task; offsets = offsets }) r d after (sequence_named t.group b.sequences) begin
    (λ u e. (found_In (is_named t.group) u b.sequences e).1) is passes reply left

-- ---- a report that is refused

module _ (b : Book) (name : List ℕ) (new : Report) (source : List ℕ) (fault : SupFault) (why : Refusal) (k : IsSupRefusal source fault why) where
  bad_refused : (bad : Option ℕ) (o : rules.Outcome) → bad_fault bad ≡ Some fault → unless (steps.report_fault bad) b o ≡ rules.refused b why
  bad_refused None o is = absurd (cc)
  bad_refused (Some partition) o is = ap (λ (w : Refusal). rules.refused b w) (sym (why_is (Faults.BadRange partition) fault source why is k))

  refused_as : (st : SeqState) (begin : Bool) (u : SequenceRow) → or_fault (state_fault st begin) (cond (same_state st States.Closed) None (bad_fault (first_bad u.starts new.offsets))) ≡ Some fault
      → report_as st begin b name new u ≡ rules.refused b why
  refused_as States.Reading false u is = ap (λ (w : Refusal). rules.refused b w) (sym (why_is (Faults.State States.Reading) fault source why is k))
  refused_as States.Reading true u is = bad_refused (first_bad u.starts new.offsets) (rules.changed (record b { sequences = map (reported name new b.clock) b.sequences }) (row_reply true (reported name new b.clock u))) is
  refused_as States.Paused begin u is = bad_refused (first_bad u.starts new.offsets) (rules.changed (record b { sequences = map (reported name new b.clock) b.sequences }) (row_reply begin (reported name new b.clock u))) is
  refused_as States.Closed begin u is = absurd (cc)
  refused_as States.Published begin u is = ap (λ (w : Refusal). rules.refused b w) (sym (why_is (Faults.State States.Published) fault source why is k))
  refused_as States.Abandoned begin u is = ap (λ (w : Refusal). rules.refused b w) (sym (why_is (Faults.State States.Abandoned) fault source why is k))

  refused_by : (o : Option SequenceRow) (begin : Bool) → told_fault begin o new.offsets ≡ Some fault → report_by o begin b name new ≡ rules.refused b why
  refused_by None begin is = ap (λ (w : Refusal). rules.refused b w) (sym (why_is Faults.NoSequence fault source why is k))
  refused_by (Some u) begin is = refused_as u.state begin u is

pub report_refused : (begin : Bool) (b : Book) (t : TaskRow) (offsets : List Offset) (fault : SupFault) (why : Refusal) → (fault ≡ Faults.OutOfMemory) ⊎ (told_fault begin (sequence_named t.group b.sequences) offsets ≡ Some fault)
    → IsSupRefusal t.source fault why → report_step begin b offsets t ≡ rules.refused b why
report_refused begin b t offsets fault why is k =
    refused_by b t.group (record { task = t.task; offsets = offsets }) t.source fault why k (sequence_named t.group b.sequences) begin (fault_is (told_fault begin (sequence_named t.group b.sequences) offsets) t.source fault why is k)

-- ---- a report, whatever comes of it

abbrev sup_rows : Book → SupRows
sup_rows b = record { supervisors = b.supervisors; sequences = b.sequences }

abbrev with_rows : SupRows → Book → Book
with_rows rows b = record b { supervisors = rows.supervisors; sequences = rows.sequences }

module _ {E : Type 0} (begin : Bool) (b : Book) (t : TaskRow) (offsets : List Offset) (rows : SupRows) where
  pub report_comes : (made : Result Reported SupFault) (r : Result Outcome E) → IfOk made (λ _. told_fault begin (sequence_named t.group b.sequences) offsets ≡ None)
      → IfOk made (λ reply. told_reply (sequence_named t.group b.sequences) (record { task = t.task; offsets = offsets }) b.clock ≡ Some reply)
      → OnOk made (rows ≡ record (sup_rows b) { sequences = rows_after (sequence_named t.group b.sequences) t.group (record { task = t.task; offsets = offsets }) b.clock b.sequences })
      → IfErr made (λ why. (why ≡ Faults.OutOfMemory) ⊎ (told_fault begin (sequence_named t.group b.sequences) offsets ≡ Some why)) → OnErr made (rows ≡ sup_rows b)
      → IfOk r (λ o. IsTold begin made t.source o) → IfOk r (λ o. IsDone o (with_rows rows b) (report_step begin b offsets t))
  report_comes made (Err e) passes reply left refused same is = tt
  report_comes (Ok m) (Ok o) passes reply left refused same is = report_done begin b t offsets m o (with_rows rows b) is passes reply (ap (λ (x : SupRows). with_rows x b) left)
  report_comes (Err fault) (Ok o) passes reply left refused same is =
      let rule : report_step begin b offsets t ≡ rules.refused b is.0 = report_refused begin b t offsets fault is.0 refused is.1 in
      subst (λ (x : SupRows). IsDone o (with_rows x b) (report_step begin b offsets t)) (sym same)
      (subst (λ (x : rules.Outcome). IsDone o b x) (sym rule) (refusal_done o b is.0 is.2))
