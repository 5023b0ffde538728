-- Every command that keeps its form keeps what the replicas have reported, and the ids of compactions.
use Rattle.std.proofs.Common.{◌≡◌, ℕ, ℤ, zero, suc, Bool, true, false, cond, not, ◌&&◌, List, [], ◌∷◌, ◌++◌, map, Some, None, Option, refl, sym, ◌∙◌, subst, inl, inr, ◌⊎◌, length, nat_le}
use Rattle.std.specs.List.{AllByRecursion, list_all, range_with_len}
use Rattle.std.proofs.lemmas.Bool.{and_parts, false≢true, not-true}
use Rattle.seg_names.specs.Names.{is_name}
use Rattle.book_rows.specs.Answer.{book_after, empty_book, next}
use Rattle.book_rows.specs.Form.{KeepsForm, is_submit_text, is_want, keeps_form, priority_limit}
use Rattle.book_rows.specs.Lists.{In, at_place}
use Rattle.book_rows.specs.Locks.{left_all_locks, locks_of}
use Rattle.book_rows.specs.Names.{begins_with, compact_name, compact_prefix, replica_name, sequence_name}
use Rattle.book_rows.specs.Publications.{ranges_fault}
use Rattle.book_rows.specs.PublishSteps.{offsets_reset, reads_stream, sequences_dropped}
use Rattle.book_rows.specs.Reports.{ended, first_bad}
use Rattle.book_rows.specs.Sequences.{dropped_sequence, first_open, is_closed, is_found, is_named, name_of, passes_by, published, reaches, sequence_named, supervisor_of, tasks_dropped, tells}
use Rattle.book_rows.specs.SupSteps.{after_tick, with_tasks}
use Rattle.book_rows.specs.TaskSteps.{after_end, all_failed, status_set, waiting_row, with_status}
use Rattle.book_rows.specs.Ticks.{Ticking, opened_row, replica_row, stopped, ticked}
use Rattle.book_rows.specs.declared.commands.Command.{Command}
use Rattle.book_rows.specs.declared.commands.Command.TheVariants as Commands
use Rattle.book_rows.specs.declared.kinds.TaskKind.{TaskKind}
use Rattle.book_rows.specs.declared.kinds.TaskStatus.{TaskStatus}
use Rattle.book_rows.specs.declared.kinds.TaskStatus.TheVariants as Statuses
use Rattle.book_rows.specs.declared.rows.Book.{Book}
use Rattle.book_rows.specs.declared.rows.Offset.{Offset}
use Rattle.book_rows.specs.declared.rows.Ranges.{Ranges}
use Rattle.book_rows.specs.declared.rows.SequenceRow.{SequenceRow}
use Rattle.book_rows.specs.declared.rows.TaskRow.{TaskRow}
use Rattle.book_rows.specs.declared.rows.Want.{Want}
use Rattle.laws_locks.proofs.Lists.{In-all, found_In}
use Rattle.laws_locks.proofs.Reaching.{place_In}
use Rattle.laws_offsets.proofs.Lists.{same_text, some_is, text_same}
use Rattle.laws_sequences.specs.Links.{AreOwn, HasLinks}
use Rattle.laws_sequences.specs.ReportLaws.{AreCompactions, AreTold, CommandsKeepReports, HasReports, ReportsStay, SoundHasReports}
use Rattle.laws_sequences.proofs.Abandoned.{dropped_published}
use Rattle.laws_sequences.proofs.CommittedRows.{no_fault}
use Rattle.laws_sequences.proofs.EachCommand.{links_kept}
use Rattle.laws_sequences.proofs.EachStep.{KeepsSteps, each_keeps, managed_keeps}
use Rattle.laws_sequences.proofs.EachTick.{KeepsTicking, ticked_keeps}
use Rattle.laws_sequences.proofs.Filters.{all_append}
use Rattle.laws_sequences.proofs.KeptLinks.{keeps_stopped}
use Rattle.laws_sequences.proofs.Lines.{all_failed_keeps, left_keeps}
use Rattle.laws_sequences.proofs.Numbers.{name_is_one, named_is}
use Rattle.laws_sequences.proofs.Reaching.{empty_links}
use Rattle.laws_sequences.proofs.RuleParts.{all_reported}
use Rattle.laws_sequences.proofs.ToldRows.{are_told_map, are_told_push, none_bad, told_abandoned, told_ended, told_more, told_published, told_reported, told_set}

-- ---- ids of compactions

place_map : {X Y : Type 0} (f : X → Y) (k : ℕ) (xs : List X) (y : Y) → at_place k (map f xs) ≡ Some y → (x : X) × (at_place k xs ≡ Some x) × (y ≡ f x)
place_map f k [] y e = cc
place_map f zero (x ∷ xs) y e = (x, refl, sym (some_is (f x) y e))
place_map f (suc k) (x ∷ xs) y e = place_map f k xs y e

place_append : {X : Type 0} (k : ℕ) (xs ys : List X) (y : X) → at_place k (xs ++ ys) ≡ Some y → (at_place k xs ≡ Some y) ⊎ In y ys
place_append k [] ys y e = inr (place_In k y ys e)
place_append zero (x ∷ xs) ys y e = inl e
place_append (suc k) (x ∷ xs) ys y e = place_append k xs ys y e

compactions_set : (task : List ℕ) (status : TaskStatus) (ts : List TaskRow) → AreCompactions ts → AreCompactions (map (status_set task status) ts)
compactions_set task status ts h k t e c =
    let from = place_map (status_set task status) k ts t e in
    subst (λ (x : TaskRow). x.task ≡ compact_name x.source k) (sym from.2) (h k from.0 from.1 (subst (λ (x : TaskRow). begins_with compact_prefix x.task ≡ true) from.2 c))

compactions_more : (rows ts : List TaskRow) → AllByRecursion (λ t. begins_with compact_prefix t.task ≡ false) rows → AreCompactions ts → AreCompactions (ts ++ rows)
compactions_more rows ts none h k t e c = elim (place_append k ts rows t e) [
  | inl before ↦ h k t before c
  | inr new ↦ absurd (false≢true (sym (In-all (λ (u : TaskRow). begins_with compact_prefix u.task ≡ false) t rows new none) ∙ c))
]

-- a task that is submitted isn't named as one
submitted_name : (task group source : List ℕ) (kind : TaskKind) (priority : ℕ) (locks : List Want) → KeepsForm (Commands.Submit task group source kind priority locks) → begins_with compact_prefix task ≡ false
submitted_name task group source kind priority locks form =
    let wants = and_parts _ (list_all is_want locks) form in
    let count = and_parts _ (nat_le (length locks) 64) wants.0 in
    let high = and_parts _ (nat_le priority priority_limit) count.0 in
    let named = and_parts _ (is_name source) high.0 in
    let texts = and_parts (is_submit_text task) (is_submit_text group) named.0 in
    not-true (begins_with compact_prefix task) (and_parts _ (not (begins_with compact_prefix task)) texts.0).1

replicas_apart : (u : SequenceRow) (source : List ℕ) (group index : ℕ) (ns : List ℕ) → AllByRecursion (λ t. begins_with compact_prefix t.task ≡ false) (map (replica_row u) (map (replica_name (sequence_name source group index)) ns))
replicas_apart u source group index [] = tt
replicas_apart u source group index (n ∷ ns) = (refl, replicas_apart u source group index ns)

-- ---- tasks

set_reports : (task : List ℕ) (status : TaskStatus) (b : Book) → HasReports b → HasReports (with_status task status b)
set_reports task status b h = record { told = told_set task status b.tasks b.sequences h.told; compactions = compactions_set task status b.tasks h.compactions }

fail_reports : (tasks : List (List ℕ)) (b : Book) → HasReports b → HasReports (all_failed tasks b)
fail_reports tasks b h = all_failed_keeps HasReports (λ n task c k. k) (λ task c k. set_reports task Statuses.Failed c k) tasks b h

more_reports : (rows : List TaskRow) (b : Book) → AllByRecursion (λ t. begins_with compact_prefix t.task ≡ false) rows → HasReports b → HasReports (with_tasks rows b)
more_reports rows b none h = record { told = told_more rows b.tasks b.sequences h.told; compactions = compactions_more rows b.tasks none h.compactions }

-- ---- end

end_reports : (b : Book) (t : TaskRow) (status : TaskStatus) → HasReports b → HasReports (after_end t status b)
end_reports b t status h =
    let left : Book = record (left_all_locks t.task b) { sequences = b.sequences } in
    let held : HasReports left = left_keeps (λ c. HasReports (record c { sequences = b.sequences })) (λ n task c k. k) (locks_of t.task b.posses) t.task b h in
    let set : HasReports (with_status t.task status left) = set_reports t.task status left held in
    let e = ended t.group t.task b.clock b.sequences in
    fail_reports e.tasks (record (with_status t.task status (left_all_locks t.task b)) { sequences = e.sequences })
    (record { told = told_ended (with_status t.task status left).tasks t.group t.task b.clock b.sequences set.told; compactions = set.compactions })

-- ---- reset

reset_reports : (x : Bool) (b : Book) (source stream : List ℕ) (os : List Offset) → HasReports b → HasReports (cond x (sequences_dropped source (offsets_reset source stream os b)) (offsets_reset source stream os b))
reset_reports false b source stream os h = h
reset_reports true b source stream os h =
    fail_reports (tasks_dropped source b.sequences) (record (offsets_reset source stream os b) { sequences = map (dropped_sequence source) b.sequences })
    (record { told = are_told_map b.tasks (dropped_sequence source) (record { published = dropped_published source; reports = λ u. refl }) b.sequences h.told; compactions = h.compactions })

-- ---- tick

ticking_told : (b : Book) (now : ℤ) (ts : List TaskRow) → KeepsTicking b.offsets now (λ k. AreTold ts k.rows)
ticking_told b now ts = record {
  late = λ s group u k h. told_abandoned ts s.source group u.index k.rows h;
  stops = λ s group k h. are_told_map ts (stopped s group now) (record { published = (keeps_stopped s group now).published; reports = λ u. refl }) k.rows h;
  opening = λ s group k h. are_told_push ts k.rows (opened_row b.offsets s group now k.rows) refl refl h;
}

ticking_apart : (b : Book) (now : ℤ) → KeepsTicking b.offsets now (λ k. AllByRecursion (λ t. begins_with compact_prefix t.task ≡ false) k.told.submitted)
ticking_apart b now = record {
  late = λ s group u k h. h;
  stops = λ s group k h. h;
  opening = λ s group k h. (
      let u = opened_row b.offsets s group now k.rows in
      all_append _ k.told.submitted (map (replica_row u) u.live) h (replicas_apart u s.source group u.index (range_with_len 0 s.replicas)));
}

tick_reports : (b : Book) (now : ℤ) → HasReports b → HasReports (after_tick (ticked b.offsets now b.supervisors b.sequences) now b)
tick_reports b now h =
    let k : Ticking = ticked b.offsets now b.supervisors b.sequences in
    let start : Book = record b { clock = now; sequences = k.rows } in
    let first : HasReports start = record { told = ticked_keeps b.offsets now (λ k. AreTold b.tasks k.rows) (ticking_told b now b.tasks) b.supervisors b.sequences h.told; compactions = h.compactions } in
    more_reports k.told.submitted (all_failed k.told.ended start)
    (ticked_keeps b.offsets now (λ k. AllByRecursion (λ t. begins_with compact_prefix t.task ≡ false) k.told.submitted) (ticking_apart b now) b.supervisors b.sequences tt) (fail_reports k.told.ended start first)

-- ---- the sequence of a task

module _ (b : Book) (links : HasLinks b) (t : TaskRow) where
  -- where its publish is let through, its ends reach its starts
  turn_reaches : (ranges : Option Ranges) → ranges_fault b t ranges ≡ None → (u : SequenceRow) → In u b.sequences → is_named t.group u ≡ true → reaches u.starts u.ends ≡ true
  turn_reaches ranges e u i named =
      let group : t.group ≡ name_of u = sym (same_text (name_of u) t.group named) in
      let passed : passes_by (Some u) (supervisor_of t.source b.supervisors) b.sequences ranges ≡ true =
      subst (λ o. passes_by o (supervisor_of t.source b.supervisors) b.sequences ranges ≡ true) (named_is b links u t.group i group) (no_fault b t ranges e).0 in
      let turn = (and_parts (is_found (first_open u.source u.group b.sequences) u && is_closed u) (tells (supervisor_of t.source b.supervisors) u ranges) passed).0 in
      let closed = (and_parts (is_found (first_open u.source u.group b.sequences) u) (is_closed u) turn).1 in
      let s = links.supervised.each u i in
      (In-all _ u b.sequences i (In-all (λ v. AreOwn v b.sequences) s.supervisor b.supervisors s.among links.linked.own) (text_same u.source s.supervisor.source (sym s.source_is))).ends closed

  -- where its report is kept, its offsets reach the starts
  report_reaches : (offsets : List Offset) (u : SequenceRow) → sequence_named t.group b.sequences ≡ Some u → first_bad u.starts offsets ≡ None → (v : SequenceRow) → In v b.sequences → is_named t.group v ≡ true → reaches v.starts offsets ≡ true
  report_reaches offsets u e fits v i named =
      let found = found_In (is_named t.group) u b.sequences e in
      let same : u ≡ v = name_is_one b links u v found.0 i (subst (λ name. is_named name v ≡ true) (sym (same_text (name_of u) t.group found.1)) named) in
      subst (λ (x : SequenceRow). reaches x.starts offsets ≡ true) same (none_bad u.starts offsets fits)

  publish_reports : (ranges : Option Ranges) → ranges_fault b t ranges ≡ None → HasReports b → AreTold b.tasks (map (published t.group) b.sequences)
  publish_reports ranges e h = told_published t.group b.tasks b.sequences (turn_reaches ranges e) h.told

-- ---- any command

abbrev pub Both : Book → Type 0
Both b = HasLinks b × HasReports b

pub both_kept : KeepsSteps KeepsForm Both
both_kept = record {
  submits = λ b task group source kind priority locks form new h. (
    links_kept.submits b task group source kind priority locks form new h.0,
    more_reports (waiting_row task group source kind priority locks ∷ []) b (submitted_name task group source kind priority locks form, tt) h.1,
  );
  manages = λ b now h. (links_kept.manages b now h.0, managed_keeps HasReports (λ b now h. h) (λ b task g h. h) (λ b task h. set_reports task Statuses.Running b h) b now h.1);
  grants = λ b task g h. h;
  leaves = λ b lock task h. h;
  joins = λ b now qs h. h;
  allots = λ b n h. h;
  appends = λ b t given i fault h. (links_kept.appends b t given i fault h.0, record { told = publish_reports b h.0 t given.ranges fault h.1; compactions = h.1.compactions });
  inserts = λ b t xs given i fault h. (links_kept.inserts b t xs given i fault h.0, record { told = publish_reports b h.0 t given.ranges fault h.1; compactions = h.1.compactions });
  replaces = λ b t xs given i fault h. (links_kept.replaces b t xs given i fault h.0, record { told = publish_reports b h.0 t given.ranges fault h.1; compactions = h.1.compactions });
  drops = λ b source span h. (links_kept.drops b source span h.0, h.1);
  resets = λ b source stream os h. (links_kept.resets b source stream os h.0, reset_reports (reads_stream (supervisor_of source b.supervisors) stream) b source stream os h.1);
  ends = λ b task t status form i h. (links_kept.ends b task t status form i h.0, end_reports b t status h.1);
  reports = λ b t offsets u i found fits h. (
    links_kept.reports b t offsets u i found fits h.0,
    record { told = told_reported b.tasks b.sequences t offsets i b.clock (report_reaches b h.0 t offsets u found fits) h.1.told; compactions = h.1.compactions },
  );
  supervises = λ b source stream partitions task_count replicas duration timeout form none room h. (
    links_kept.supervises b source stream partitions task_count replicas duration timeout form none room h.0,
    h.1,
  );
  ticks = λ b now room h. (links_kept.ticks b now room h.0, tick_reports b now h.1);
}

both_next : (b : Book) (c : Command) → KeepsForm c → Both b → Both (next b c)
both_next = each_keeps KeepsForm Both both_kept

pub commands_keep_reports : CommandsKeepReports
commands_keep_reports b c form links h = (both_next b c form (links, h)).1

pub empty_reports : HasReports empty_book
empty_reports = record { told = record { told = tt; reporters = λ u r i j. absurd i }; compactions = λ k t e c. cc }

both_after : (cs : List Command) (b : Book) → list_all keeps_form cs ≡ true → Both b → Both (book_after b cs)
both_after [] b forms h = h
both_after (c ∷ cs) b forms h =
    let form = and_parts (keeps_form c) (list_all keeps_form cs) forms in
    both_after cs (next b c) form.1 (both_next b c form.0 h)

pub reports_stay : ReportsStay
reports_stay cs forms = (both_after cs empty_book forms (empty_links, empty_reports)).1

pub sound_has_reports : SoundHasReports
sound_has_reports b sound = all_reported b sound.sequences
