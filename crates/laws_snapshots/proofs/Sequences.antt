-- Sequences of a sound book fit their fields.
use Rattle.std.proofs.Common.{◌≡◌, ◌≤◌, ◌==◌, ℕ, true, false, List, [], ◌∷◌, filter, map, arith, length, nat_lt, bytes_eq, refl, sym, ap, subst, ◌∙◌}
use Rattle.std.specs.List.{AllByRecursion, list_all, range_with_len}
use Rattle.std.proofs.lemmas.List.{length-map}
use Rattle.std.proofs.lemmas.Bool.{and_from, and_parts}
use Rattle.std.proofs.lemmas.Bool.Decides.{Decides-eqb}
use Rattle.std.proofs.lemmas.Slice.Eq.{bytes_eq-Decides}
use Rattle.iv_time.specs.Range.{is_instant}
use Rattle.seg_names.specs.Names.{is_name, is_task_id}
use Rattle.book_rows.specs.Form.{are_offsets}
use Rattle.book_rows.specs.Lists.{In, Pairs}
use Rattle.book_rows.specs.Outcome.{row_limit}
use Rattle.book_rows.specs.SequenceRules.{AreSequencesSound, IsSoundGroup, IsSoundSequence, IsSupervised, is_live_replica}
use Rattle.book_rows.specs.Sequences.{is_of_group}
use Rattle.book_rows.specs.Shape.{is_report, is_sequence_row, is_supervisor_row}
use Rattle.book_rows.specs.Ticks.{has_partitions, of_group}
use Rattle.book_rows.specs.declared.rows.Book.{Book}
use Rattle.book_rows.specs.declared.rows.Report.{Report}
use Rattle.book_rows.specs.declared.rows.SequenceRow.{SequenceRow}
use Rattle.book_rows.specs.declared.rows.SupervisorRow.{SupervisorRow}
use Rattle.book_rows.specs.declared.rows.TaskRow.{TaskRow}
use Rattle.laws_locks.proofs.Lists.{In-filter, In-list_all, In-map, filter_In, filter_length, map_In}
use Rattle.laws_chunks.proofs.WholeParts.{range_within}
use Rattle.snap_codec.specs.Fits.{FitsReport, FitsSequence, FitsShort, IsTask}
use Rattle.laws_snapshots.proofs.Numbers.{within, instant_fits, each_fits}
use Rattle.laws_snapshots.proofs.Counting.{texts_no_longer}
use Rattle.laws_snapshots.proofs.Rows.{offsets_fit, report_fits, supervisor_fits}

-- reports of distinct tasks have distinct names
told_once : (rs : List Report) → Pairs (λ a b. bytes_eq a.task b.task ≡ false) rs → Pairs (λ x y. bytes_eq x y ≡ false) (map (λ r. r.task) rs)
told_once [] h = tt
told_once (r ∷ rs) h = (all rs h.0, told_once rs h.1) where
  all : (qs : List Report) → AllByRecursion (λ b. bytes_eq r.task b.task ≡ false) qs → AllByRecursion (λ y. bytes_eq r.task y ≡ false) (map (λ q. q.task) qs)
  all [] k = tt
  all (q ∷ qs) k = (k.0, all qs k.1)

module _ (b : Book) (tasks : nat_lt row_limit (length b.tasks) ≡ false) (rows : nat_lt row_limit (length b.sequences) ≡ false) (supervisors : list_all is_supervisor_row b.supervisors ≡ true) (sound : AreSequencesSound b) where
  few_tasks : length b.tasks ≤ 262144
  few_tasks = within 262144 (length b.tasks) tasks

  few_rows : length b.sequences ≤ 262144
  few_rows = within 262144 (length b.sequences) rows

  module _ (u : SequenceRow) (among : In u b.sequences) where
    own : IsSoundSequence b u
    own = sound.sequences u among

    has : IsSupervised b.supervisors u
    has = own.supervised

    -- its group is one of its supervisor's
    group_short : FitsShort u.group
    group_short =
        let below = range_within u.group 0 has.supervisor.task_count (In-filter (has_partitions has.supervisor) u.group (range_with_len 0 has.supervisor.task_count) has.group_is).0 in
        let few : FitsShort has.supervisor.task_count = (supervisor_fits has.supervisor (In-list_all is_supervisor_row has.supervisor b.supervisors has.among supervisors)).1.1.1.0 in
        omega (arith, below.1, few)

    -- its index counts the rows of its group before it
    index_short : FitsShort u.index
    index_short =
        let s : SupervisorRow = has.supervisor in
        let group : IsSoundGroup b s u.group = sound.groups s has.among u.group in
        let mine : is_of_group s.source u.group u ≡ true = and_from (bytes_eq u.source s.source) (u.group == u.group) ((bytes_eq-Decides u.source s.source).1 (sym has.source_is)) ((Decides-eqb u.group u.group).1 refl) in
        let counted : In u.index (range_with_len 0 (length (of_group s u.group b.sequences))) =
        subst (λ (l : List ℕ). In u.index l) group.counted (map_In (λ (v : SequenceRow). v.index) u (of_group s u.group b.sequences) (filter_In (is_of_group s.source u.group) u b.sequences among mine)) in
        let below = range_within u.index 0 (length (of_group s u.group b.sequences)) counted in
        let fewer = filter_length (is_of_group s.source u.group) b.sequences in
        omega (arith, below.1, fewer, few_rows)

    live_short : FitsShort (length u.live)
    live_short =
        let fewer = filter_length (is_live_replica u) b.tasks in
        let all : length u.live ≡ length (filter (is_live_replica u) b.tasks) = ap length own.live.live ∙ length-map (filter (is_live_replica u) b.tasks) (λ (t : TaskRow). t.task) in
        omega (arith, all, fewer, few_tasks)

    reports_short : FitsShort (length u.reports)
    reports_short =
        let fewer = texts_no_longer (map (λ (r : Report). r.task) u.reports) (map (λ (t : TaskRow). t.task) b.tasks) (told_once u.reports own.told.once)
        (λ text i. (let w = In-map (λ (r : Report). r.task) text u.reports i in
        let task = own.reporters w.0 w.1 in
        subst (λ (x : List ℕ). In x (map (λ (t : TaskRow). t.task) b.tasks)) (task.task_is ∙ sym w.2) (map_In (λ (t : TaskRow). t.task) task.row b.tasks task.among))) in
        omega (arith, fewer, few_tasks, length-map u.reports (λ (r : Report). r.task), length-map b.tasks (λ (t : TaskRow). t.task))

    pub sequence_fits : is_sequence_row u ≡ true → FitsSequence u
    sequence_fits h =
        let reports = and_parts _ (list_all is_report u.reports) h in
        let live = and_parts _ (list_all is_task_id u.live) reports.0 in
        let ends = and_parts _ (are_offsets u.ends) live.0 in
        let starts = and_parts _ (are_offsets u.starts) ends.0 in
        let closed = and_parts _ (is_instant u.closed) starts.0 in
        let opened = and_parts (is_name u.source) (is_instant u.opened) closed.0 in (
          opened.0,
          (
            group_short,
            (
              index_short,
              (
                instant_fits u.opened opened.1,
                (
                  instant_fits u.closed closed.1,
                  (
                    offsets_fit u.starts starts.1,
                    (offsets_fit u.ends ends.1, ((live_short, each_fits is_task_id IsTask (λ t e. e) u.live live.1), (reports_short, each_fits is_report FitsReport report_fits u.reports reports.1))),
                  ),
                ),
              ),
            ),
          ),
        )
