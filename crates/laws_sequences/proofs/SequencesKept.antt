-- Every command that keeps its form keeps the rule on supervisors' sequences.
use Rattle.std.proofs.Common.{◌≡◌, ℕ, ℤ, Bool, true, false, cond, List, [], ◌∷◌, ◌++◌, map, filter, Some, None, Option, Result, Ok, Err, refl, sym, ◌∙◌, ap, subst, inl, inr, bytes_eq, length, nat_le}
use Rattle.std.specs.List.{AllByRecursion, list_all}
use Rattle.std.proofs.lemmas.Bool.{and_from, and_parts, cases_Bool, false≢true, or_parts}
use Rattle.std.proofs.lemmas.List.{append-nil}
use Rattle.seg_names.specs.Names.{is_name, is_task_id}
use Rattle.book_rows.specs.Answer.{book_after, empty_book, next}
use Rattle.book_rows.specs.Form.{KeepsForm, is_submit_text, is_want, keeps_form, priority_limit}
use Rattle.book_rows.specs.Grant.{book_granted, counters_at, grant_all, moment}
use Rattle.book_rows.specs.Kinds.{has_ended, is_unpublished, same_status}
use Rattle.book_rows.specs.Lists.{In}
use Rattle.book_rows.specs.Locks.{left_all_locks, locks_of}
use Rattle.book_rows.specs.Names.{begins_with, sup_prefix}
use Rattle.book_rows.specs.Outcome.{no_room}
use Rattle.book_rows.specs.PublishSteps.{offsets_reset, reads_stream, sequences_dropped}
use Rattle.book_rows.specs.Reports.{ended, reported}
use Rattle.book_rows.specs.SequenceRules.{AreSequencesSound, HasLive, is_sup_task}
use Rattle.book_rows.specs.Sequences.{dropped_sequence, is_dropped_by, is_named, name_of, published, supervisor_of, tasks_dropped}
use Rattle.book_rows.specs.Shape.{is_task_row, same_task}
use Rattle.book_rows.specs.SupSteps.{after_tick}
use Rattle.book_rows.specs.TaskSteps.{Managed, after_end, all_failed, is_waiting, managed, managed_all, managed_by, managed_one, started_by, status_set, waiting_row, with_status}
use Rattle.book_rows.specs.Ticks.{Ticking, ticked}
use Rattle.book_rows.specs.declared.answers.Granted.{Granted}
use Rattle.book_rows.specs.declared.commands.Command.{Command}
use Rattle.book_rows.specs.declared.commands.Command.TheVariants as Commands
use Rattle.book_rows.specs.declared.kinds.SeqState.{SeqState}
use Rattle.book_rows.specs.declared.kinds.SeqState.TheVariants as States
use Rattle.book_rows.specs.declared.kinds.Table.{Table}
use Rattle.book_rows.specs.declared.kinds.Table.TheVariants as Tables
use Rattle.book_rows.specs.declared.kinds.TaskKind.{TaskKind}
use Rattle.book_rows.specs.declared.kinds.TaskStatus.{TaskStatus}
use Rattle.book_rows.specs.declared.kinds.TaskStatus.TheVariants as Statuses
use Rattle.book_rows.specs.declared.replies.Refusal.{Refusal}
use Rattle.book_rows.specs.declared.rows.Book.{Book}
use Rattle.book_rows.specs.declared.rows.Offset.{Offset}
use Rattle.book_rows.specs.declared.rows.Report.{Report}
use Rattle.book_rows.specs.declared.rows.SequenceRow.{SequenceRow}
use Rattle.book_rows.specs.declared.rows.TaskRow.{TaskRow}
use Rattle.book_rows.specs.declared.rows.Want.{Want}
use Rattle.laws_locks.specs.LockShape.{AreTaskRows}
use Rattle.laws_locks.proofs.Lists.{In-filter, In-map, all_from_In, all_weaker, none_found, pair_of}
use Rattle.laws_locks.proofs.Submitting.{submit_text_is_id}
use Rattle.laws_locks.proofs.TaskRows.{task_rows_push, task_rows_set}
use Rattle.laws_locks.proofs.Ticking.{followed, tasks_left}
use Rattle.laws_offsets.proofs.Lists.{same_text, text_same}
use Rattle.laws_sequences.specs.Links.{HasLinks}
use Rattle.laws_sequences.specs.SoundLaws.{AreLives, CommandsKeepSequences, HasLives, HasTables, SequencesStaySound, SoundKeepsSequences}
use Rattle.laws_sequences.proofs.EachCommand.{submit_texts}
use Rattle.laws_sequences.proofs.EachStep.{KeepsSteps, each_keeps}
use Rattle.laws_sequences.proofs.KeptLinks.{keeps_reported}
use Rattle.laws_sequences.proofs.LiveRows.{fail_rows, live_append, live_failed, live_ids, live_none, live_runs, rows_failed}
use Rattle.laws_sequences.proofs.LiveSteps.{HaveNames, hit_live, lives_ended, lives_failed, lives_map, sequences_stay}
use Rattle.laws_sequences.proofs.LiveTick.{Lives, lives_ticked}
use Rattle.laws_sequences.proofs.Numbers.{name_is_one}
use Rattle.laws_sequences.proofs.Reaching.{empty_links}
use Rattle.laws_sequences.proofs.ReportsKept.{Both, both_kept, empty_reports}
use Rattle.laws_sequences.proofs.RuleParts.{all_linked, all_published, all_reported, rule_from}
use Rattle.laws_sequences.proofs.TickWalk.{walk_start, walk_ticked}
use Rattle.laws_sequences.proofs.TickedIds.{sound_has_own_ids}

links_names : (b : Book) → HasLinks b → HaveNames b.sequences
links_names b h u v i j e = name_is_one b h u v i j (text_same (name_of v) (name_of u) (sym e))

-- ---- submit

submit_row : (task group source : List ℕ) (kind : TaskKind) (priority : ℕ) (locks : List Want) → KeepsForm (Commands.Submit task group source kind priority locks) → is_task_row (waiting_row task group source kind priority locks) ≡ true
submit_row task group source kind priority locks form =
    let wants = and_parts _ (list_all is_want locks) form in
    let count = and_parts _ (nat_le (length locks) 64) wants.0 in
    let high = and_parts _ (nat_le priority priority_limit) count.0 in
    let named = and_parts _ (is_name source) high.0 in
    let texts = and_parts (is_submit_text task) (is_submit_text group) named.0 in
    and_from _ _ (and_from _ _ (and_from _ _ (and_from _ _ (and_from (is_task_id task) (is_task_id group) (submit_text_is_id task texts.0) (submit_text_is_id group texts.1)) named.1) high.1) count.1) wants.1

submit_lives : (b : Book) (row : TaskRow) → is_task_row row ≡ true → is_sup_task row ≡ false → AllByRecursion (λ t. bytes_eq t.task row.task ≡ false) b.tasks → HasLives b → HasLives (record b { tasks = b.tasks ++ row ∷ [] })
submit_lives b row fits own new h = record { tasks = task_rows_push b.tasks row h.tasks fits new; live = λ u i. more u (h.live u i) } where
  away : (u : SequenceRow) → bytes_eq row.group (name_of u) ≡ false
  away u = elim (cases_Bool (bytes_eq row.group (name_of u))) [
    | inr off ↦ off
    | inl on ↦ absurd (false≢true (sym (or_parts (begins_with sup_prefix row.task) (begins_with sup_prefix row.group) own).1 ∙ rw (same_text row.group (name_of u) on) refl))
  ]

  more : (u : SequenceRow) → HasLive b.tasks u → HasLive (b.tasks ++ row ∷ []) u
  more u old = record {
    live = old.live ∙ sym (live_append u b.tasks (row ∷ []) ∙ ap (λ ids. live_ids u b.tasks ++ ids) (live_none u (row ∷ []) (away u, tt)) ∙ append-nil (live_ids u b.tasks));
    some = old.some;
  }

-- ---- manage

-- no task of this id has ended
abbrev NotEnded : List ℕ → List TaskRow → Type 0
NotEnded task ts = (u : TaskRow) → In u ts → bytes_eq u.task task ≡ true → has_ended u.status ≡ false

run_lives : (b : Book) (task : List ℕ) → NotEnded task b.tasks → HasLives b → HasLives (with_status task Statuses.Running b)
run_lives b task none h = record {
  tasks = task_rows_set task Statuses.Running b.tasks h.tasks;
  live = λ u i. record { live = (h.live u i).live ∙ sym (live_runs u task Statuses.Running b.tasks (all_from_In _ b.tasks (λ t j e. none t j e))); some = (h.live u i).some };
}

run_not_ended : (task other : List ℕ) (ts : List TaskRow) → NotEnded other ts → NotEnded other (map (status_set task Statuses.Running) ts)
run_not_ended task other ts none u i e =
    let from = In-map (status_set task Statuses.Running) u ts i in
    subst (λ (x : TaskRow). has_ended x.status ≡ false) (sym from.2) (by_task (bytes_eq from.0.task task) from.0.status (none from.0 from.1 (subst (λ (x : TaskRow). bytes_eq x.task other ≡ true) from.2 e))) where
      by_task : (b : Bool) (s : TaskStatus) → has_ended s ≡ false → has_ended (cond b Statuses.Running s) ≡ false
      by_task true s h = refl
      by_task false s h = h

record Manages (ts : List TaskRow) (b : Book) : Type 0 where
  lives : HasLives b
  waits : AllByRecursion (λ t. NotEnded t.task b.tasks) ts

started_lives : (o : Option Table) (t : TaskRow) (after : Book) (m : Managed) (ts : List TaskRow) → Manages ts m.book → Manages ts after → Manages ts (started_by o t after m).book
started_lives (Some table) t after m ts h k = h
started_lives None t after m ts h k = k

managed_lives : (r : Result Granted Refusal) (t : TaskRow) (m : Managed) (ts : List TaskRow) → NotEnded t.task m.book.tasks → Manages ts m.book → Manages ts (managed_by r t m).book
managed_lives (Err why) t m ts none h = h
managed_lives (Ok g) t m ts none h =
    let after : Book = with_status t.task Statuses.Running (book_granted m.book t.task g) in
    started_lives (no_room (Tables.Locks ∷ Tables.Numbers ∷ []) after) t after m ts h
    (record { lives = run_lives (book_granted m.book t.task g) t.task none h.lives; waits = all_weaker _ _ (λ x n. run_not_ended t.task x.task m.book.tasks n) ts h.waits })

each_lives : (now : ℤ) (ts : List TaskRow) (m : Managed) → Manages ts m.book → HasLives (managed_all now ts m).book
each_lives now [] m h = h.lives
each_lives now (t ∷ ts) m h = each_lives now ts (managed_one now t m) (managed_lives (grant_all m.book.posses (counters_at m.book now) t t.wants) t m ts h.waits.0 (record { lives = h.lives; waits = h.waits.1 }))

waiting_not_ended : (s : TaskStatus) → same_status s Statuses.Waiting ≡ true → has_ended s ≡ false
waiting_not_ended Statuses.Waiting e = refl
waiting_not_ended Statuses.Running e = refl
waiting_not_ended Statuses.Success e = absurd (false≢true e)
waiting_not_ended Statuses.Failed e = absurd (false≢true e)

manage_lives : (b : Book) (now : ℤ) → HasLives b → HasLives (managed b now).book
manage_lives b now h = each_lives now (filter is_waiting b.tasks) (record { book = record b { clock = moment b now }; running = []; waiting = [] }) (record { lives = h; waits = all_from_In _ (filter is_waiting b.tasks) (λ t i. waits t (In-filter is_waiting t b.tasks i)) }) where
  waits : (t : TaskRow) → In t b.tasks × (is_waiting t ≡ true) → NotEnded t.task b.tasks
  waits t both u j e = elim (pair_of (λ (x y : TaskRow). same_task x y ≡ false) u t b.tasks h.tasks.keys j both.0) [
    | inl same ↦ subst (λ (x : TaskRow). has_ended x.status ≡ false) (sym same) (waiting_not_ended t.status both.1)
    | inr (inl off) ↦ absurd (false≢true (sym off ∙ e))
    | inr (inr off) ↦ absurd (false≢true (sym off ∙ text_same t.task u.task (sym (same_text u.task t.task e))))
  ]

-- ---- end

end_lives : (b : Book) (t : TaskRow) (status : TaskStatus) → HasLinks b → has_ended status ≡ true → In t b.tasks → HasLives b → HasLives (after_end t status b)
end_lives b t status links ends i h =
    let e = ended t.group t.task b.clock b.sequences in
    let start : Book = record (with_status t.task status (left_all_locks t.task b)) { sequences = e.sequences } in
    let stay = tasks_left (locks_of t.task b.posses) t.task b in
    lives_failed e.tasks start (subst (λ ts. AreTaskRows (map (status_set t.task status) ts)) (sym stay) (task_rows_set t.task status b.tasks h.tasks))
    (λ u j. subst (λ ts. HasLive (fail_rows e.tasks (map (status_set t.task status) ts)) u) (sym stay) (lives_ended b.tasks b.sequences t status h.tasks (links_names b links) h.live i ends b.clock u j))

-- ---- reset

reset_lives : (x : Bool) (b : Book) (source stream : List ℕ) (os : List Offset) → HasLinks b → HasLives b → HasLives (cond x (sequences_dropped source (offsets_reset source stream os b)) (offsets_reset source stream os b))
reset_lives false b source stream os links h = h
reset_lives true b source stream os links h =
    lives_failed (tasks_dropped source b.sequences) (record (offsets_reset source stream os b) { sequences = map (dropped_sequence source) b.sequences }) h.tasks
    (λ w i. hit_live b.tasks b.sequences h.tasks.keys (links_names b links) (λ u j. (h.live u j).live) (is_dropped_by source) w i (λ u j off p. (h.live u j).some p))

-- ---- tick

rows_followed : (tasks : List (List ℕ)) (ts rows : List TaskRow) → AreTaskRows (ts ++ rows) → AreTaskRows (fail_rows tasks ts ++ rows)
rows_followed [] ts rows h = h
rows_followed (task ∷ rest) ts rows h = rows_followed rest (map (status_set task Statuses.Failed) ts) rows (followed task Statuses.Failed rows ts h)

tick_lives : (b : Book) (now : ℤ) → HasLinks b → HasLives b → HasLives (after_tick (ticked b.offsets now b.supervisors b.sequences) now b)
tick_lives b now links h =
    let k : Ticking = ticked b.offsets now b.supervisors b.sequences in
    let start : Book = record b { clock = now; sequences = k.rows } in
    let walked = walk_ticked b.offsets now b.tasks b.publications b.sequences b.supervisors links.supervisors links.supervised.room links.replicas links.linked.counted links.supervised.each in
    let first = walk_start b.offsets now b.tasks b.publications b.sequences b.supervisors links.supervisors links.supervised.room links.replicas links.linked.counted links.supervised.each in
    let lives = lives_ticked b.offsets now b.tasks b.publications b.sequences b.supervisors links.supervisors h.tasks.keys first h.live in
    subst (λ ts. AreLives (ts ++ k.told.submitted) (all_failed k.told.ended start).sequences) (sym (rows_failed k.told.ended start))
    (subst (λ us. AreLives (fail_rows k.told.ended b.tasks ++ k.told.submitted) us) (sym (sequences_stay k.told.ended start))
    (at_rows k (rows_followed k.told.ended b.tasks k.told.submitted (walked.tasks h.tasks)) lives)) where
      at_rows : (k : Ticking) → AreTaskRows (fail_rows k.told.ended b.tasks ++ k.told.submitted) → Lives b.tasks k → AreLives (fail_rows k.told.ended b.tasks ++ k.told.submitted) k.rows
      at_rows k rows l = record {
        tasks = rows;
        live = λ u i. record {
          live = l.listed u i ∙ ap (λ ids. ids ++ live_ids u k.told.submitted) (sym (live_failed u k.told.ended b.tasks)) ∙ sym (live_append u (fail_rows k.told.ended b.tasks) k.told.submitted);
          some = l.some u i;
        };
      }

-- ---- publishing and reporting leave the live replicas

publish_lives : (name : List ℕ) (ts : List TaskRow) (us : List SequenceRow) → AreLives ts us → AreLives ts (map (published name) us)
publish_lives name ts us h = lives_map (published name) (λ u. refl) (λ u. refl) (λ u p. before (is_named name u) u.state p) ts us h where
  before : (b : Bool) (st : SeqState) → is_unpublished (cond b States.Published st) ≡ true → is_unpublished st ≡ true
  before true st p = absurd (false≢true p)
  before false st p = p

report_lives : (name : List ℕ) (new : Report) (clock : ℤ) (ts : List TaskRow) (us : List SequenceRow) → AreLives ts us → AreLives ts (map (reported name new clock) us)
report_lives name new clock ts us h = lives_map (reported name new clock) (λ u. refl) (λ u. refl) (λ u p. sym ((keeps_reported name new clock).unpublished u) ∙ p) ts us h

-- ---- any command

abbrev All : Book → Type 0
All b = Both b × HasLives b

all_kept : KeepsSteps KeepsForm All
all_kept = record {
  submits = λ b task group source kind priority locks form new h. (
    both_kept.submits b task group source kind priority locks form new h.0,
    submit_lives b (waiting_row task group source kind priority locks) (submit_row task group source kind priority locks form) (submit_texts task group source kind priority locks form) (none_found (λ (t : TaskRow). bytes_eq t.task task) b.tasks new) h.1,
  );
  manages = λ b now h. (both_kept.manages b now h.0, manage_lives b now h.1);
  grants = λ b task g h. h;
  leaves = λ b lock task h. h;
  joins = λ b now qs h. h;
  allots = λ b n h. h;
  appends = λ b t given i fault h. (both_kept.appends b t given i fault h.0, publish_lives t.group b.tasks b.sequences h.1);
  inserts = λ b t xs given i fault h. (both_kept.inserts b t xs given i fault h.0, publish_lives t.group b.tasks b.sequences h.1);
  replaces = λ b t xs given i fault h. (both_kept.replaces b t xs given i fault h.0, publish_lives t.group b.tasks b.sequences h.1);
  drops = λ b source span h. (both_kept.drops b source span h.0, h.1);
  resets = λ b source stream os h. (both_kept.resets b source stream os h.0, reset_lives (reads_stream (supervisor_of source b.supervisors) stream) b source stream os h.0.0 h.1);
  ends = λ b task t status form i h. (both_kept.ends b task t status form i h.0, end_lives b t status h.0.0 (and_parts (is_task_id task) (has_ended status) form).1 i h.1);
  reports = λ b t offsets u i found fits h. (both_kept.reports b t offsets u i found fits h.0, report_lives t.group (record { task = t.task; offsets = offsets }) b.clock b.tasks b.sequences h.1);
  supervises = λ b source stream partitions task_count replicas duration timeout form none room h. (both_kept.supervises b source stream partitions task_count replicas duration timeout form none room h.0, h.1);
  ticks = λ b now room h. (both_kept.ticks b now room h.0, tick_lives b now h.0.0 h.1);
}

all_next : (b : Book) (c : Command) → KeepsForm c → All b → All (next b c)
all_next = each_keeps KeepsForm All all_kept

all_after : (cs : List Command) (b : Book) → list_all keeps_form cs ≡ true → All b → All (book_after b cs)
all_after [] b forms h = h
all_after (c ∷ cs) b forms h =
    let form = and_parts (keeps_form c) (list_all keeps_form cs) forms in
    all_after cs (next b c) form.1 (all_next b c form.0 h)

-- ---- the rule

to_all : (b : Book) → HasTables b → AreSequencesSound b → All b
to_all b tables s = (
  (
    record {
      supervisors = tables.supervisors;
      supervised = record { room = tables.supervised.room; each = λ u i. (s.sequences u i).supervised };
      linked = all_linked b s;
      replicas = s.replicas;
      published = all_published b s;
    },
    all_reported b s,
  ),
  record { tasks = tables.tasks; live = λ u i. (s.sequences u i).live },
)

tables_of : (b : Book) → All b → HasTables b
tables_of b h = record { tasks = h.1.tasks; supervisors = h.0.0.supervisors; supervised = h.0.0.supervised }

rule_of : (b : Book) → All b → AreSequencesSound b
rule_of b h = rule_from b h.0.0.supervised.each h.0.0.linked h.0.0.replicas h.0.0.published h.0.1 h.1.live

pub commands_keep_sequences : CommandsKeepSequences
commands_keep_sequences b c form tables s = let h = all_next b c form (to_all b tables s) in (tables_of (next b c) h, rule_of (next b c) h)

pub sound_keeps_sequences : SoundKeepsSequences
sound_keeps_sequences b c form sound =
    let own = sound_has_own_ids b sound in
    (commands_keep_sequences b c form (record { tasks = record { rows = sound.shape.limits.tasks; keys = sound.shape.keys.tasks }; supervisors = own.supervisors; supervised = own.supervised }) sound.sequences).1

pub sequences_stay_sound : SequencesStaySound
sequences_stay_sound cs forms = rule_of (book_after empty_book cs) (all_after cs empty_book forms ((empty_links, empty_reports), record { tasks = record { rows = refl; keys = tt }; live = λ u i. absurd i }))
