-- What every command keeps of a book, whatever it is, where the changes that commands are made of keep it.
use Rattle.std.proofs.Common.{Bool, Err, List, None, Ok, Option, Result, Some, [], ap, bytes_eq, cond, false, is_some, length, map, not, refl, sym, true, ℕ, ℤ, ◌&&◌, ◌++◌, ◌||◌, ◌∙◌, ◌∷◌, ◌≡◌}
use Rattle.std.proofs.lemmas.Bool.{and_parts, false≢true}
use Rattle.std.specs.List.{list_all}
use Rattle.iv_span.specs.Extent.{Extent}
use Rattle.iv_time.specs.Range.{is_instant}
use Rattle.iv_time.specs.declared.granularity.Granularity.{Granularity}
use Rattle.seg_names.specs.Ids.{same_id}
use Rattle.seg_names.specs.Names.{is_name, is_task_id}
use Rattle.seg_names.specs.declared.seg_id.SegId.{SegId}
use Rattle.book_rows.specs.Allocation.{allotted, allotted_id, known_fault, known_pending, place}
use Rattle.book_rows.specs.Answer.{next}
use Rattle.book_rows.specs.Append.{after_append, append_fault}
use Rattle.book_rows.specs.Form.{KeepsForm, are_ids, are_lists, are_ranges_of, are_spans, is_few, is_id, is_optional_id, is_some_few, may_allocate}
use Rattle.book_rows.specs.Grant.{book_granted, counters_at, grant_lock, moment}
use Rattle.book_rows.specs.Ids.{id_before}
use Rattle.book_rows.specs.Lists.{In, is_empty, list_links, or_else}
use Rattle.book_rows.specs.LockSteps.{IdRequest, allocate_by, allocated, allotted_outcome, join_known, known, locked, pending_for, placed}
use Rattle.book_rows.specs.Locks.{is_member_of, joined, posse_of}
use Rattle.book_rows.specs.Offsets.{reset_to}
use Rattle.book_rows.specs.Outcome.{Outcome, changed, fitted, refused_or, repeated, task_of, unless}
use Rattle.book_rows.specs.Over.{Filling, Inserting, Replacing, Target, check_over, held_for, kind_of}
use Rattle.book_rows.specs.Publications.{Publish, appending, in_spans, publication_of, ranges_fault, repeat_of, reset_publication, without_since}
use Rattle.book_rows.specs.PublishSteps.{after_reset, append_running, asked, commit_reply, dropped, offsets_reset, over_checked, over_running, over_step, publish_step, published_or, reads_stream, reset_step, sequences_dropped, told_of}
use Rattle.book_rows.specs.Rewrite.{after_drop, after_insert, after_replace, drop_fault}
use Rattle.book_rows.specs.Sequences.{dropped_sequence, supervisor_of, tasks_dropped}
use Rattle.book_rows.specs.Shape.{AreDistinct}
use Rattle.book_rows.specs.Spans.{is_span, span_at_most}
use Rattle.book_rows.specs.SupSteps.{report_step}
use Rattle.book_rows.specs.TaskSteps.{waiting_row}
use Rattle.book_rows.specs.Ticks.{ticked}
use Rattle.book_rows.specs.declared.rows.PosseRow.{PosseRow}
use Rattle.book_rows.specs.declared.answers.GrantedLock.{GrantedLock}
use Rattle.book_rows.specs.declared.answers.NewPending.{NewPending}
use Rattle.book_rows.specs.declared.answers.Place.{Place}
use Rattle.book_rows.specs.declared.commands.Command.{Command}
use Rattle.book_rows.specs.declared.commands.Command.TheVariants as Commands
use Rattle.book_rows.specs.declared.kinds.LockKind.{LockKind}
use Rattle.book_rows.specs.declared.kinds.LockKind.TheVariants as LockKinds
use Rattle.book_rows.specs.declared.kinds.PubKind.{PubKind}
use Rattle.book_rows.specs.declared.kinds.PubKind.TheVariants as PubKinds
use Rattle.book_rows.specs.declared.kinds.Table.{Table}
use Rattle.book_rows.specs.declared.kinds.Table.TheVariants as Tables
use Rattle.book_rows.specs.declared.kinds.TaskStatus.{TaskStatus}
use Rattle.book_rows.specs.declared.replies.Refusal.{Refusal}
use Rattle.book_rows.specs.declared.replies.Reply.{Reply}
use Rattle.book_rows.specs.declared.replies.Reply.TheVariants as Replies
use Rattle.book_rows.specs.declared.rows.Book.{Book}
use Rattle.book_rows.specs.declared.rows.Offset.{Offset}
use Rattle.book_rows.specs.declared.rows.PendingRow.{PendingRow}
use Rattle.book_rows.specs.declared.rows.Publication.{Publication}
use Rattle.book_rows.specs.declared.rows.Ranges.{Ranges}
use Rattle.book_rows.specs.declared.rows.TaskRow.{TaskRow}
use Rattle.book_rows.specs.declared.rows.Want.{Want}
use Rattle.laws_locks.proofs.Rooms.{fitted_keeps, running_as_keeps, running_keeps}
use Rattle.laws_chunks.specs.Growing.{pushed}
use Rattle.laws_chunks.proofs.IdOrder.{ascending_differ}
use Rattle.laws_chunks.proofs.LockSteps.{IsKeptByLocks, all_managed, either_keeps, end_of_task_keeps, locked_keeps, report_keeps, sequences_fail, submitted_keeps, supervised_keeps, tick_keeps, unless_keeps, unlocked_keeps}
use Rattle.laws_chunks.proofs.LookUps.{find_some}

-- it stays where an id is allocated, and where something is published, each as the command's checks let it through
pub record IsKeptByPublishing (P : Book → Type 0) (b : Book) : Type 0 where
  pub pushed : (m : Publication) → m.adds ≡ [] → m.empties ≡ [] → m.spans ≡ [] → P (pushed m b)
  pub allocated : (r : IdRequest) (t : TaskRow) (x : Place) (l : GrantedLock)
      → (r.lock_kind ≡ LockKinds.Replace → ⊥) → known_pending b.pendings t.source r.sequence r.previous ≡ None → place b.segments b.pendings t.source r.at r.granularity ≡ Ok x → grant_lock b.posses (counters_at b r.now) t (record { lock_kind = r.lock_kind; span = x.span }) ≡ Ok l
      → P (allotted (pending_for t r x l) (book_granted b t.task l.granted))
  pub appended : (t : TaskRow) (ids : List SegId) (ranges : Option Ranges) → AreDistinct same_id ids → In t b.tasks → append_fault b.posses b.pendings t.task ids ≡ None → P (after_append t (appending ids ranges) b)
  pub inserted : (t : TaskRow) (given : Publish) (xs : List Target) → list_all is_span given.spans ≡ true → AreDistinct same_id given.ids → AreDistinct same_id given.tombstones
      → check_over Inserting b given t ≡ Ok xs → P (after_insert t given xs b)
  pub replaced : (t : TaskRow) (given : Publish) (xs : List Target) → list_all is_span given.spans ≡ true → AreDistinct same_id given.ids → AreDistinct same_id given.tombstones
      → check_over Replacing b given t ≡ Ok xs → P (after_replace t given xs b)
  pub dropped : (source : List ℕ) (span : Extent) → drop_fault b.posses b.segments source span ≡ None → P (after_drop source span b)

-- ---- what the form says

ids_distinct : (ids : List SegId) → are_ids ids ≡ true → AreDistinct same_id ids
ids_distinct ids h = ascending_differ ids (and_parts (is_few ids && list_all is_id ids) (list_links id_before ids) h).1

append_ids : (task : List ℕ) (ids : List SegId) (ranges : Option Ranges) → KeepsForm (Commands.Append task ids ranges) → are_ids ids ≡ true
append_ids task ids ranges form =
    let one = and_parts (is_task_id task && are_ids ids && are_ranges_of ranges) (not (is_empty ids) || is_some ranges) form in
    let two = and_parts (is_task_id task && are_ids ids) (are_ranges_of ranges) one.0 in
    (and_parts (is_task_id task) (are_ids ids) two.0).1

spans_proper : (given : Publish) → are_lists given.spans given.ids given.tombstones given.ranges ≡ true → list_all is_span given.spans ≡ true
spans_proper given h =
    let one = and_parts (are_spans given.spans && are_ids given.ids && are_ids given.tombstones && not (is_empty given.ids && is_empty given.tombstones)) (are_ranges_of given.ranges) h in
    let two = and_parts (are_spans given.spans && are_ids given.ids && are_ids given.tombstones) (not (is_empty given.ids && is_empty given.tombstones)) one.0 in
    let three = and_parts (are_spans given.spans && are_ids given.ids) (are_ids given.tombstones) two.0 in
    let four = and_parts (are_spans given.spans) (are_ids given.ids) three.0 in
    let five = and_parts (is_some_few given.spans && list_all is_span given.spans) (list_links span_at_most given.spans) four.0 in
    (and_parts (is_some_few given.spans) (list_all is_span given.spans) five.0).1

lists_distinct : (given : Publish) → are_lists given.spans given.ids given.tombstones given.ranges ≡ true → AreDistinct same_id given.ids × AreDistinct same_id given.tombstones
lists_distinct given h =
    let one = and_parts (are_spans given.spans && are_ids given.ids && are_ids given.tombstones && not (is_empty given.ids && is_empty given.tombstones)) (are_ranges_of given.ranges) h in
    let two = and_parts (are_spans given.spans && are_ids given.ids && are_ids given.tombstones) (not (is_empty given.ids && is_empty given.tombstones)) one.0 in
    let three = and_parts (are_spans given.spans && are_ids given.ids) (are_ids given.tombstones) two.0 in
    (ids_distinct given.ids (and_parts (are_spans given.spans) (are_ids given.ids) three.0).1, ids_distinct given.tombstones three.1)

allocates : (task : List ℕ) (kind : LockKind) (sequence : List ℕ) (previous : Option SegId) (at : ℤ) (granularity : Granularity) (now : ℤ) → KeepsForm (Commands.Allocate task kind sequence previous at granularity now) → kind ≡ LockKinds.Replace → ⊥
allocates task kind sequence previous at granularity now form is =
    let one = and_parts (is_task_id task && may_allocate kind && is_name sequence && is_optional_id previous && is_instant at) (is_instant now) form in
    let two = and_parts (is_task_id task && may_allocate kind && is_name sequence && is_optional_id previous) (is_instant at) one.0 in
    let three = and_parts (is_task_id task && may_allocate kind && is_name sequence) (is_optional_id previous) two.0 in
    let four = and_parts (is_task_id task && may_allocate kind) (is_name sequence) three.0 in
    false≢true (ap may_allocate (sym is) ∙ (and_parts (is_task_id task) (may_allocate kind) four.0).1)

pub task_in : (task : List ℕ) (b : Book) (t : TaskRow) → task_of task b.tasks ≡ Some t → In t b.tasks
task_in task b t e = (find_some (λ t. bytes_eq t.task task) b.tasks t e).0

pub no_first : (o p : Option Refusal) → or_else o p ≡ None → o ≡ None
no_first None p h = refl
no_first (Some why) p h = cc

module _ (P : Book → Type 0) (kept : IsKeptByLocks P) (b : Book) (h : P b) (published : IsKeptByPublishing P b) where
  -- ---- an id is allocated

  known_keeps : (r : IdRequest) (t : TaskRow) (p : PendingRow) → P (known b r t p).book
  known_keeps r t p =
      unless_keeps P (known_fault b.posses t r.lock_kind r.at p) b (join_known b r.now t.task p) h
      (λ none. either_keeps P (is_member_of (posse_of p.posse b.posses) t.task) (repeated b (Replies.Allocate p.id p.posse []))
      (changed (record b { clock = moment b r.now; posses = map (joined p.posse t.task) b.posses }) (Replies.Allocate p.id p.posse [])) h
      (kept.others (moment b r.now) b.tasks b.offsets b.supervisors b.sequences (record b { posses = map (joined p.posse t.task) b.posses }) (kept.joined p.posse t.task b h)))

  module _ (r : IdRequest) (t : TaskRow) (other : r.lock_kind ≡ LockKinds.Replace → ⊥) where
    allocated_keeps : known_pending b.pendings t.source r.sequence r.previous ≡ None → (x : Place) → place b.segments b.pendings t.source r.at r.granularity ≡ Ok x → (o : Result GrantedLock Refusal) → grant_lock b.posses (counters_at b r.now) t (record { lock_kind = r.lock_kind; span = x.span }) ≡ o
        → P (refused_or o b (λ l. allotted_outcome b t l (pending_for t r x l))).book
    allocated_keeps fresh x found (Err why) e = h
    allocated_keeps fresh x found (Ok l) e =
        let n : NewPending = pending_for t r x l in
        fitted_keeps P (Tables.Locks ∷ Tables.Numbers ∷ Tables.Chunks ∷ Tables.Parts ∷ Tables.Pendings ∷ []) b (allotted n (book_granted b t.task l.granted)) (Replies.Allocate (allotted_id b.chunks n) n.posse l.granted.revoked) h
        (λ room. published.allocated r t x l other fresh found e)

    placed_keeps : known_pending b.pendings t.source r.sequence r.previous ≡ None → (o : Result Place Refusal) → place b.segments b.pendings t.source r.at r.granularity ≡ o → P (refused_or o b (placed b r t)).book
    placed_keeps fresh (Err why) e = h
    placed_keeps fresh (Ok x) e = allocated_keeps fresh x e (grant_lock b.posses (counters_at b r.now) t (record { lock_kind = r.lock_kind; span = x.span })) refl

    allocate_keeps : (o : Option PendingRow) → known_pending b.pendings t.source r.sequence r.previous ≡ o → P (allocate_by o b r t).book
    allocate_keeps (Some p) e = known_keeps r t p
    allocate_keeps None e = placed_keeps e (place b.segments b.pendings t.source r.at r.granularity) refl

  -- ---- something is published

  published_or_keeps : (o : Option ℕ) (status : TaskStatus) (reply : ℕ → Reply) (out : Outcome) → P out.book → P (published_or o b status reply out).book
  published_or_keeps (Some k) status reply out f = h
  published_or_keeps None status reply out f = running_as_keeps P status b out h (λ runs. f)

  fitted_unless : (o : Option Refusal) (tables : List Table) (after : Book) (reply : Reply) → (o ≡ None → P after) → P (unless o b (fitted tables b after reply)).book
  fitted_unless o tables after reply f = unless_keeps P o b (fitted tables b after reply) h (λ none. fitted_keeps P tables b after reply h (λ room. f none))

  publish_keeps : (kind : PubKind) (o : Option TaskRow) (given : Publish) (decided : TaskRow → Outcome) → ((t : TaskRow) → o ≡ Some t → P (decided t).book) → P (publish_step kind o b given decided).book
  publish_keeps kind None given decided each = h
  publish_keeps kind (Some t) given decided each =
      published_or_keeps (repeat_of (publication_of kind t (without_since given.spans) given) b.publications) t.status (commit_reply kind) (decided t) (each t refl)

  append_keeps : (ids : List SegId) (ranges : Option Ranges) (t : TaskRow) → are_ids ids ≡ true → In t b.tasks → P (append_running b (appending ids ranges) t).book
  append_keeps ids ranges t form among =
      fitted_unless (or_else (append_fault b.posses b.pendings t.task ids) (ranges_fault b t ranges)) (Tables.Segments ∷ Tables.Upgrades ∷ Tables.Publications ∷ Tables.Offsets ∷ []) (after_append t (appending ids ranges) b) (Replies.Append (length b.publications))
      (λ none. published.appended t ids ranges (ids_distinct ids form) among (no_first (append_fault b.posses b.pendings t.task ids) (ranges_fault b t ranges) none))

  checked_keeps : (f : Filling) (given : Publish) (t : TaskRow) (xs : List Target) → are_lists given.spans given.ids given.tombstones given.ranges ≡ true → check_over f b given t ≡ Ok xs → P (over_checked f b given t xs).book
  checked_keeps Inserting given t xs form e =
      fitted_unless (ranges_fault b t given.ranges) (Tables.Chunks ∷ Tables.Parts ∷ Tables.Segments ∷ Tables.Publications ∷ Tables.Offsets ∷ []) (after_insert t given xs b) (Replies.Insert (length b.publications))
      (λ none. published.inserted t given xs (spans_proper given form) (lists_distinct given form).0 (lists_distinct given form).1 e)
  checked_keeps Replacing given t xs form e =
      fitted_unless (ranges_fault b t given.ranges) (Tables.Chunks ∷ Tables.Parts ∷ Tables.Segments ∷ Tables.Pendings ∷ Tables.Publications ∷ Tables.Offsets ∷ []) (after_replace t given xs b) (Replies.Replace (length b.publications))
      (λ none. published.replaced t given xs (spans_proper given form) (lists_distinct given form).0 (lists_distinct given form).1 e)

  over_keeps : (f : Filling) (given : Publish) (t : TaskRow) → are_lists given.spans given.ids given.tombstones given.ranges ≡ true → (r : Result (List Target) Refusal) → check_over f b given t ≡ r → P (refused_or r b (over_checked f b given t)).book
  over_keeps f given t form (Err why) e = h
  over_keeps f given t form (Ok xs) e = checked_keeps f given t xs form e

  step_keeps : (f : Filling) (o : Option TaskRow) (given : Publish) → are_lists given.spans given.ids given.tombstones given.ranges ≡ true → P (over_step f o b given).book
  step_keeps f o given form = publish_keeps (kind_of f) o given (over_running f b given) (λ t found. over_keeps f given t form (check_over f b given t) refl)

  drop_keeps : (source : List ℕ) (span : Extent) → P (dropped b source span).book
  drop_keeps source span =
      fitted_unless (drop_fault b.posses b.segments source span) (Tables.Publications ∷ []) (after_drop source span b) (Replies.Drop (length b.publications)) (λ none. published.dropped source span none)

  -- ---- a stream is reset, and what a replacement has to read is asked

  offsets_keep : (source stream : List ℕ) (offsets : List Offset) → P (offsets_reset source stream offsets b)
  offsets_keep source stream offsets =
      kept.others b.clock b.tasks (reset_to b.offsets source stream offsets) b.supervisors b.sequences (record b { publications = b.publications ++ reset_publication source stream offsets ∷ [] })
      (published.pushed (reset_publication source stream offsets) refl refl refl)

  sequences_keep : (reads : Bool) (source : List ℕ) (after : Book) → P after → P (cond reads (sequences_dropped source after) after)
  sequences_keep true source after k = sequences_fail P kept (map (dropped_sequence source) after.sequences) (tasks_dropped source after.sequences) after k
  sequences_keep false source after k = k

  reset_keeps : (source stream : List ℕ) (offsets : List Offset) → P (reset_step b source stream offsets).book
  reset_keeps source stream offsets =
      fitted_keeps P (Tables.Publications ∷ Tables.Offsets ∷ []) b (after_reset source stream offsets b) (Replies.Reset (length b.publications)) h
      (λ room. sequences_keep (reads_stream (supervisor_of source b.supervisors) stream) source (offsets_reset source stream offsets b) (offsets_keep source stream offsets))

  asked_keeps : (r : Result PosseRow Refusal) → P (refused_or r b (told_of b)).book
  asked_keeps (Err why) = h
  asked_keeps (Ok n) = h

  -- ---- any command

  pub every_command : (c : Command) → KeepsForm c → P (next b c)
  every_command (Commands.Submit task group source kind priority locks) form = submitted_keeps P kept (task_of task b.tasks) b (waiting_row task group source kind priority locks) h
  every_command (Commands.Manage now) form = all_managed P kept b now h
  every_command (Commands.Lock task lock_kind span now) form =
      let w : Want = record { lock_kind = lock_kind; span = span } in
      running_keeps P (task_of task b.tasks) b (locked b w now) h (λ t found runs. locked_keeps P kept (grant_lock b.posses (counters_at b now) t w) b now t w refl h)
  every_command (Commands.Unlock task lock) form = unlocked_keeps P kept (task_of task b.tasks) b task lock h
  every_command (Commands.Allocate task lock_kind sequence previous at granularity now) form =
      let r : IdRequest = record { lock_kind = lock_kind; sequence = sequence; previous = previous; at = at; granularity = granularity; now = now } in
      running_keeps P (task_of task b.tasks) b (allocated b r) h
      (λ t found runs. allocate_keeps r t (allocates task lock_kind sequence previous at granularity now form) (known_pending b.pendings t.source sequence previous) refl)
  every_command (Commands.Append task ids ranges) form =
      publish_keeps PubKinds.Append (task_of task b.tasks) (appending ids ranges) (append_running b (appending ids ranges)) (λ t found. append_keeps ids ranges t (append_ids task ids ranges form) (task_in task b t found))
  every_command (Commands.Insert task spans ids tombstones ranges) form =
      step_keeps Inserting (task_of task b.tasks) (in_spans spans ids tombstones ranges) (and_parts (is_task_id task) (are_lists spans ids tombstones ranges) form).1
  every_command (Commands.Replace task spans ids tombstones ranges) form =
      step_keeps Replacing (task_of task b.tasks) (in_spans spans ids tombstones ranges) (and_parts (is_task_id task) (are_lists spans ids tombstones ranges) form).1
  every_command (Commands.End task status) form = end_of_task_keeps P kept (task_of task b.tasks) b status h
  every_command (Commands.Drop source span) form = drop_keeps source span
  every_command (Commands.Reset source stream offsets) form = reset_keeps source stream offsets
  every_command (Commands.Supervise source stream partitions task_count replicas task_duration completion_timeout) form = supervised_keeps P kept (supervisor_of source b.supervisors) b
      (record { source = source; stream = stream; partitions = partitions; task_count = task_count; replicas = replicas; duration = task_duration; timeout = completion_timeout }) h
  every_command (Commands.Tick now) form = tick_keeps P kept b (ticked b.offsets (moment b now) b.supervisors b.sequences) (moment b now) h
  every_command (Commands.Paused task offsets) form = running_keeps P (task_of task b.tasks) b (report_step false b offsets) h (λ t found runs. report_keeps P kept false b offsets t h)
  every_command (Commands.Checkpoint task offsets) form = running_keeps P (task_of task b.tasks) b (report_step true b offsets) h (λ t found runs. report_keeps P kept true b offsets t h)
  every_command (Commands.ToReplace task span) form =
      running_keeps P (task_of task b.tasks) b (asked b span) h (λ t found runs. asked_keeps (held_for b.posses t LockKinds.Replace span))
  every_command (Commands.Show what) form = h
