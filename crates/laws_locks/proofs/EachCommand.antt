-- Each command keeps that any two valid locks are compatible, in whatever book.
use Rattle.std.proofs.Common.{Bool, Err, List, None, Ok, Option, Result, Some, [], ap, cond, false, filter, map, refl, true, ℕ, ℤ, ◌++◌, ◌∷◌, ◌≡◌}
use Rattle.std.proofs.lemmas.List.{append-nil}
use Rattle.book_rows.specs.Allocation.{allotted, allotted_id, known_fault, known_pending, place}
use Rattle.book_rows.specs.Answer.{next}
use Rattle.book_rows.specs.Grant.{book_granted, counters_at, grant, grant_all, grant_lock, granted_of, joined_in, joins_row, moment, posses_after, revoked_in}
use Rattle.book_rows.specs.LockSteps.{IdRequest, allocate_by, allocated, allotted_outcome, join_known, known, lock_outcome, lock_reply, locked, pending_for, placed, unlocked}
use Rattle.book_rows.specs.Locks.{is_member_of, joined, left_all_locks, left_lock, left_locks, locks_of, posse_of}
use Rattle.book_rows.specs.Outcome.{Outcome, changed, no_room, refused_or, repeated, task_of, unless}
use Rattle.book_rows.specs.Reports.{ended}
use Rattle.book_rows.specs.Rules.{AreCompatible}
use Rattle.book_rows.specs.SupSteps.{after_tick, tick_outcome}
use Rattle.book_rows.specs.TaskSteps.{Managed, end_as, end_of_task, end_running, is_waiting, managed_all, managed_by, managed_one, started_by, submitted, waiting_row, with_status}
use Rattle.book_rows.specs.Ticks.{Ticking, ticked}
use Rattle.book_rows.specs.declared.answers.Counters.{Counters}
use Rattle.book_rows.specs.declared.answers.Granted.{Granted}
use Rattle.book_rows.specs.declared.answers.GrantedLock.{GrantedLock}
use Rattle.book_rows.specs.declared.answers.NewPending.{NewPending}
use Rattle.book_rows.specs.declared.answers.Place.{Place}
use Rattle.book_rows.specs.declared.commands.Command.TheVariants as Commands
use Rattle.book_rows.specs.declared.kinds.Table.{Table}
use Rattle.book_rows.specs.declared.kinds.Table.TheVariants as Tables
use Rattle.book_rows.specs.declared.kinds.TaskStatus.{TaskStatus}
use Rattle.book_rows.specs.declared.kinds.TaskStatus.TheVariants as Statuses
use Rattle.book_rows.specs.declared.replies.Refusal.{Refusal}
use Rattle.book_rows.specs.declared.replies.Reply.TheVariants as Replies
use Rattle.book_rows.specs.declared.rows.Book.{Book}
use Rattle.book_rows.specs.declared.rows.PendingRow.{PendingRow}
use Rattle.book_rows.specs.declared.rows.PosseRow.{PosseRow}
use Rattle.book_rows.specs.declared.rows.TaskRow.{TaskRow}
use Rattle.book_rows.specs.declared.rows.Want.{Want}
use Rattle.laws_locks.specs.Runs.{CompatibleStays, IsCompatible}
use Rattle.laws_locks.proofs.Compatible.{compatible_joined, compatible_left, compatible_new, compatible_revoked}
use Rattle.laws_locks.proofs.Grants.{all_kept, granted_cases}
use Rattle.laws_locks.proofs.Lists.{pairs_map}
use Rattle.laws_locks.proofs.Others.{Fact, IsKept, all_fail, other_keeps}
use Rattle.laws_locks.proofs.Rooms.{fitted_keeps, running_keeps}

-- ---- grants

joined_compatible : (task joins : List ℕ) (qs : List PosseRow) → AreCompatible qs → AreCompatible (map (joined_in joins task) (map (revoked_in []) qs) ++ [])
joined_compatible task joins qs h = rw append-nil (compatible_joined joins task _ (compatible_revoked [] qs h))

granted_compatible : (qs : List PosseRow) (k : Counters) (t : TaskRow) (w : Want) (g : Granted) → AreCompatible qs → grant qs k t w ≡ Ok g → AreCompatible (posses_after qs t.task g)
granted_compatible qs k t w g h e =
    granted_cases qs k t w (λ g. AreCompatible (posses_after qs t.task g)) (λ p found. joined_compatible t.task (joins_row k t p).joins qs h) (λ v version. compatible_new qs k t w v h) g e

all_compatible : (qs : List PosseRow) (k : Counters) (t : TaskRow) (ws : List Want) (g : Granted) → AreCompatible qs → grant_all qs k t ws ≡ Ok g → AreCompatible (posses_after qs t.task g)
all_compatible qs k t ws g h e =
    all_kept (λ k qs. AreCompatible qs) (λ w. Unit {0}) t (λ qs k h. joined_compatible t.task [] qs h) (λ qs k w g good h e. granted_compatible qs k t w g h e) ws qs k g (λ w i. tt) h e

-- ---- a task leaves its locks

each_left : (ns task : List ℕ) (b : Book) → IsCompatible b → IsCompatible (left_locks ns task b)
each_left [] task b h = h
each_left (n ∷ ns) task b h = each_left ns task (left_lock n task b) (compatible_left n task b.posses h)

all_left : (task : List ℕ) (b : Book) → IsCompatible b → IsCompatible (left_all_locks task b)
all_left task b h = each_left (locks_of task b.posses) task b h

abbrev compatible_fact : Fact
compatible_fact clock last next pubs ts qs = AreCompatible qs

kept : IsKept compatible_fact
kept = record { published = λ clock last next ms m ts qs h. h; fails = λ task b h. all_left task b h }

-- ---- submit, manage and end

submitted_compatible : (o : Option TaskRow) (b : Book) (row : TaskRow) → IsCompatible b → IsCompatible (submitted o b row).book
submitted_compatible (Some t) b row h = h
submitted_compatible None b row h = fitted_keeps IsCompatible (Tables.Tasks ∷ []) b (record b { tasks = b.tasks ++ row ∷ [] }) (Replies.Submit Statuses.Waiting row.task) h (λ room. h)

started_compatible : (o : Option Table) (t : TaskRow) (after : Book) (m : Managed) → IsCompatible m.book → IsCompatible after → IsCompatible (started_by o t after m).book
started_compatible (Some table) t after m h k = h
started_compatible None t after m h k = k

managed_compatible : (r : Result Granted Refusal) (now : ℤ) (t : TaskRow) (m : Managed) → grant_all m.book.posses (counters_at m.book now) t t.wants ≡ r → IsCompatible m.book → IsCompatible (managed_by r t m).book
managed_compatible (Err why) now t m e h = h
managed_compatible (Ok g) now t m e h =
    let after : Book = with_status t.task Statuses.Running (book_granted m.book t.task g) in
    started_compatible (no_room (Tables.Locks ∷ Tables.Numbers ∷ []) after) t after m h (all_compatible m.book.posses (counters_at m.book now) t t.wants g h e)

each_managed : (now : ℤ) (ts : List TaskRow) (m : Managed) → IsCompatible m.book → IsCompatible (managed_all now ts m).book
each_managed now [] m h = h
each_managed now (t ∷ ts) m h = each_managed now ts (managed_one now t m) (managed_compatible (grant_all m.book.posses (counters_at m.book now) t t.wants) now t m refl h)

running_ended : (b : Book) (t : TaskRow) (status : TaskStatus) → IsCompatible b → IsCompatible (end_running b t status).book
running_ended b t status h =
    let e = ended t.group t.task b.clock b.sequences in
    let after : Book = with_status t.task status (left_all_locks t.task b) in
    all_fail compatible_fact kept e.tasks (record after { sequences = e.sequences }) (all_left t.task b h)

ended_compatible : (s status : TaskStatus) (b : Book) (t : TaskRow) → IsCompatible b → IsCompatible (end_as s status b t).book
ended_compatible Statuses.Success Statuses.Success b t h = h
ended_compatible Statuses.Success Statuses.Failed b t h = h
ended_compatible Statuses.Success Statuses.Waiting b t h = h
ended_compatible Statuses.Success Statuses.Running b t h = h
ended_compatible Statuses.Failed Statuses.Success b t h = h
ended_compatible Statuses.Failed Statuses.Failed b t h = h
ended_compatible Statuses.Failed Statuses.Waiting b t h = h
ended_compatible Statuses.Failed Statuses.Running b t h = h
ended_compatible Statuses.Waiting Statuses.Success b t h = h
ended_compatible Statuses.Waiting Statuses.Failed b t h = running_ended b t Statuses.Failed h
ended_compatible Statuses.Waiting Statuses.Waiting b t h = running_ended b t Statuses.Waiting h
ended_compatible Statuses.Waiting Statuses.Running b t h = running_ended b t Statuses.Running h
ended_compatible Statuses.Running Statuses.Success b t h = running_ended b t Statuses.Success h
ended_compatible Statuses.Running Statuses.Failed b t h = running_ended b t Statuses.Failed h
ended_compatible Statuses.Running Statuses.Waiting b t h = running_ended b t Statuses.Waiting h
ended_compatible Statuses.Running Statuses.Running b t h = running_ended b t Statuses.Running h

task_ended : (o : Option TaskRow) (b : Book) (status : TaskStatus) → IsCompatible b → IsCompatible (end_of_task o b status).book
task_ended None b status h = h
task_ended (Some t) b status h = ended_compatible t.status status b t h

-- ---- lock and unlock

locked_compatible : (o : Result GrantedLock Refusal) (b : Book) (t : TaskRow) (w : Want) (now : ℤ) → grant_lock b.posses (counters_at b now) t w ≡ o → IsCompatible b → IsCompatible (refused_or o b (lock_outcome b t)).book
locked_compatible (Err why) b t w now e h = h
locked_compatible (Ok l) b t w now e h =
    fitted_keeps IsCompatible (Tables.Locks ∷ Tables.Numbers ∷ []) b (book_granted b t.task l.granted) (lock_reply l) h
    (λ room. granted_compatible b.posses (counters_at b now) t w l.granted h (ap granted_of e))

either_compatible : (yes : Bool) (b : Book) (out other : Outcome) → IsCompatible out.book → IsCompatible other.book → IsCompatible (cond yes out other).book
either_compatible true b out other h k = h
either_compatible false b out other h k = k

unlocked_compatible : (o : Option TaskRow) (b : Book) (task : List ℕ) (lock : ℕ) → IsCompatible b → IsCompatible (unlocked o b task lock).book
unlocked_compatible None b task lock h = h
unlocked_compatible (Some t) b task lock h =
    either_compatible (is_member_of (posse_of lock b.posses) task) b (changed (left_lock lock task b) (Replies.Unlock true)) (repeated b (Replies.Unlock false)) (compatible_left lock task b.posses h) h

-- ---- allocate

unless_compatible : (o : Option Refusal) (b : Book) (out : Outcome) → IsCompatible b → IsCompatible out.book → IsCompatible (unless o b out).book
unless_compatible (Some why) b out h k = h
unless_compatible None b out h k = k

known_compatible : (b : Book) (r : IdRequest) (t : TaskRow) (p : PendingRow) → IsCompatible b → IsCompatible (known b r t p).book
known_compatible b r t p h =
    unless_compatible (known_fault b.posses t r.lock_kind r.at p) b (join_known b r.now t.task p) h
    (either_compatible (is_member_of (posse_of p.posse b.posses) t.task) b (repeated b (Replies.Allocate p.id p.posse []))
    (changed (record b { clock = moment b r.now; posses = map (joined p.posse t.task) b.posses }) (Replies.Allocate p.id p.posse [])) h (pairs_map _ _ (joined p.posse t.task) (λ x y r. r) b.posses h))

allocated_compatible : (o : Result GrantedLock Refusal) (b : Book) (r : IdRequest) (t : TaskRow) (x : Place) → grant_lock b.posses (counters_at b r.now) t (record { lock_kind = r.lock_kind; span = x.span }) ≡ o → IsCompatible b
    → IsCompatible (refused_or o b (λ l. allotted_outcome b t l (pending_for t r x l))).book
allocated_compatible (Err why) b r t x e h = h
allocated_compatible (Ok l) b r t x e h =
    let n : NewPending = pending_for t r x l in
    fitted_keeps IsCompatible (Tables.Locks ∷ Tables.Numbers ∷ Tables.Chunks ∷ Tables.Parts ∷ Tables.Pendings ∷ []) b (allotted n (book_granted b t.task l.granted)) (Replies.Allocate (allotted_id b.chunks n) n.posse l.granted.revoked) h
    (λ room. granted_compatible b.posses (counters_at b r.now) t (record { lock_kind = r.lock_kind; span = x.span }) l.granted h (ap granted_of e))

placed_compatible : (o : Result Place Refusal) (b : Book) (r : IdRequest) (t : TaskRow) → IsCompatible b → IsCompatible (refused_or o b (placed b r t)).book
placed_compatible (Err why) b r t h = h
placed_compatible (Ok x) b r t h = allocated_compatible (grant_lock b.posses (counters_at b r.now) t (record { lock_kind = r.lock_kind; span = x.span })) b r t x refl h

allocate_compatible : (o : Option PendingRow) (b : Book) (r : IdRequest) (t : TaskRow) → IsCompatible b → IsCompatible (allocate_by o b r t).book
allocate_compatible (Some p) b r t h = known_compatible b r t p h
allocate_compatible None b r t h = placed_compatible (place b.segments b.pendings t.source r.at r.granularity) b r t h

-- ---- tick

tick_compatible : (b : Book) (k : Ticking) (now : ℤ) → IsCompatible b → IsCompatible (tick_outcome b k now).book
tick_compatible b k now h =
    fitted_keeps IsCompatible (Tables.Tasks ∷ Tables.Sequences ∷ []) b (after_tick k now b) (Replies.Tick k.told.abandoned k.told.opened k.told.paused) h
    (λ room. all_fail compatible_fact kept k.told.ended (record b { clock = now; sequences = k.rows }) h)

-- ---- any command

pub compatible_stays : CompatibleStays
compatible_stays b (Commands.Submit task group source kind priority locks) h = submitted_compatible (task_of task b.tasks) b (waiting_row task group source kind priority locks) h
compatible_stays b (Commands.Manage now) h = each_managed now (filter is_waiting b.tasks) (record { book = record b { clock = moment b now }; running = []; waiting = [] }) h
compatible_stays b (Commands.Lock task lock_kind span now) h =
    let w : Want = record { lock_kind = lock_kind; span = span } in
    running_keeps IsCompatible (task_of task b.tasks) b (locked b w now) h (λ t found runs. locked_compatible (grant_lock b.posses (counters_at b now) t w) b t w now refl h)
compatible_stays b (Commands.Unlock task lock) h = unlocked_compatible (task_of task b.tasks) b task lock h
compatible_stays b (Commands.Allocate task lock_kind sequence previous at granularity now) h =
    let r : IdRequest = record { lock_kind = lock_kind; sequence = sequence; previous = previous; at = at; granularity = granularity; now = now } in
    running_keeps IsCompatible (task_of task b.tasks) b (allocated b r) h (λ t found runs. allocate_compatible (known_pending b.pendings t.source sequence previous) b r t h)
compatible_stays b (Commands.End task status) h = task_ended (task_of task b.tasks) b status h
compatible_stays b (Commands.Tick now) h = tick_compatible b (ticked b.offsets (moment b now) b.supervisors b.sequences) (moment b now) h
compatible_stays b (Commands.Append task ids ranges) h = other_keeps compatible_fact kept b (Commands.Append task ids ranges) refl h
compatible_stays b (Commands.Insert task spans ids tombstones ranges) h = other_keeps compatible_fact kept b (Commands.Insert task spans ids tombstones ranges) refl h
compatible_stays b (Commands.Replace task spans ids tombstones ranges) h = other_keeps compatible_fact kept b (Commands.Replace task spans ids tombstones ranges) refl h
compatible_stays b (Commands.Drop source span) h = other_keeps compatible_fact kept b (Commands.Drop source span) refl h
compatible_stays b (Commands.Reset source stream offsets) h = other_keeps compatible_fact kept b (Commands.Reset source stream offsets) refl h
compatible_stays b (Commands.Supervise source stream partitions task_count replicas task_duration completion_timeout) h =
    other_keeps compatible_fact kept b (Commands.Supervise source stream partitions task_count replicas task_duration completion_timeout) refl h
compatible_stays b (Commands.Paused task offsets) h = other_keeps compatible_fact kept b (Commands.Paused task offsets) refl h
compatible_stays b (Commands.Checkpoint task offsets) h = other_keeps compatible_fact kept b (Commands.Checkpoint task offsets) refl h
compatible_stays b (Commands.ToReplace task span) h = other_keeps compatible_fact kept b (Commands.ToReplace task span) refl h
compatible_stays b (Commands.Show what) h = other_keeps compatible_fact kept b (Commands.Show what) refl h
