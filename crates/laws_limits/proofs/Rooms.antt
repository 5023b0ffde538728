-- No table grows that isn't has_room.
use Rattle.std.proofs.Common.{◌≡◌, ℕ, ℤ, ◌≤◌, suc, Bool, true, false, cond, List, [], ◌∷◌, ◌++◌, map, filter, Some, None, Option, refl, inl, inr, arith, length, nat_lt, not, ◌&&◌}
use Rattle.book_rows.specs.LockSteps.{pending_for}
use Rattle.std.specs.List.{list_all}
use Rattle.std.proofs.lemmas.Bool.{and_parts, false≢true}
use Rattle.iv_span.specs.Extent.{Extent}
use Rattle.seg_names.specs.declared.seg_id.SegId.{SegId}
use Rattle.book_rows.specs.Answer.{book_after, empty_book, next}
use Rattle.std.proofs.lemmas.Bool.Decides.{nat_tests}
use Rattle.book_rows.specs.Allocation.{allotted}
use Rattle.book_rows.specs.Append.{after_append}
use Rattle.book_rows.specs.Form.{keeps_form}
use Rattle.book_rows.specs.Grant.{book_granted, moment}
use Rattle.book_rows.specs.Ids.{is_listed}
use Rattle.book_rows.specs.Kinds.{is_unpublished}
use Rattle.book_rows.specs.Lists.{In, is_empty, stands_in}
use Rattle.book_rows.specs.Locks.{ends_at, joined, left, left_all_locks, left_lock, locks_of, stays}
use Rattle.book_rows.specs.Outcome.{all_tables, is_full, no_room, row_limit}
use Rattle.book_rows.specs.Over.{Target}
use Rattle.book_rows.specs.Publications.{Publish, appending}
use Rattle.book_rows.specs.PublishSteps.{offsets_reset, reads_stream, sequences_dropped}
use Rattle.book_rows.specs.Reports.{Ended, closed_at, ended, ended_by, left_all, left_by, reported}
use Rattle.book_rows.specs.Rewrite.{after_drop, after_insert, after_replace, is_used_up, unused}
use Rattle.book_rows.specs.Sequences.{abandoned, dropped_sequence, published, sequence_named, supervisor_of, tasks_abandoned, tasks_dropped}
use Rattle.book_rows.specs.SupSteps.{after_tick, with_tasks}
use Rattle.book_rows.specs.TaskSteps.{after_end, all_failed, status_set, with_status}
use Rattle.book_rows.specs.Ticks.{Ticking}
use Rattle.book_rows.specs.declared.answers.Granted.{Granted}
use Rattle.book_rows.specs.declared.answers.NewPending.{NewPending}
use Rattle.book_rows.specs.declared.commands.Command.{Command}
use Rattle.book_rows.specs.declared.kinds.Table.{Table}
use Rattle.book_rows.specs.declared.kinds.Table.TheVariants as Tables
use Rattle.book_rows.specs.declared.kinds.TaskStatus.{TaskStatus}
use Rattle.book_rows.specs.declared.rows.Book.{Book}
use Rattle.book_rows.specs.declared.rows.Offset.{Offset}
use Rattle.book_rows.specs.declared.rows.SequenceRow.{SequenceRow}
use Rattle.book_rows.specs.declared.rows.Ranges.{Ranges}
use Rattle.book_rows.specs.declared.rows.SupervisorRow.{SupervisorRow}
use Rattle.book_rows.specs.declared.rows.TaskRow.{TaskRow}
use Rattle.laws_locks.proofs.Managing.{map_length}
use Rattle.laws_limits.specs.Room.{AreNoFuller, ReachedHaveRoom, RoomStays, TablesStayInRoom}
use Rattle.laws_limits.proofs.Walk.{Moves, Steps, after_any, allot_tables, append_tables, fails_all, insert_tables, leaves_all, replace_tables, tick_of}
use Rattle.laws_offsets.proofs.Outcomes.{has_room}

-- ---- lists that don't grow

pub filter_no_longer : {X : Type 0} (p : X → Bool) (xs : List X) → length (filter p xs) ≤ length xs
filter_no_longer p [] = omega arith
filter_no_longer p (x ∷ xs) = by (p x) (filter_no_longer p xs) where
  by : (b : Bool) → length (filter p xs) ≤ length xs → length (cond b (x ∷ filter p xs) (filter p xs)) ≤ suc (length xs)
  by true h = omega arith
  by false h = omega arith

shorter_fits : (n m : ℕ) → n ≤ m → nat_lt row_limit m ≡ false → nat_lt row_limit n ≡ false
shorter_fits n m h e = grind (arith, nat_tests)

-- a part of the rows
part_fits : {X : Type 0} (p : X → Bool) (xs : List X) → nat_lt row_limit (length xs) ≡ false → nat_lt row_limit (length (filter p xs)) ≡ false
part_fits p xs e = shorter_fits (length (filter p xs)) (length xs) (filter_no_longer p xs) e

-- other rows in their places
mapped_fits : {X : Type 0} (f : X → X) (xs : List X) → nat_lt row_limit (length xs) ≡ false → nat_lt row_limit (length (map f xs)) ≡ false
mapped_fits f xs e = rw (map_length f xs) e

-- ---- tables that were has_room

-- ---- the small changes

-- a table that a reset isn't has_room for
abbrev is_other : Table → Bool
is_other Tables.Publications = false
is_other Tables.Offsets = false
is_other table = true

-- a table that a tick isn't has_room for
abbrev is_beside : Table → Bool
is_beside Tables.Tasks = false
is_beside Tables.Sequences = false
is_beside table = true

clock_room : (b : Book) (now : ℤ) (m : Book) → AreNoFuller b m → AreNoFuller b (record m { clock = now })
clock_room b now m h Tables.Tasks e = h Tables.Tasks e
clock_room b now m h table e = h table e

status_room : (b : Book) (task : List ℕ) (status : TaskStatus) (m : Book) → AreNoFuller b m → AreNoFuller b (with_status task status m)
status_room b task status m h Tables.Tasks e = mapped_fits (status_set task status) m.tasks (h Tables.Tasks e)
status_room b task status m h table e = h table e

granted_room : (b : Book) (task : List ℕ) (g : Granted) (m : Book) → is_full Tables.Locks (book_granted m task g) ≡ false → is_full Tables.Numbers (book_granted m task g) ≡ false → AreNoFuller b m → AreNoFuller b (book_granted m task g)
granted_room b task g m locks numbers h Tables.Locks e = locks
granted_room b task g m locks numbers h Tables.Numbers e = numbers
granted_room b task g m locks numbers h Tables.Pendings e = part_fits (λ p. not (stands_in g.revoked p.posse)) m.pendings (h Tables.Pendings e)
granted_room b task g m locks numbers h Tables.Upgrades e = part_fits (λ u. not (stands_in g.revoked u.posse)) m.upgrades (h Tables.Upgrades e)
granted_room b task g m locks numbers h table e = h table e

left_room : (b : Book) (n : ℕ) (task : List ℕ) (m : Book) → AreNoFuller b m → AreNoFuller b (left_lock n task m)
left_room b n task m h Tables.Locks e = part_fits (stays n) (map (left n task) m.posses) (mapped_fits (left n task) m.posses (h Tables.Locks e))
left_room b n task m h Tables.Pendings e = part_fits (λ p. not (ends_at n task m.posses p.posse)) m.pendings (h Tables.Pendings e)
left_room b n task m h Tables.Upgrades e = part_fits (λ u. not (ends_at n task m.posses u.posse)) m.upgrades (h Tables.Upgrades e)
left_room b n task m h table e = h table e

joined_room : (b : Book) (n : ℕ) (task : List ℕ) (m : Book) → AreNoFuller b m → AreNoFuller b (record m { posses = map (joined n task) m.posses })
joined_room b n task m h Tables.Locks e = mapped_fits (joined n task) m.posses (h Tables.Locks e)
joined_room b n task m h table e = h table e

moves_room : (b : Book) → Moves (AreNoFuller b)
moves_room b = record { clock = clock_room b; status = status_room b; granted = granted_room b; left = left_room b; joined = joined_room b }

-- tasks that fail
fails_room : (tasks : List (List ℕ)) (b : Book) → AreNoFuller b (all_failed tasks b)
fails_room tasks b = fails_all (AreNoFuller b) (moves_room b) tasks b (λ table e. e)

-- ---- what each command adds to is has_room

submits_room : (b : Book) (row : TaskRow) → no_room (Tables.Tasks ∷ []) (record b { tasks = b.tasks ++ row ∷ [] }) ≡ None → AreNoFuller b (record b { tasks = b.tasks ++ row ∷ [] })
submits_room b row room Tables.Tasks e = has_room Tables.Tasks (Tables.Tasks ∷ []) (record b { tasks = b.tasks ++ row ∷ [] }) room (inl refl)
submits_room b row room table e = e

supervises_room : (b : Book) (row : SupervisorRow) → no_room (Tables.Supervisors ∷ []) (record b { supervisors = b.supervisors ++ row ∷ [] }) ≡ None → AreNoFuller b (record b { supervisors = b.supervisors ++ row ∷ [] })
supervises_room b row room Tables.Supervisors e = has_room Tables.Supervisors (Tables.Supervisors ∷ []) (record b { supervisors = b.supervisors ++ row ∷ [] }) room (inl refl)
supervises_room b row room table e = e

allots_room : (b m : Book) (n : NewPending) → no_room allot_tables (allotted n m) ≡ None → AreNoFuller b m → AreNoFuller b (allotted n m)
allots_room b m n room h Tables.Chunks e = has_room Tables.Chunks allot_tables (allotted n m) room (inr (inr (inl refl)))
allots_room b m n room h Tables.Parts e = has_room Tables.Parts allot_tables (allotted n m) room (inr (inr (inr (inl refl))))
allots_room b m n room h Tables.Pendings e = has_room Tables.Pendings allot_tables (allotted n m) room (inr (inr (inr (inr (inl refl)))))
allots_room b m n room h table e = h table e

appends_room : (b : Book) (t : TaskRow) (ids : List SegId) (ranges : Option Ranges) → no_room append_tables (after_append t (appending ids ranges) b) ≡ None → AreNoFuller b (after_append t (appending ids ranges) b)
appends_room b t ids ranges room Tables.Segments e = has_room Tables.Segments append_tables (after_append t (appending ids ranges) b) room (inl refl)
appends_room b t ids ranges room Tables.Upgrades e = has_room Tables.Upgrades append_tables (after_append t (appending ids ranges) b) room (inr (inl refl))
appends_room b t ids ranges room Tables.Publications e = has_room Tables.Publications append_tables (after_append t (appending ids ranges) b) room (inr (inr (inl refl)))
appends_room b t ids ranges room Tables.Offsets e = has_room Tables.Offsets append_tables (after_append t (appending ids ranges) b) room (inr (inr (inr (inl refl))))
appends_room b t ids ranges room Tables.Pendings e = part_fits (λ p. not (is_listed ids p.root)) b.pendings e
appends_room b t ids ranges room Tables.Sequences e = mapped_fits (published t.group) b.sequences e
appends_room b t ids ranges room table e = e

inserts_room : (b : Book) (t : TaskRow) (xs : List Target) (given : Publish) → no_room insert_tables (after_insert t given xs b) ≡ None → AreNoFuller b (after_insert t given xs b)
inserts_room b t xs given room Tables.Chunks e = has_room Tables.Chunks insert_tables (after_insert t given xs b) room (inl refl)
inserts_room b t xs given room Tables.Parts e = has_room Tables.Parts insert_tables (after_insert t given xs b) room (inr (inl refl))
inserts_room b t xs given room Tables.Segments e = has_room Tables.Segments insert_tables (after_insert t given xs b) room (inr (inr (inl refl)))
inserts_room b t xs given room Tables.Publications e = has_room Tables.Publications insert_tables (after_insert t given xs b) room (inr (inr (inr (inl refl))))
inserts_room b t xs given room Tables.Offsets e = has_room Tables.Offsets insert_tables (after_insert t given xs b) room (inr (inr (inr (inr (inl refl)))))
inserts_room b t xs given room Tables.Sequences e = mapped_fits (published t.group) b.sequences e
inserts_room b t xs given room table e = e

replaces_room : (b : Book) (t : TaskRow) (xs : List Target) (given : Publish) → no_room replace_tables (after_replace t given xs b) ≡ None → AreNoFuller b (after_replace t given xs b)
replaces_room b t xs given room Tables.Chunks e = has_room Tables.Chunks replace_tables (after_replace t given xs b) room (inl refl)
replaces_room b t xs given room Tables.Parts e = has_room Tables.Parts replace_tables (after_replace t given xs b) room (inr (inl refl))
replaces_room b t xs given room Tables.Segments e = has_room Tables.Segments replace_tables (after_replace t given xs b) room (inr (inr (inl refl)))
replaces_room b t xs given room Tables.Pendings e = has_room Tables.Pendings replace_tables (after_replace t given xs b) room (inr (inr (inr (inl refl))))
replaces_room b t xs given room Tables.Publications e = has_room Tables.Publications replace_tables (after_replace t given xs b) room (inr (inr (inr (inr (inl refl)))))
replaces_room b t xs given room Tables.Offsets e = has_room Tables.Offsets replace_tables (after_replace t given xs b) room (inr (inr (inr (inr (inr (inl refl))))))
replaces_room b t xs given room Tables.Upgrades e = part_fits (λ u. not (is_used_up xs u)) b.upgrades e
replaces_room b t xs given room Tables.Sequences e = mapped_fits (published t.group) b.sequences e
replaces_room b t xs given room table e = e

drops_room : (b : Book) (source : List ℕ) (span : Extent) → no_room (Tables.Publications ∷ []) (after_drop source span b) ≡ None → AreNoFuller b (after_drop source span b)
drops_room b source span room Tables.Publications e = has_room Tables.Publications (Tables.Publications ∷ []) (after_drop source span b) room (inl refl)
drops_room b source span room Tables.Segments e = mapped_fits (unused source span) b.segments e
drops_room b source span room table e = e

-- the tables that tasks which fail leave, with those of publications and offsets has_room
reset_by : (b m after : Book) → no_room (Tables.Publications ∷ Tables.Offsets ∷ []) after ≡ None → AreNoFuller m after → ((table : Table) → is_other table ≡ true → is_full table b ≡ false → is_full table m ≡ false) → AreNoFuller b after
reset_by b m after room f own Tables.Publications e = has_room Tables.Publications (Tables.Publications ∷ Tables.Offsets ∷ []) after room (inl refl)
reset_by b m after room f own Tables.Offsets e = has_room Tables.Offsets (Tables.Publications ∷ Tables.Offsets ∷ []) after room (inr (inl refl))
reset_by b m after room f own table e = f table (own table refl e)

dropped_room : (b : Book) (source stream : List ℕ) (offsets : List Offset) (table : Table) → is_other table ≡ true → is_full table b ≡ false
    → is_full table (record (offsets_reset source stream offsets b) { sequences = map (dropped_sequence source) b.sequences }) ≡ false
dropped_room b source stream offsets Tables.Publications o e = absurd (false≢true o)
dropped_room b source stream offsets Tables.Offsets o e = absurd (false≢true o)
dropped_room b source stream offsets Tables.Sequences o e = mapped_fits (dropped_sequence source) b.sequences e
dropped_room b source stream offsets table o e = e

stored_room : (b : Book) (source stream : List ℕ) (offsets : List Offset) (table : Table) → is_other table ≡ true → is_full table b ≡ false → is_full table (offsets_reset source stream offsets b) ≡ false
stored_room b source stream offsets Tables.Publications o e = absurd (false≢true o)
stored_room b source stream offsets Tables.Offsets o e = absurd (false≢true o)
stored_room b source stream offsets table o e = e

resets_room : (reads : Bool) (b : Book) (source stream : List ℕ) (offsets : List Offset)
    → no_room (Tables.Publications ∷ Tables.Offsets ∷ []) (cond reads (sequences_dropped source (offsets_reset source stream offsets b)) (offsets_reset source stream offsets b)) ≡ None
    → AreNoFuller b (cond reads (sequences_dropped source (offsets_reset source stream offsets b)) (offsets_reset source stream offsets b))
resets_room true b source stream offsets room =
    let start : Book = record (offsets_reset source stream offsets b) { sequences = map (dropped_sequence source) b.sequences } in
    reset_by b start (all_failed (tasks_dropped source b.sequences) start) room (fails_room (tasks_dropped source b.sequences) start) (dropped_room b source stream offsets)
resets_room false b source stream offsets room = reset_by b (offsets_reset source stream offsets b) (offsets_reset source stream offsets b) room (λ table e. e) (stored_room b source stream offsets)

-- the tables that a tick doesn't add to
tick_by : (b start failed : Book) (rows : List TaskRow) → no_room (Tables.Tasks ∷ Tables.Sequences ∷ []) (with_tasks rows failed) ≡ None → AreNoFuller start failed
    → ((table : Table) → is_beside table ≡ true → is_full table b ≡ false → is_full table start ≡ false) → AreNoFuller b (with_tasks rows failed)
tick_by b start failed rows room f own Tables.Tasks e = has_room Tables.Tasks (Tables.Tasks ∷ Tables.Sequences ∷ []) (with_tasks rows failed) room (inl refl)
tick_by b start failed rows room f own Tables.Sequences e = has_room Tables.Sequences (Tables.Tasks ∷ Tables.Sequences ∷ []) (with_tasks rows failed) room (inr (inl refl))
tick_by b start failed rows room f own table e = f table (own table refl e)

clocked_room : (b : Book) (k : Ticking) (now : ℤ) (table : Table) → is_beside table ≡ true → is_full table b ≡ false → is_full table (record b { clock = now; sequences = k.rows }) ≡ false
clocked_room b k now Tables.Sequences o e = absurd (false≢true o)
clocked_room b k now table o e = e

ticks_room : (b : Book) (k : Ticking) (now : ℤ) → no_room (Tables.Tasks ∷ Tables.Sequences ∷ []) (after_tick k now b) ≡ None → AreNoFuller b (after_tick k now b)
ticks_room b k now room =
    let start : Book = record b { clock = now; sequences = k.rows } in
    tick_by b start (all_failed k.told.ended start) k.told.submitted room (fails_room k.told.ended start) (clocked_room b k now)

-- ---- the end of a task, and reports

either_room : (x : Bool) (us vs : Ended) → nat_lt row_limit (length us.sequences) ≡ false → nat_lt row_limit (length vs.sequences) ≡ false → nat_lt row_limit (length (cond x us vs).sequences) ≡ false
either_room true us vs h k = h
either_room false us vs h k = k

ended_by_room : (o : Option SequenceRow) (name : List ℕ) (clock : ℤ) (us : List SequenceRow) → nat_lt row_limit (length us) ≡ false → nat_lt row_limit (length (ended_by o name clock us).sequences) ≡ false
ended_by_room None name clock us e = e
ended_by_room (Some u) name clock us e =
    either_room (is_unpublished u.state && is_empty u.live) (record { sequences = map (abandoned u.source u.group u.index) us; tasks = tasks_abandoned u.source u.group u.index us })
    (record { sequences = map (closed_at name clock) us; tasks = [] }) (mapped_fits (abandoned u.source u.group u.index) us e) (mapped_fits (closed_at name clock) us e)

sequences_room : (b m : Book) (us : List SequenceRow) → AreNoFuller b m → (is_full Tables.Sequences b ≡ false → nat_lt row_limit (length us) ≡ false) → AreNoFuller b (record m { sequences = us })
sequences_room b m us h f Tables.Sequences e = f e
sequences_room b m us h f table e = h table e

ends_room : (b : Book) (t : TaskRow) (status : TaskStatus) → AreNoFuller b (after_end t status b)
ends_room b t status =
    let e : Ended = ended t.group t.task b.clock b.sequences in
    let after : Book = with_status t.task status (left_all_locks t.task b) in
    fails_all (AreNoFuller b) (moves_room b) e.tasks (record after { sequences = e.sequences })
    (sequences_room b after e.sequences (status_room b t.task status (left_all_locks t.task b) (leaves_all (AreNoFuller b) (moves_room b) (locks_of t.task b.posses) t.task b (λ table e. e)))
    (λ room. ended_by_room (sequence_named t.group (left_all t.task b.sequences)) t.group b.clock (left_all t.task b.sequences) (mapped_fits (left_by t.task) b.sequences room)))

-- ---- any command

steps_room : (b : Book) → Steps (AreNoFuller b) b
steps_room b = record {
  submits = submits_room b;
  allots = λ task r t x l form runs placed grants room h. allots_room b (book_granted b t.task l.granted) (pending_for t r x l) room h;
  appends = λ task ids ranges t form runs room. appends_room b t ids ranges room;
  inserts = λ task given t xs form runs found room. inserts_room b t xs given room;
  replaces = λ task given t xs form runs found room. replaces_room b t xs given room;
  drops = λ source span form room. drops_room b source span room;
  resets = λ source stream offsets form room. resets_room (reads_stream (supervisor_of source b.supervisors) stream) b source stream offsets room;
  supervises = λ row fits new room. supervises_room b row room;
  ticks = λ now form room. ticks_room b (tick_of b now) (moment b now) room;
  ends = ends_room b;
  reports = λ t offsets fits runs. sequences_room b b (map (reported t.group (record { task = t.task; offsets = offsets }) b.clock) b.sequences) (λ table e. e)
      (λ room. mapped_fits (reported t.group (record { task = t.task; offsets = offsets }) b.clock) b.sequences room);
}

pub tables_stay_in_room : TablesStayInRoom
tables_stay_in_room b c form = after_any (AreNoFuller b) (moves_room b) b (λ table e. e) (steps_room b) c form

-- ---- all tables at once

-- each table is one of all
listed : (table : Table) → In table all_tables
listed Tables.Tasks = inl refl
listed Tables.Locks = inr (inl refl)
listed Tables.Numbers = inr (inr (inl refl))
listed Tables.Chunks = inr (inr (inr (inl refl)))
listed Tables.Parts = inr (inr (inr (inr (inl refl))))
listed Tables.Segments = inr (inr (inr (inr (inr (inl refl)))))
listed Tables.Pendings = inr (inr (inr (inr (inr (inr (inl refl))))))
listed Tables.Upgrades = inr (inr (inr (inr (inr (inr (inr (inl refl)))))))
listed Tables.Publications = inr (inr (inr (inr (inr (inr (inr (inr (inl refl))))))))
listed Tables.Offsets = inr (inr (inr (inr (inr (inr (inr (inr (inr (inl refl)))))))))
listed Tables.Supervisors = inr (inr (inr (inr (inr (inr (inr (inr (inr (inr (inl refl))))))))))
listed Tables.Sequences = inr (inr (inr (inr (inr (inr (inr (inr (inr (inr (inr (inl refl)))))))))))

-- where all tables have room, each has
pub each_in_room : (b : Book) → no_room all_tables b ≡ None → (table : Table) → is_full table b ≡ false
each_in_room b e table = has_room table all_tables b e (listed table)

none_full : (tables : List Table) (b : Book) → ((table : Table) → is_full table b ≡ false) → no_room tables b ≡ None
none_full [] b h = refl
none_full (table ∷ tables) b h = rw (h table) (none_full tables b h)

pub room_stays : RoomStays
room_stays b c form e = none_full all_tables (next b c) (λ table. tables_stay_in_room b c form table (each_in_room b e table))

-- ---- lists of commands

after_room : (cs : List Command) (b : Book) → list_all keeps_form cs ≡ true → no_room all_tables b ≡ None → no_room all_tables (book_after b cs) ≡ None
after_room [] b forms e = e
after_room (c ∷ cs) b forms e =
    let both = and_parts (keeps_form c) (list_all keeps_form cs) forms in
    after_room cs (next b c) both.1 (room_stays b c both.0 e)

pub reached_have_room : ReachedHaveRoom
reached_have_room cs forms = after_room cs empty_book forms refl
