-- The cores of chunks stay short.
use Rattle.std.proofs.Common.{◌≡◌, ◌≤◌, ℕ, ◌+◌, Bool, true, false, cond, List, [], ◌∷◌, ◌++◌, map, Some, None, Option, refl, sym, ◌∙◌, inl, inr, arith, nat_le, nat_lt}
use Rattle.std.specs.List.{list_all, list_any}
use Rattle.std.proofs.lemmas.Bool.{and_from, or_parts}
use Rattle.std.proofs.lemmas.Bool.Decides.{nat_tests}
use Rattle.std.proofs.lemmas.List.Folds.{list_any-append}
use Rattle.seg_names.specs.declared.seg_id.SegId.{SegId}
use Rattle.book_rows.specs.Allocation.{allotted, allotted_id, bumped, chunk_of, new_chunk, with_chunk}
use Rattle.book_rows.specs.Answer.{next}
use Rattle.book_rows.specs.Form.{KeepsForm}
use Rattle.book_rows.specs.Grant.{book_granted, moment}
use Rattle.book_rows.specs.LockSteps.{pending_for}
use Rattle.book_rows.specs.Locks.{left_all_locks, locks_of}
use Rattle.book_rows.specs.Outcome.{no_room, part_limit}
use Rattle.book_rows.specs.Over.{Target}
use Rattle.book_rows.specs.Publications.{Publish}
use Rattle.book_rows.specs.PublishSteps.{offsets_reset, reads_stream, sequences_dropped}
use Rattle.book_rows.specs.Reports.{Ended, ended}
use Rattle.book_rows.specs.Rewrite.{after_insert, after_replace, chunk_for, copies_of, core_of, how_many}
use Rattle.book_rows.specs.Sequences.{dropped_sequence, supervisor_of, tasks_dropped}
use Rattle.book_rows.specs.TaskSteps.{after_end, with_status}
use Rattle.book_rows.specs.declared.answers.NewPending.{NewPending}
use Rattle.book_rows.specs.declared.commands.Command.{Command}
use Rattle.book_rows.specs.declared.kinds.Table.TheVariants as Tables
use Rattle.book_rows.specs.declared.kinds.TaskStatus.{TaskStatus}
use Rattle.book_rows.specs.declared.rows.Book.{Book}
use Rattle.book_rows.specs.declared.rows.ChunkRow.{ChunkRow}
use Rattle.book_rows.specs.declared.rows.Offset.{Offset}
use Rattle.book_rows.specs.declared.rows.TaskRow.{TaskRow}
use Rattle.laws_locks.proofs.Lists.{pass_map, pass_push}
use Rattle.laws_limits.proofs.Lists.{pass_append}
use Rattle.laws_limits.proofs.Walk.{Moves, Steps, after_any, fails_all, insert_tables, leaves_all, replace_tables, tick_of}
use Rattle.laws_offsets.proofs.Outcomes.{has_room}

abbrev pub has_short_core : ChunkRow → Bool
has_short_core c = nat_le c.core 4294967295

abbrev pub AreShort : Book → Type 0
AreShort b = list_all has_short_core b.chunks ≡ true

moves : Moves AreShort
moves = record {
  clock = λ now m h. h;
  status = λ task status m h. h;
  granted = λ task g m locks numbers h. h;
  left = λ n task m h. h;
  joined = λ n task m h. h;
}

-- ---- new chunks

with_chunk_short : (o : Option ChunkRow) (a : SegId) (cs : List ChunkRow) → list_all has_short_core cs ≡ true → list_all has_short_core (with_chunk a o cs) ≡ true
with_chunk_short (Some c) a cs h = h
with_chunk_short None a cs h = pass_push has_short_core cs (new_chunk a) h refl

allotted_short : (n : NewPending) (m : Book) → AreShort m → AreShort (allotted n m)
allotted_short n m h =
    let a : SegId = allotted_id m.chunks n in
    pass_map has_short_core has_short_core (bumped a) (λ c e. e) (with_chunk a (chunk_of a m.chunks) m.chunks) (with_chunk_short (chunk_of a m.chunks) a m.chunks h)

-- a core is no greater than the number of parts, which is within its limit
short_by : (core copies : ℕ) → nat_lt part_limit (core + copies) ≡ false → nat_le core 4294967295 ≡ true
short_by core copies h = let le : core + copies ≤ 1000000 = grind (arith, nat_tests) in let few : core ≤ 4294967295 = omega (arith, le) in grind (arith, nat_tests)

new_short : (source : List ℕ) (ids : List SegId) (copies : Target → ℕ) (xs : List Target) → list_any (λ c. nat_lt part_limit c.next) (map (λ x. chunk_for source ids (copies x) x) xs) ≡ false → list_all has_short_core (map (λ x. chunk_for source ids (copies x) x) xs) ≡ true
new_short source ids copies [] room = refl
new_short source ids copies (x ∷ xs) room =
    let rooms = or_parts (nat_lt part_limit (core_of ids x.span + copies x)) (list_any (λ c. nat_lt part_limit c.next) (map (λ y. chunk_for source ids (copies y) y) xs)) room in
    and_from (nat_le (core_of ids x.span) 4294967295) (list_all has_short_core (map (λ y. chunk_for source ids (copies y) y) xs)) (short_by (core_of ids x.span) (copies x) rooms.0) (new_short source ids copies xs rooms.1)

-- the later chunks are among all
later_parts : (cs ds : List ChunkRow) → list_any (λ c. nat_lt part_limit c.next) (cs ++ ds) ≡ false → list_any (λ c. nat_lt part_limit c.next) ds ≡ false
later_parts cs ds room = (or_parts (list_any (λ c. nat_lt part_limit c.next) cs) (list_any (λ c. nat_lt part_limit c.next) ds) (sym (list_any-append (λ c. nat_lt part_limit c.next) cs ds) ∙ room)).1

-- ---- the walk

module _ (b : Book) (h : AreShort b) where
  inserts : (given : Publish) (t : TaskRow) (xs : List Target) → no_room insert_tables (after_insert t given xs b) ≡ None → AreShort (after_insert t given xs b)
  inserts given t xs room =
      let parts = has_room Tables.Parts insert_tables (after_insert t given xs b) room (inr (inl refl)) in
      pass_append has_short_core b.chunks (map (chunk_for t.source given.ids 0) xs) h
      (new_short t.source given.ids (λ x. 0) xs (later_parts b.chunks (map (chunk_for t.source given.ids 0) xs) parts))

  replaces : (given : Publish) (t : TaskRow) (xs : List Target) → no_room replace_tables (after_replace t given xs b) ≡ None → AreShort (after_replace t given xs b)
  replaces given t xs room =
      let parts = has_room Tables.Parts replace_tables (after_replace t given xs b) room (inr (inl refl)) in
      let chunk : Target → ChunkRow = λ x. chunk_for t.source given.ids (how_many (copies_of b t given.ids x)) x in
      pass_append has_short_core b.chunks (map chunk xs) h
      (new_short t.source given.ids (λ x. how_many (copies_of b t given.ids x)) xs (later_parts b.chunks (map chunk xs) parts))

  resets : (reads : Bool) (source stream : List ℕ) (offsets : List Offset) → AreShort (cond reads (sequences_dropped source (offsets_reset source stream offsets b)) (offsets_reset source stream offsets b))
  resets true source stream offsets = fails_all AreShort moves (tasks_dropped source b.sequences) (record (offsets_reset source stream offsets b) { sequences = map (dropped_sequence source) b.sequences }) h
  resets false source stream offsets = h

  ends : (t : TaskRow) (status : TaskStatus) → AreShort (after_end t status b)
  ends t status =
      let e : Ended = ended t.group t.task b.clock b.sequences in
      fails_all AreShort moves e.tasks (record (with_status t.task status (left_all_locks t.task b)) { sequences = e.sequences }) (leaves_all AreShort moves (locks_of t.task b.posses) t.task b h)

  steps : Steps AreShort b
  steps = record {
    submits = λ row room. h;
    allots = λ task r t x l form runs placed grants room k. allotted_short (pending_for t r x l) (book_granted b t.task l.granted) k;
    appends = λ task ids ranges t form runs room. h;
    inserts = λ task given t xs form runs found room. inserts given t xs room;
    replaces = λ task given t xs form runs found room. replaces given t xs room;
    drops = λ source span form room. h;
    resets = λ source stream offsets form room. resets (reads_stream (supervisor_of source b.supervisors) stream) source stream offsets;
    supervises = λ row fits new room. h;
    ticks = λ now form room. (let k = tick_of b now in fails_all AreShort moves k.told.ended (record b { clock = moment b now; sequences = k.rows }) h);
    ends = ends;
    reports = λ t offsets fits runs. h;
  }

-- whichever the command
pub cores_stay_short : (b : Book) (c : Command) → KeepsForm c → AreShort b → AreShort (next b c)
cores_stay_short b c form h = after_any AreShort moves b h (steps b h) c form
