-- Chunks, segments, pendings and upgrade rows stay within their limits.
use Rattle.std.proofs.Common.{◌≡◌, ℕ, ℤ, ◌+◌, ◌<◌, ◌≤◌, Bool, true, false, cond, if◌then◌else◌, not, ◌&&◌, List, [], ◌∷◌, ◌++◌, map, filter, Some, None, Ok, Option, refl, sym, ap, arith, inl, inr, length, nat_le, nat_lt}
use Rattle.std.specs.List.{list_all, list_any}
use Rattle.std.proofs.lemmas.Bool.{and_from, and_parts, or_parts}
use Rattle.std.proofs.lemmas.Bool.Decides.{nat_tests}
use Rattle.iv_span.specs.Extent.{Extent}
use Rattle.iv_time.specs.Range.{is_instant}
use Rattle.seg_names.specs.Names.{is_name}
use Rattle.seg_names.specs.declared.seg_id.SegId.{SegId}
use Rattle.book_rows.specs.Append.{as_row, is_copy_of, is_root_of, rows_of_root, upgrade_by, upgrade_of, version_overlaps}
use Rattle.book_rows.specs.Form.{KeepsForm, is_id, is_optional_id}
use Rattle.book_rows.specs.Grant.{moment}
use Rattle.book_rows.specs.Ids.{is_listed, is_of_span}
use Rattle.book_rows.specs.Lists.{gathered, numbered, stands_in}
use Rattle.book_rows.specs.Locks.{ends_at, is_replacing, least, left_all_locks, locks_of}
use Rattle.book_rows.specs.Outcome.{is_full, part_limit}
use Rattle.book_rows.specs.Over.{Target, targets}
use Rattle.book_rows.specs.PublishSteps.{offsets_reset, reads_stream, sequences_dropped}
use Rattle.book_rows.specs.Reports.{Ended, ended}
use Rattle.book_rows.specs.Rewrite.{after_drop, after_insert, after_replace, chunk_for, copies_for, copies_of, copy_id, core_of, how_many, is_copied, is_taken_up, is_used_up, own_row, own_rows, pending_copy, tomb_row, unused, upgrade_copy}
use Rattle.book_rows.specs.Sequences.{dropped_sequence, supervisor_of, tasks_dropped}
use Rattle.book_rows.specs.Shape.{is_chunk_row, is_pending_row, is_segment_row, is_upgrade_row}
use Rattle.book_rows.specs.Sound.{Sound}
use Rattle.book_rows.specs.Spans.{is_span}
use Rattle.book_rows.specs.TaskSteps.{after_end, with_status}
use Rattle.book_rows.specs.declared.commands.Command.TheVariants as Commands
use Rattle.book_rows.specs.declared.kinds.Table.TheVariants as Tables
use Rattle.book_rows.specs.declared.kinds.TaskStatus.{TaskStatus}
use Rattle.book_rows.specs.declared.rows.Book.{Book}
use Rattle.book_rows.specs.declared.rows.ChunkRow.{ChunkRow}
use Rattle.book_rows.specs.declared.rows.Offset.{Offset}
use Rattle.book_rows.specs.declared.rows.PendingRow.{PendingRow}
use Rattle.book_rows.specs.declared.rows.PosseRow.{PosseRow}
use Rattle.book_rows.specs.declared.rows.Ranges.{Ranges}
use Rattle.book_rows.specs.declared.rows.TaskRow.{TaskRow}
use Rattle.book_rows.specs.declared.rows.UpgradeRow.{UpgradeRow}
use Rattle.book_rows.specs.declared.kinds.LockKind.TheVariants as LockKinds
use Rattle.book_rows.specs.Append.{after_append}
use Rattle.book_rows.specs.Publications.{Publish, appending}
use Rattle.laws_locks.proofs.Lists.{pass_filter, pass_map}
use Rattle.laws_limits.specs.Rows.{AreIdRows, HasIdRows, IdRowsStay}
use Rattle.laws_limits.proofs.AllottedRows.{allots_fit, pending_own}
use Rattle.laws_limits.proofs.Forms.{append_form, insert_form, replace_form, texts_of}
use Rattle.laws_limits.proofs.Lists.{pass_append, pass_gathered, pass_numbered, pass_over}
use Rattle.laws_limits.proofs.Rooms.{each_in_room}
use Rattle.laws_offsets.proofs.Outcomes.{has_room}
use Rattle.laws_limits.proofs.Targets.{is_target, targets_fit}
use Rattle.laws_limits.proofs.Walk.{DoesRun, Moves, Steps, after_any, fails_all, leaves_all, replace_tables, tick_of}

-- ---- the small changes

parts_left : (gone : ℕ → Bool) (m : Book) → HasIdRows m → AreIdRows m.chunks m.segments (filter (λ p. not (gone p.posse)) m.pendings) (filter (λ u. not (gone u.posse)) m.upgrades)
parts_left gone m h = record {
  chunks = h.chunks;
  segments = h.segments;
  pendings = pass_filter is_pending_row (λ p. not (gone p.posse)) m.pendings h.pendings;
  upgrades = pass_filter is_upgrade_row (λ u. not (gone u.posse)) m.upgrades h.upgrades;
}

moves : Moves HasIdRows
moves = record {
  clock = λ now m h. h;
  status = λ task status m h. h;
  granted = λ task g m locks numbers h. parts_left (stands_in g.revoked) m h;
  left = λ n task m h. parts_left (ends_at n task m.posses) m h;
  joined = λ n task m h. h;
}

-- ---- ids of a publish, and their tombstones

own_fit : (k : ℕ) (ids tombs : List SegId) (span : Extent) → list_all is_id ids ≡ true → list_all is_id tombs ≡ true → list_all is_segment_row (own_rows k ids tombs span) ≡ true
own_fit k ids tombs span h i =
    pass_append is_segment_row (map (own_row k) (filter (is_of_span span) ids)) (map (tomb_row k) (filter (is_of_span span) tombs))
    (pass_over is_id is_segment_row (own_row k) (λ a e. and_from (is_id a) (is_id a) e e) (filter (is_of_span span) ids) (pass_filter is_id (is_of_span span) ids h))
    (pass_over is_id is_segment_row (tomb_row k) (λ a e. and_from (is_id a) (is_id a) e e) (filter (is_of_span span) tombs) (pass_filter is_id (is_of_span span) tombs i))

-- ---- append

root_rows : (k : ℕ) (a : SegId) (ps : List PendingRow) → list_all is_pending_row ps ≡ true → list_all is_segment_row (rows_of_root k a ps) ≡ true
root_rows k a ps h =
    pass_over is_pending_row is_segment_row (as_row k) (λ p e. (let own = pending_own p e in and_from (is_id p.id) (is_id p.root) own.0 own.1)) (filter (is_root_of a) ps ++ filter (is_copy_of a) ps)
    (pass_append is_pending_row (filter (is_root_of a) ps) (filter (is_copy_of a) ps) (pass_filter is_pending_row (is_root_of a) ps h) (pass_filter is_pending_row (is_copy_of a) ps h))

upgrade_either : (b : Bool) (u : UpgradeRow) → is_upgrade_row u ≡ true → list_all is_upgrade_row (if b then [] else u ∷ []) ≡ true
upgrade_either true u h = refl
upgrade_either false u h = and_from (is_upgrade_row u) true h refl

upgrade_fits : (cs : List ChunkRow) (a : SegId) (o : Option PosseRow) → is_id a ≡ true → list_all is_upgrade_row (upgrade_by cs a o) ≡ true
upgrade_fits cs a None h = refl
upgrade_fits cs a (Some q) h = upgrade_either (version_overlaps cs q.source a.span q.version) (record { posse = q.number; root = a }) h

-- ---- chunks of a publish

chunks_fit : (source : List ℕ) (ids : List SegId) (copies : Target → ℕ) (xs : List Target) → is_name source ≡ true → list_all is_target xs ≡ true → list_all is_chunk_row (map (λ x. chunk_for source ids (copies x) x) xs) ≡ true
chunks_fit source ids copies xs name h =
    pass_over is_target is_chunk_row (λ x. chunk_for source ids (copies x) x)
    (λ x e. (let both = and_parts (is_span x.span) (is_instant x.version) e in
    and_from (is_name source && is_span x.span) (is_instant x.version) (and_from (is_name source) (is_span x.span) name both.0) both.1)) xs h

-- ---- copies

numbered_length : {X Y : Type 0} (f : ℕ → X → Y) (n : ℕ) (xs : List X) → length (numbered f n xs) ≡ length xs
numbered_length f n [] = refl
numbered_length f n (x ∷ xs) = rw (numbered_length f (n + 1) xs) refl

copy_fits : (source : List ℕ) (span : Extent) (version : ℤ) (part end : ℕ) → is_name source ≡ true → is_span span ≡ true → is_instant version ≡ true → nat_lt part_limit end ≡ false → part < end → is_id (copy_id source span version part) ≡ true
copy_fits source span version part end name s v room below =
    and_from (is_name source && is_span span && is_instant version) (nat_le part 4294967295) (and_from (is_name source && is_span span) (is_instant version) (and_from (is_name source) (is_span span) name s) v) (within part end below room) where
      within : (p e : ℕ) → p < e → nat_lt part_limit e ≡ false → nat_le p 4294967295 ≡ true
      within p e h k = grind (arith, nat_tests)

pending_copy_fits : (source : List ℕ) (span : Extent) (version : ℤ) (part : ℕ) (p : PendingRow) → is_id (copy_id source span version part) ≡ true → is_pending_row p ≡ true → is_pending_row (pending_copy source span version part p) ≡ true
pending_copy_fits source span version part p fits h =
    let previous = and_parts (is_id p.id && is_id p.root && is_name p.sequence) (is_optional_id p.previous) h in
    let sequence = and_parts (is_id p.id && is_id p.root) (is_name p.sequence) previous.0 in
    let root = and_parts (is_id p.id) (is_id p.root) sequence.0 in
    let a : SegId = copy_id source span version part in
    and_from (is_id a && is_id p.root && is_name p.sequence) (is_optional_id p.previous) (and_from (is_id a && is_id p.root) (is_name p.sequence) (and_from (is_id a) (is_id p.root) fits root.1) sequence.1) previous.1

module _ (ps : List PendingRow) (us : List UpgradeRow) (pendings : list_all is_pending_row ps ≡ true) (upgrades : list_all is_upgrade_row us ≡ true) (lock : ℕ) (source : List ℕ) (span : Extent) (version : ℤ) (from k : ℕ) (name : is_name source ≡ true) (s : is_span span ≡ true)
    (v : is_instant version ≡ true) (room : nat_lt part_limit (from + how_many (copies_for ps us lock source span version from k)) ≡ false) where
  abbrev taken : List UpgradeRow
  taken = filter (is_taken_up lock span) us

  abbrev copied : List PendingRow
  copied = filter (is_copied source span) ps

  count_is : how_many (copies_for ps us lock source span version from k) ≡ length taken + length copied
  count_is = rw (numbered_length (upgrade_copy source span version k) from taken, numbered_length (pending_copy source span version) (from + length taken) copied) refl

  end_room : nat_lt part_limit (from + (length taken + length copied)) ≡ false
  end_room = rw (← count_is) room

  segment_copies : list_all is_segment_row (copies_for ps us lock source span version from k).segments ≡ true
  segment_copies =
      pass_numbered is_upgrade_row is_segment_row (upgrade_copy source span version k) from (from + (length taken + length copied))
      (λ part u below fits. and_from (is_id (copy_id source span version part)) (is_id u.root) (copy_fits source span version part (from + (length taken + length copied)) name s v end_room below) fits) taken
      (first (length taken) (length copied)) (pass_filter is_upgrade_row (is_taken_up lock span) us upgrades) where
        first : (n m : ℕ) → from + n ≤ from + (n + m)
        first n m = omega arith

  pending_copies : list_all is_pending_row (copies_for ps us lock source span version from k).pendings ≡ true
  pending_copies =
      pass_numbered is_pending_row is_pending_row (pending_copy source span version) (from + length taken) (from + (length taken + length copied))
      (λ part p below fits. pending_copy_fits source span version part p (copy_fits source span version part (from + (length taken + length copied)) name s v end_room below) fits) copied
      (all (length taken) (length copied)) (pass_filter is_pending_row (is_copied source span) ps pendings) where
        all : (n m : ℕ) → (from + n) + m ≤ from + (n + m)
        all n m = omega arith

-- a span whose chunk's parts are within the limit
abbrev is_parted : (Target → ChunkRow) → Target → Bool
is_parted f x = is_target x && not (nat_lt part_limit (f x).next)

parted : (f : Target → ChunkRow) (xs : List Target) → list_any (λ c. nat_lt part_limit c.next) (map f xs) ≡ false → list_all is_target xs ≡ true → list_all (is_parted f) xs ≡ true
parted f [] room h = refl
parted f (x ∷ xs) room h =
    let rooms = or_parts (nat_lt part_limit (f x).next) (list_any (λ c. nat_lt part_limit c.next) (map f xs)) room in
    let both = and_parts (is_target x) (list_all is_target xs) h in
    and_from (is_parted f x) (list_all (is_parted f) xs) (and_from (is_target x) (not (nat_lt part_limit (f x).next)) both.0 (ap not rooms.0)) (parted f xs rooms.1 both.1)

-- the later rows are among all
any_later : (p : ChunkRow → Bool) (xs ys : List ChunkRow) → list_any p (xs ++ ys) ≡ false → list_any p ys ≡ false
any_later p [] ys e = e
any_later p (x ∷ xs) ys e = any_later p xs ys (or_parts (p x) (list_any p (xs ++ ys)) e).1

is_off : (x : Bool) → not x ≡ true → x ≡ false
is_off false e = refl
is_off true e = sym e

-- ---- the walk

sound_rows : (b : Book) → Sound b → HasIdRows b
sound_rows b sound = record { chunks = sound.shape.limits.chunks; segments = sound.shape.limits.segments; pendings = sound.shape.limits.pendings; upgrades = sound.shape.limits.upgrades }

module _ (b : Book) (sound : Sound b) where
  source_of : (t : TaskRow) → DoesRun b t → is_name t.source ≡ true
  source_of t runs = (texts_of b.tasks t sound.shape.limits.tasks runs.among).source

  appends : (task : List ℕ) (ids : List SegId) (ranges : Option Ranges) (t : TaskRow) → KeepsForm (Commands.Append task ids ranges) → HasIdRows (after_append t (appending ids ranges) b)
  appends task ids ranges t form =
      let h = sound_rows b sound in
      let own = append_form task ids ranges form in
      record {
        chunks = h.chunks;
        segments = pass_append is_segment_row b.segments (gathered (λ a. rows_of_root (length b.publications) a b.pendings) ids) h.segments
            (pass_gathered is_id is_segment_row (λ a. rows_of_root (length b.publications) a b.pendings) (λ a e. root_rows (length b.publications) a b.pendings h.pendings) ids own.adds.each);
        pendings = pass_filter is_pending_row (λ p. not (is_listed ids p.root)) b.pendings h.pendings;
        upgrades = pass_append is_upgrade_row b.upgrades (gathered (upgrade_of b.posses b.chunks) ids) h.upgrades
            (pass_gathered is_id is_upgrade_row (upgrade_of b.posses b.chunks) (λ a e. upgrade_fits b.chunks a (least (is_replacing a.source a.span) b.posses) e) ids own.adds.each);
      }

  inserts : (task : List ℕ) (given : Publish) (t : TaskRow) (xs : List Target) → KeepsForm (Commands.Insert task given.spans given.ids given.tombstones given.ranges) → DoesRun b t → targets b.posses t LockKinds.Exclusive given.spans ≡ Ok xs
      → HasIdRows (after_insert t given xs b)
  inserts task given t xs form runs found =
      let h = sound_rows b sound in
      let own = insert_form task given.spans given.ids given.tombstones given.ranges form in
      let fit : list_all is_target xs ≡ true = targets_fit b.posses t LockKinds.Exclusive given.spans xs sound.shape.limits.posses own.each found in
      record {
        chunks = pass_append is_chunk_row b.chunks (map (chunk_for t.source given.ids 0) xs) h.chunks (chunks_fit t.source given.ids (λ x. 0) xs (source_of t runs) fit);
        segments = pass_append is_segment_row b.segments (gathered (λ x. own_rows (length b.publications) given.ids given.tombstones x.span) xs) h.segments
            (pass_gathered is_target is_segment_row (λ x. own_rows (length b.publications) given.ids given.tombstones x.span) (λ x e. own_fit (length b.publications) given.ids given.tombstones x.span own.adds.each own.empties.each) xs fit);
        pendings = h.pendings;
        upgrades = h.upgrades;
      }

  replaces : (task : List ℕ) (given : Publish) (t : TaskRow) (xs : List Target) → KeepsForm (Commands.Replace task given.spans given.ids given.tombstones given.ranges) → DoesRun b t → targets b.posses t LockKinds.Replace given.spans ≡ Ok xs
      → is_full Tables.Parts (after_replace t given xs b) ≡ false → HasIdRows (after_replace t given xs b)
  replaces task given t xs form runs found room =
      let h = sound_rows b sound in
      let own = replace_form task given.spans given.ids given.tombstones given.ranges form in
      let fit : list_all is_target xs ≡ true = targets_fit b.posses t LockKinds.Replace given.spans xs sound.shape.limits.posses own.each found in
      let chunk : Target → ChunkRow = λ x. chunk_for t.source given.ids (how_many (copies_of b t given.ids x)) x in
      let parts : list_all (is_parted chunk) xs ≡ true = parted chunk xs (any_later (λ c. nat_lt part_limit c.next) b.chunks (map chunk xs) room) fit in
      record {
        chunks = pass_append is_chunk_row b.chunks (map chunk xs) h.chunks (chunks_fit t.source given.ids (λ x. how_many (copies_of b t given.ids x)) xs (source_of t runs) fit);
        segments = pass_append is_segment_row (b.segments ++ gathered (λ x. own_rows (length b.publications) given.ids given.tombstones x.span) xs) (gathered (λ x. (copies_of b t given.ids x).segments) xs)
            (pass_append is_segment_row b.segments (gathered (λ x. own_rows (length b.publications) given.ids given.tombstones x.span) xs) h.segments
            (pass_gathered is_target is_segment_row (λ x. own_rows (length b.publications) given.ids given.tombstones x.span) (λ x e. own_fit (length b.publications) given.ids given.tombstones x.span own.adds.each own.empties.each) xs fit))
            (pass_gathered (is_parted chunk) is_segment_row (λ x. (copies_of b t given.ids x).segments) (λ x e. (let p = target_parts chunk x e in
            segment_copies b.pendings b.upgrades h.pendings h.upgrades x.lock t.source x.span x.version (core_of given.ids x.span) (length b.publications) (source_of t runs) p.0 p.1 p.2)) xs parts);
        pendings = pass_append is_pending_row b.pendings (gathered (λ x. (copies_of b t given.ids x).pendings) xs) h.pendings
            (pass_gathered (is_parted chunk) is_pending_row (λ x. (copies_of b t given.ids x).pendings) (λ x e. (let p = target_parts chunk x e in
            pending_copies b.pendings b.upgrades h.pendings h.upgrades x.lock t.source x.span x.version (core_of given.ids x.span) (length b.publications) (source_of t runs) p.0 p.1 p.2)) xs parts);
        upgrades = pass_filter is_upgrade_row (λ u. not (is_used_up xs u)) b.upgrades h.upgrades;
      } where
        target_parts : (f : Target → ChunkRow) (x : Target) → is_parted f x ≡ true → (is_span x.span ≡ true) × (is_instant x.version ≡ true) × (nat_lt part_limit (f x).next ≡ false)
        target_parts f x e =
            let both = and_parts (is_target x) (not (nat_lt part_limit (f x).next)) e in
            let own = and_parts (is_span x.span) (is_instant x.version) both.0 in
            (own.0, own.1, is_off (nat_lt part_limit (f x).next) both.1)

  drops : (source : List ℕ) (span : Extent) → HasIdRows (after_drop source span b)
  drops source span =
      let h = sound_rows b sound in
      record { chunks = h.chunks; segments = pass_map is_segment_row is_segment_row (unused source span) (λ r e. e) b.segments h.segments; pendings = h.pendings; upgrades = h.upgrades }

  resets : (reads : Bool) (source stream : List ℕ) (offsets : List Offset) → HasIdRows (cond reads (sequences_dropped source (offsets_reset source stream offsets b)) (offsets_reset source stream offsets b))
  resets true source stream offsets = fails_all HasIdRows moves (tasks_dropped source b.sequences) (record (offsets_reset source stream offsets b) { sequences = map (dropped_sequence source) b.sequences }) (sound_rows b sound)
  resets false source stream offsets = sound_rows b sound

  ends : (t : TaskRow) (status : TaskStatus) → HasIdRows (after_end t status b)
  ends t status =
      let e : Ended = ended t.group t.task b.clock b.sequences in
      fails_all HasIdRows moves e.tasks (record (with_status t.task status (left_all_locks t.task b)) { sequences = e.sequences }) (leaves_all HasIdRows moves (locks_of t.task b.posses) t.task b (sound_rows b sound))

  steps : Steps HasIdRows b
  steps = record {
    submits = λ row room. sound_rows b sound;
    allots = λ task r t x l form runs placed grants room h. allots_fit b sound (each_in_room b sound.shape.limits.room Tables.Parts) task r t x l form runs placed grants h;
    appends = λ task ids ranges t form runs room. appends task ids ranges t form;
    inserts = λ task given t xs form runs found room. inserts task given t xs form runs found;
    replaces = λ task given t xs form runs found room.
        replaces task given t xs form runs found (has_room Tables.Parts replace_tables (after_replace t given xs b) room (inr (inl refl)));
    drops = λ source span form room. drops source span;
    resets = λ source stream offsets form room. resets (reads_stream (supervisor_of source b.supervisors) stream) source stream offsets;
    supervises = λ row fits new room. sound_rows b sound;
    ticks = λ now form room. (let k = tick_of b now in fails_all HasIdRows moves k.told.ended (record b { clock = moment b now; sequences = k.rows }) (sound_rows b sound));
    ends = ends;
    reports = λ t offsets fits runs. sound_rows b sound;
  }

pub id_rows_stay : IdRowsStay
id_rows_stay b c form sound = after_any HasIdRows moves b (sound_rows b sound) (steps b sound) c form
