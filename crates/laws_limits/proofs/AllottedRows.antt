-- An id that is allocated is within its limits, with its chunk and its pending.
use Rattle.std.proofs.Common.{Bool, List, None, Ok, Option, Result, Some, ap, arith, false, find, length, nat_le, nat_lt, refl, subst, true, ℕ, ℤ, ◌&&◌, ◌≡◌}
use Rattle.std.specs.Prelude.{unwrap_or}
use Rattle.std.specs.List.{list_all, list_any}
use Rattle.std.proofs.lemmas.Bool.{and_from, and_parts}
use Rattle.std.proofs.lemmas.Bool.Decides.{nat_tests}
use Rattle.iv_span.specs.Extent.{Extent}
use Rattle.iv_time.specs.Range.{is_instant}
use Rattle.iv_time.specs.declared.granularity.Granularity.{Granularity}
use Rattle.seg_names.specs.Names.{is_name, is_task_id}
use Rattle.seg_names.specs.declared.seg_id.SegId.{SegId}
use Rattle.book_rows.specs.Allocation.{allotted, allotted_id, allotted_row, bumped, chunk_of, free_bucket, is_cut_by, is_of_chunk, is_pending_at, new_chunk, next_of, place, place_by, uncut, with_chunk}
use Rattle.iv_time.specs.Buckets.{and_finer}
use Rattle.book_rows.specs.Form.{KeepsForm, is_id, is_optional_id, may_allocate}
use Rattle.book_rows.specs.Grant.{book_granted, counters_at, grant_lock, granted_of, posses_after}
use Rattle.book_rows.specs.LockSteps.{IdRequest, pending_for}
use Rattle.book_rows.specs.Outcome.{is_full, part_limit}
use Rattle.book_rows.specs.Shape.{is_chunk_row, is_pending_row, is_posse_row, is_segment_row}
use Rattle.book_rows.specs.Sound.{Sound}
use Rattle.book_rows.specs.Spans.{is_span}
use Rattle.book_rows.specs.Visible.{is_visible}
use Rattle.book_rows.specs.declared.answers.GrantedLock.{GrantedLock}
use Rattle.book_rows.specs.declared.answers.NewPending.{NewPending}
use Rattle.book_rows.specs.declared.answers.Place.{Place}
use Rattle.book_rows.specs.declared.commands.Command.TheVariants as Commands
use Rattle.book_rows.specs.declared.kinds.LockKind.{LockKind}
use Rattle.book_rows.specs.declared.kinds.Table.TheVariants as Tables
use Rattle.book_rows.specs.declared.replies.Refusal.{Refusal}
use Rattle.book_rows.specs.declared.rows.Book.{Book}
use Rattle.book_rows.specs.declared.rows.ChunkRow.{ChunkRow}
use Rattle.book_rows.specs.declared.rows.PendingRow.{PendingRow}
use Rattle.book_rows.specs.declared.rows.PosseRow.{PosseRow}
use Rattle.book_rows.specs.declared.rows.SegmentRow.{SegmentRow}
use Rattle.book_rows.specs.declared.rows.TaskRow.{TaskRow}
use Rattle.book_rows.specs.declared.rows.Want.{Want}
use Rattle.laws_locks.specs.LockShape.{HasSoundLocks}
use Rattle.laws_locks.proofs.Allocating.{new_span}
use Rattle.laws_locks.proofs.Granting.{at_work, ground_of}
use Rattle.laws_locks.proofs.Grants.{granted_stands}
use Rattle.laws_locks.proofs.Grounds.{ground_granted}
use Rattle.laws_locks.proofs.Lists.{In-list_all, found_In, none_In, pass_map, pass_push}
use Rattle.laws_locks.proofs.WholeShape.{shape_has_lock_shape}
use Rattle.laws_limits.specs.Rows.{HasIdRows}
use Rattle.laws_limits.proofs.Forms.{texts_of}
use Rattle.laws_limits.proofs.Targets.{posse_version}
use Rattle.laws_limits.proofs.Walk.{DoesRun}

-- ---- the place's version

abbrev has_instant : Option ℤ → Bool
has_instant None = true
has_instant (Some version) = is_instant version

id_version : (a : SegId) → is_id a ≡ true → is_instant a.version ≡ true
id_version a h = (and_parts (is_name a.source && is_span a.span) (is_instant a.version) (and_parts (is_name a.source && is_span a.span && is_instant a.version) (nat_le a.part 4294967295) h).0).1

pub pending_own : (p : PendingRow) → is_pending_row p ≡ true → (is_id p.id ≡ true) × (is_id p.root ≡ true)
pending_own p h =
    let previous = and_parts (is_id p.id && is_id p.root && is_name p.sequence) (is_optional_id p.previous) h in
    let sequence = and_parts (is_id p.id && is_id p.root) (is_name p.sequence) previous.0 in
    and_parts (is_id p.id) (is_id p.root) sequence.0

same_place : (x y : Place) → ◌≡◌ {A = Result Place Refusal} (Ok x) (Ok y) → has_instant x.version ≡ true → has_instant y.version ≡ true
same_place x y e h = let same : x ≡ y = cc in subst (λ (z : Place). has_instant z.version ≡ true) same h

uncut_version : (a : SegId) (o : Option SegmentRow) (x : Place) → uncut a o ≡ Ok x → is_instant a.version ≡ true → has_instant x.version ≡ true
uncut_version a None x e h = same_place _ x e h
uncut_version a (Some r) x e h = cc

placed_version : (r : Option SegmentRow) (p : Option PendingRow) (rows : List SegmentRow) (at : ℤ) (bucket : Option Extent) (x : Place) → place_by r p rows at bucket ≡ Ok x
    → ((r' : SegmentRow) → r ≡ Some r' → is_instant r'.id.version ≡ true) → ((p' : PendingRow) → p ≡ Some p' → is_instant p'.id.version ≡ true) → has_instant x.version ≡ true
placed_version (Some r) p rows at bucket x e f g = uncut_version r.id (find (is_cut_by r.id) rows) x e (f r refl)
placed_version None (Some p) rows at bucket x e f g = same_place _ x e (g p refl)
placed_version None None rows at None x e f g = cc
placed_version None None rows at (Some s) x e f g = same_place _ x e refl

place_version : (b : Book) (source : List ℕ) (at : ℤ) (g : Granularity) (x : Place) → list_all is_segment_row b.segments ≡ true → list_all is_pending_row b.pendings ≡ true → place b.segments b.pendings source at g ≡ Ok x → has_instant x.version ≡ true
place_version b source at g x h k e =
    placed_version (find (is_visible b.segments source at) b.segments) (find (is_pending_at source at) b.pendings) b.segments at (free_bucket b.segments b.pendings source at (and_finer g)) x e
    (λ r found. id_version r.id (and_parts (is_id r.id) (is_id r.root) (In-list_all is_segment_row r b.segments (found_In (is_visible b.segments source at) r b.segments found).0 h)).0)
    (λ p found. id_version p.id (pending_own p (In-list_all is_pending_row p b.pendings (found_In (is_pending_at source at) p b.pendings found).0 k)).0)

version_fits : (v : Option ℤ) (version : ℤ) → has_instant v ≡ true → is_instant version ≡ true → is_instant (unwrap_or v version) ≡ true
version_fits (Some v) version h f = h
version_fits None version h f = f

-- ---- the next part

next_within : (o : Option ChunkRow) (a : SegId) (cs : List ChunkRow) → chunk_of a cs ≡ o → list_any (λ c. nat_lt part_limit c.next) cs ≡ false → nat_le (next_of o) 4294967295 ≡ true
next_within None a cs e room = refl
next_within (Some c) a cs e room = within c.next (none_In (λ c. nat_lt part_limit c.next) c cs (found_In (λ c. is_of_chunk c a) c cs e).0 room) where
  within : (n : ℕ) → nat_lt part_limit n ≡ false → nat_le n 4294967295 ≡ true
  within n h = grind (arith, nat_tests)

-- ---- the rows

-- what is to be added is within its limits
record IsNew (n : NewPending) : Type 0 where
  source_is : is_name n.source ≡ true
  span_is : is_span n.span ≡ true
  version_is : is_instant n.version ≡ true
  sequence_is : is_name n.sequence ≡ true
  previous_is : is_optional_id n.previous ≡ true

allotted_id_fits : (cs : List ChunkRow) (n : NewPending) → IsNew n → list_any (λ c. nat_lt part_limit c.next) cs ≡ false → is_id (allotted_id cs n) ≡ true
allotted_id_fits cs n new room =
    let a : SegId = record { source = n.source; span = n.span; version = n.version; part = 0 } in
    and_from (is_name n.source && is_span n.span && is_instant n.version) (nat_le (next_of (chunk_of a cs)) 4294967295)
    (and_from (is_name n.source && is_span n.span) (is_instant n.version) (and_from (is_name n.source) (is_span n.span) new.source_is new.span_is) new.version_is) (next_within (chunk_of a cs) a cs refl room)

with_chunk_fits : (o : Option ChunkRow) (a : SegId) (cs : List ChunkRow) → is_id a ≡ true → list_all is_chunk_row cs ≡ true → list_all is_chunk_row (with_chunk a o cs) ≡ true
with_chunk_fits (Some c) a cs fits h = h
with_chunk_fits None a cs fits h = pass_push is_chunk_row cs (new_chunk a) h (and_parts (is_name a.source && is_span a.span && is_instant a.version) (nat_le a.part 4294967295) fits).0

allotted_rows : (n : NewPending) (m : Book) → IsNew n → list_any (λ c. nat_lt part_limit c.next) m.chunks ≡ false → HasIdRows m → HasIdRows (allotted n m)
allotted_rows n m new room h =
    let a : SegId = allotted_id m.chunks n in
    let fits : is_id a ≡ true = allotted_id_fits m.chunks n new room in
    record {
      chunks = pass_map is_chunk_row is_chunk_row (bumped a) (λ c e. e) (with_chunk a (chunk_of a m.chunks) m.chunks) (with_chunk_fits (chunk_of a m.chunks) a m.chunks fits h.chunks);
      segments = h.segments;
      pendings = pass_push is_pending_row m.pendings (allotted_row a n) h.pendings
          (and_from (is_id a && is_id a && is_name n.sequence) (is_optional_id n.previous) (and_from (is_id a && is_id a) (is_name n.sequence) (and_from (is_id a) (is_id a) fits fits) new.sequence_is) new.previous_is);
      upgrades = h.upgrades;
    }

-- ---- the command

record IsAllocateForm (sequence : List ℕ) (previous : Option SegId) (now : ℤ) : Type 0 where
  named : is_name sequence ≡ true
  after : is_optional_id previous ≡ true
  moment_is : is_instant now ≡ true

allocate_form : (task : List ℕ) (kind : LockKind) (sequence : List ℕ) (previous : Option SegId) (at : ℤ) (granularity : Granularity) (now : ℤ) → KeepsForm (Commands.Allocate task kind sequence previous at granularity now) → IsAllocateForm sequence previous now
allocate_form task kind sequence previous at granularity now h =
    let last = and_parts (is_task_id task && may_allocate kind && is_name sequence && is_optional_id previous && is_instant at) (is_instant now) h in
    let when = and_parts (is_task_id task && may_allocate kind && is_name sequence && is_optional_id previous) (is_instant at) last.0 in
    let before = and_parts (is_task_id task && may_allocate kind && is_name sequence) (is_optional_id previous) when.0 in
    let name = and_parts (is_task_id task && may_allocate kind) (is_name sequence) before.0 in
    record { named = name.1; after = before.1; moment_is = last.1 }

pub allots_fit : (b : Book) → Sound b → is_full Tables.Parts b ≡ false → (task : List ℕ) (r : IdRequest) (t : TaskRow) (x : Place) (l : GrantedLock)
    → KeepsForm (Commands.Allocate task r.lock_kind r.sequence r.previous r.at r.granularity r.now) → DoesRun b t → place b.segments b.pendings t.source r.at r.granularity ≡ Ok x → grant_lock b.posses (counters_at b r.now) t (record { lock_kind = r.lock_kind; span = x.span }) ≡ Ok l
    → HasIdRows (book_granted b t.task l.granted) → HasIdRows (allotted (pending_for t r x l) (book_granted b t.task l.granted))
allots_fit b sound room task r t x l form runs placed grants h =
    let limits = sound.shape.limits in
    let own = allocate_form task r.lock_kind r.sequence r.previous r.at r.granularity r.now form in
    let locks : HasSoundLocks b = (shape_has_lock_shape b sound.shape, sound.compatible_locks) in
    let span : is_span x.span ≡ true = new_span b t.source r.at r.granularity x (record { segments = limits.segments; pendings = limits.pendings; rooted = sound.rooted }) placed in
    let w : Want = record { lock_kind = r.lock_kind; span = x.span } in
    let after : List PosseRow = posses_after b.posses t.task l.granted in
    let ground = ground_granted b.tasks (length b.publications) b.posses (counters_at b r.now) t w l.granted (at_work b t locks runs.among runs.runs) span (ground_of b r.now locks own.moment_is) (ap granted_of grants) in
    let stood = granted_stands b.posses (counters_at b r.now) t w l grants in
    let version : is_instant l.version ≡ true = subst (λ v. is_instant v ≡ true) stood.version_is (posse_version stood.lock (In-list_all is_posse_row stood.lock after stood.among ground.rows.rows)) in
    allotted_rows (pending_for t r x l) (book_granted b t.task l.granted) (record {
      source_is = (texts_of b.tasks t limits.tasks runs.among).source;
      span_is = span;
      version_is = version_fits x.version l.version (place_version b t.source r.at r.granularity x limits.segments limits.pendings placed) version;
      sequence_is = own.named;
      previous_is = own.after;
    }) room h
