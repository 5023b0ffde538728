-- An id is allocated, under a lock that is granted or joined.
use Rattle.std.proofs.Common.{Bool, Err, List, None, Ok, Option, Result, Some, [], ap, bytes_eq, cond, false, find, inl, inr, length, map, refl, subst, sym, true, ℕ, ℤ, ◌&&◌, ◌++◌, ◌==◌, ◌∙◌, ◌∷◌, ◌≡◌}
use Rattle.std.specs.List.{list_all}
use Rattle.std.proofs.lemmas.Bool.{and_parts, cases_Bool, false≢true}
use Rattle.std.proofs.lemmas.Bool.Decides.{Decides-eqb}
use Rattle.std.proofs.lemmas.Slice.Eq.{bytes_eq-Decides}
use Rattle.iv_span.specs.Extent.{Extent, has}
use Rattle.iv_time.specs.Buckets.{bucket_of, and_finer}
use Rattle.iv_time.specs.Range.{is_instant}
use Rattle.iv_time.specs.declared.granularity.Granularity.{Granularity}
use Rattle.seg_names.specs.Names.{is_name, is_task_id}
use Rattle.seg_names.specs.declared.seg_id.SegId.{SegId}
use Rattle.book_rows.specs.Allocation.{allotted, allotted_id, fits_request, free_bucket, free_or, is_cut_by, is_free, is_known, is_pending_at, is_root, known_fault, known_pending, lost_fault, place, place_by, uncut}
use Rattle.book_rows.specs.Form.{is_id, is_optional_id, may_allocate}
use Rattle.book_rows.specs.Grant.{book_granted, counters_at, grant_lock, granted_of, moment}
use Rattle.book_rows.specs.Ids.{same_previous}
use Rattle.book_rows.specs.Kinds.{same_kind}
use Rattle.book_rows.specs.Lists.{In}
use Rattle.book_rows.specs.LockSteps.{IdRequest, allocate_by, allocated, allotted_outcome, join_known, pending_for, placed}
use Rattle.book_rows.specs.Locks.{is_lost, is_member, is_member_of, joined, least, posse_of}
use Rattle.book_rows.specs.Outcome.{Outcome, refused_or, task_of, unless}
use Rattle.book_rows.specs.Shape.{HasMembers, HaveMembers, is_pending_row, is_segment_row}
use Rattle.book_rows.specs.Spans.{is_span}
use Rattle.book_rows.specs.Visible.{is_visible}
use Rattle.book_rows.specs.declared.answers.GrantedLock.{GrantedLock}
use Rattle.book_rows.specs.declared.answers.NewPending.{NewPending}
use Rattle.book_rows.specs.declared.answers.Place.{Place}
use Rattle.book_rows.specs.declared.kinds.LockKind.{LockKind}
use Rattle.book_rows.specs.declared.kinds.Table.TheVariants as Tables
use Rattle.book_rows.specs.declared.kinds.TaskStatus.TheVariants as Statuses
use Rattle.book_rows.specs.declared.replies.Refusal.{Refusal}
use Rattle.book_rows.specs.declared.replies.Refusal.TheVariants as Refusals
use Rattle.book_rows.specs.declared.replies.Reply.TheVariants as Replies
use Rattle.book_rows.specs.declared.rows.Book.{Book}
use Rattle.book_rows.specs.declared.rows.PendingRow.{PendingRow}
use Rattle.book_rows.specs.declared.rows.PosseRow.{PosseRow}
use Rattle.book_rows.specs.declared.rows.SegmentRow.{SegmentRow}
use Rattle.book_rows.specs.declared.rows.TaskRow.{TaskRow}
use Rattle.laws_locks.specs.Commands.{AllocateKeepsLocks, HasPlaces}
use Rattle.laws_locks.specs.LockShape.{HasSoundLocks}
use Rattle.laws_locks.proofs.Buckets.{bucket_is_span}
use Rattle.laws_locks.proofs.Granting.{at_work, ground_of, sound_of}
use Rattle.laws_locks.proofs.Grounds.{IsAtWork, ground_granted, has_joined, task_limits}
use Rattle.laws_locks.proofs.Instants.{later_is_instant}
use Rattle.laws_locks.proofs.Lists.{In-list_all, In-map, found_In, pairs_map}
use Rattle.laws_locks.proofs.LockRows.{rows_joined_at}
use Rattle.laws_locks.proofs.LookUps.{one_number}
use Rattle.laws_locks.proofs.Managing.{map_length}
use Rattle.laws_locks.proofs.Rooms.{fitted_keeps, lock_room, running_keeps}

-- ---- the place is a span

id_span : (a : SegId) → is_id a ≡ true → is_span a.span ≡ true
id_span a h = (and_parts (is_name a.source) (is_span a.span) (and_parts (is_name a.source && is_span a.span) (is_instant a.version) (and_parts (is_name a.source && is_span a.span && is_instant a.version) _ h).0).0).1

segment_span : (rows : List SegmentRow) (r : SegmentRow) → list_all is_segment_row rows ≡ true → In r rows → is_span r.id.span ≡ true
segment_span rows r h i = id_span r.id (and_parts (is_id r.id) (is_id r.root) (In-list_all is_segment_row r rows i h)).0

pending_span : (ps : List PendingRow) (p : PendingRow) → list_all is_pending_row ps ≡ true → In p ps → is_span p.id.span ≡ true
pending_span ps p h i =
    id_span p.id (and_parts (is_id p.id) (is_id p.root) (and_parts (is_id p.id && is_id p.root) (is_name p.sequence) (and_parts (is_id p.id && is_id p.root && is_name p.sequence) (is_optional_id p.previous) (In-list_all is_pending_row p ps i h)).0).0).0

place_span : (x y : Place) → ◌≡◌ {A = Result Place Refusal} (Ok x) (Ok y) → is_span x.span ≡ true → is_span y.span ≡ true
place_span x y e h = let same : x ≡ y = cc in subst (λ (z : Place). is_span z.span ≡ true) same h

extent_span : (s t : Extent) → Some s ≡ Some t → is_span s ≡ true → is_span t ≡ true
extent_span s t e h = let same : s ≡ t = cc in subst (λ (z : Extent). is_span z ≡ true) same h

free_span : (rows : List SegmentRow) (ps : List PendingRow) (source : List ℕ) (g : Granularity) (at : ℤ) (o : Option (ℤ × ℤ)) (rest : Option Extent) (s : Extent) → bucket_of g at ≡ o → (rest ≡ Some s → is_span s ≡ true)
    → free_or rows ps source o rest ≡ Some s → is_span s ≡ true
free_span rows ps source g at None rest s e f same = f same
free_span rows ps source g at (Some ends) rest s e f same = elim (cases_Bool (is_free rows ps source (record { start = ends.0; end = ends.1 }))) [
  | inl on ↦ extent_span (record { start = ends.0; end = ends.1 }) s (rw on at same) (bucket_is_span g at ends e)
  | inr off ↦ f (rw off at same)
]

bucket_span : (rows : List SegmentRow) (ps : List PendingRow) (source : List ℕ) (at : ℤ) (gs : List Granularity) (s : Extent) → free_bucket rows ps source at gs ≡ Some s → is_span s ≡ true
bucket_span rows ps source at [] s e = cc
bucket_span rows ps source at (g ∷ gs) s e = free_span rows ps source g at (bucket_of g at) (free_bucket rows ps source at gs) s refl (bucket_span rows ps source at gs s) e

uncut_span : (a : SegId) (o : Option SegmentRow) (x : Place) → uncut a o ≡ Ok x → is_span a.span ≡ true → is_span x.span ≡ true
uncut_span a None x e h = place_span _ x e h
uncut_span a (Some r) x e h = cc

placed_span : (r : Option SegmentRow) (p : Option PendingRow) (rows : List SegmentRow) (at : ℤ) (bucket : Option Extent) (x : Place) → place_by r p rows at bucket ≡ Ok x
    → ((r' : SegmentRow) → r ≡ Some r' → is_span r'.id.span ≡ true) → ((p' : PendingRow) → p ≡ Some p' → is_span p'.id.span ≡ true) → ((s : Extent) → bucket ≡ Some s → is_span s ≡ true) → is_span x.span ≡ true
placed_span (Some r) p rows at bucket x e f g h = uncut_span r.id (find (is_cut_by r.id) rows) x e (f r refl)
placed_span None (Some p) rows at bucket x e f g h = place_span _ x e (g p refl)
placed_span None None rows at None x e f g h = cc
placed_span None None rows at (Some s) x e f g h = place_span _ x e (h s refl)

pub new_span : (b : Book) (source : List ℕ) (at : ℤ) (g : Granularity) (x : Place) → HasPlaces b → place b.segments b.pendings source at g ≡ Ok x → is_span x.span ≡ true
new_span b source at g x h e =
    placed_span (find (is_visible b.segments source at) b.segments) (find (is_pending_at source at) b.pendings) b.segments at (free_bucket b.segments b.pendings source at (and_finer g)) x e
    (λ r found. segment_span b.segments r h.segments (found_In (is_visible b.segments source at) r b.segments found).0)
    (λ p found. pending_span b.pendings p h.pendings (found_In (is_pending_at source at) p b.pendings found).0)
    (λ s found. bucket_span b.segments b.pendings source at (and_finer g) s found)

-- ---- a new id

new_keeps : (o : Result GrantedLock Refusal) (b : Book) (r : IdRequest) (t : TaskRow) (x : Place) → HasSoundLocks b → In t b.tasks → t.status ≡ Statuses.Running → is_span x.span ≡ true → is_instant r.now ≡ true
    → grant_lock b.posses (counters_at b r.now) t (record { lock_kind = r.lock_kind; span = x.span }) ≡ o → HasSoundLocks (refused_or o b (λ l. allotted_outcome b t l (pending_for t r x l))).book
new_keeps (Err why) b r t x h among runs proper i e = h
new_keeps (Ok l) b r t x h among runs proper i e =
    let n : NewPending = pending_for t r x l in
    let granted : Book = book_granted b t.task l.granted in
    fitted_keeps HasSoundLocks (Tables.Locks ∷ Tables.Numbers ∷ Tables.Chunks ∷ Tables.Parts ∷ Tables.Pendings ∷ []) b (allotted n granted) (Replies.Allocate (allotted_id b.chunks n) n.posse l.granted.revoked) h
    (λ room. sound_of b t.task l.granted h
    (ground_granted b.tasks (length b.publications) b.posses (counters_at b r.now) t (record { lock_kind = r.lock_kind; span = x.span }) l.granted (at_work b t h among runs) proper (ground_of b r.now h i) (ap granted_of e))
    (lock_room (Tables.Chunks ∷ Tables.Parts ∷ Tables.Pendings ∷ []) (allotted n granted) room))

placed_keeps : (o : Result Place Refusal) (b : Book) (r : IdRequest) (t : TaskRow) → HasSoundLocks b → In t b.tasks → t.status ≡ Statuses.Running → is_instant r.now ≡ true
    → ((x : Place) → o ≡ Ok x → is_span x.span ≡ true) → HasSoundLocks (refused_or o b (placed b r t)).book
placed_keeps (Err why) b r t h among runs i f = h
placed_keeps (Ok x) b r t h among runs i f =
    new_keeps (grant_lock b.posses (counters_at b r.now) t (record { lock_kind = r.lock_kind; span = x.span })) b r t x h among runs (f x refl) i refl

-- ---- a known id, whose lock the task joins

-- the lock that is joined is of the task's group, source and priority, and the task no member of it
record IsJoinable (t : TaskRow) (q : PosseRow) : Type 0 where
  new : is_member t.task q ≡ false
  group_is : q.group ≡ t.group
  source_is : q.source ≡ t.source
  priority_is : q.priority ≡ t.priority

joins_one : (ts : List TaskRow) (t : TaskRow) (q : PosseRow) (b : Bool) → IsAtWork ts t → (b ≡ true → IsJoinable t q) → HasMembers ts q → HasMembers ts (record q { members = cond b (q.members ++ t.task ∷ []) q.members })
joins_one ts t q false work f m = m
joins_one ts t q true work f m =
    let j = f refl in
    has_joined ts t q (t.task ∷ []) q.revoked work (record { extra_is = inr refl; new = λ i. j.new; group_is = λ i. j.group_is; source_is = λ i. j.source_is; priority_is = λ i. j.priority_is }) m

members_joined_at : (ts : List TaskRow) (t : TaskRow) (n : ℕ) (qs : List PosseRow) → IsAtWork ts t → ((q : PosseRow) → In q qs → (q.number == n) ≡ true → IsJoinable t q) → HaveMembers ts qs → HaveMembers ts (map (joined n t.task) qs)
members_joined_at ts t n qs work f h q i =
    let from = In-map (joined n t.task) q qs i in
    subst (λ (x : PosseRow). HasMembers ts x) (sym from.2) (joins_one ts t from.0 (from.0.number == n) work (f from.0 from.1) (h from.0 from.1))

join_keeps : (b : Book) (t : TaskRow) (n : ℕ) (now : ℤ) → HasSoundLocks b → In t b.tasks → t.status ≡ Statuses.Running → is_instant now ≡ true → ((q : PosseRow) → In q b.posses → (q.number == n) ≡ true → IsJoinable t q)
    → HasSoundLocks (record b { clock = moment b now; posses = map (joined n t.task) b.posses })
join_keeps b t n now h among runs i f =
    let work = at_work b t h among runs in (
      record {
        room = record { tasks = h.0.room.tasks; locks = rw (map_length (joined n t.task) b.posses) h.0.room.locks; numbers = h.0.room.numbers };
        instants = record { clock = later_is_instant now b.clock i h.0.instants.clock; last = h.0.instants.last };
        tasks = h.0.tasks;
        locks = rows_joined_at b.last b.next_lock (length b.publications) n t.task b.posses (task_limits t work.limits) h.0.locks;
        members = members_joined_at b.tasks t n b.posses work f h.0.members;
      },
      pairs_map _ _ (joined n t.task) (λ x y r. r) b.posses h.1,
    )

-- the pending's lock is as the request says
fits_by : (t : TaskRow) (kind : LockKind) (o : Option PosseRow) → fits_request t kind o ≡ true → is_member_of o t.task ≡ false → (q : PosseRow) × (o ≡ Some q) × (q.group ≡ t.group) × (q.priority ≡ t.priority) × (is_member t.task q ≡ false)
fits_by t kind None h off = absurd (false≢true h)
fits_by t kind (Some q) h off =
    let high = and_parts (same_kind q.lock_kind kind && bytes_eq q.group t.group) (q.priority == t.priority) h in
    let group = and_parts (same_kind q.lock_kind kind) (bytes_eq q.group t.group) high.0 in
    (q, refl, (bytes_eq-Decides q.group t.group).0 group.1, (Decides-eqb q.priority t.priority).0 high.1, off)

pending_source : (p : PendingRow) (source sequence : List ℕ) (previous : Option SegId) → is_known source sequence previous p ≡ true → p.id.source ≡ source
pending_source p source sequence previous h =
    (bytes_eq-Decides p.id.source source).0
    (and_parts (is_root p) (bytes_eq p.id.source source) (and_parts (is_root p && bytes_eq p.id.source source) (bytes_eq p.sequence sequence) (and_parts (is_root p && bytes_eq p.id.source source && bytes_eq p.sequence sequence) (same_previous p.previous previous) h).0).0).1

joinable : (b : Book) (t : TaskRow) (kind : LockKind) (p : PendingRow) → HasPlaces b → HasSoundLocks b → In p b.pendings → p.id.source ≡ t.source → fits_request t kind (posse_of p.posse b.posses) ≡ true
    → is_member_of (posse_of p.posse b.posses) t.task ≡ false → (q : PosseRow) → In q b.posses → (q.number == p.posse) ≡ true → IsJoinable t q
joinable b t kind p places h among source fits off q i same =
    let f = fits_by t kind (posse_of p.posse b.posses) fits off in
    let found = found_In (λ q. q.number == p.posse) f.0 b.posses f.1 in
    let number : q.number ≡ p.posse = (Decides-eqb q.number p.posse).0 same in
    let one : f.0 ≡ q = one_number b.posses f.0 q h.0.locks.numbers found.0 i ((Decides-eqb f.0.number q.number).1 ((Decides-eqb f.0.number p.posse).0 found.1 ∙ sym number)) in
    let held = (places.rooted p among).has_posse in
    let lock : held.posse ≡ q = one_number b.posses held.posse q h.0.locks.numbers held.is_valid.among i ((Decides-eqb held.posse.number q.number).1 (held.number_is ∙ sym number)) in
    record {
      new = subst (λ (x : PosseRow). is_member t.task x ≡ false) one f.4;
      group_is = subst (λ (x : PosseRow). x.group ≡ t.group) one f.2;
      source_is = subst (λ (x : PosseRow). x.source ≡ t.source) lock (held.source_is ∙ source);
      priority_is = subst (λ (x : PosseRow). x.priority ≡ t.priority) one f.3;
    }

no_fault : (x : Bool) (o : Option Refusal) (why : Refusal) → cond x o (Some why) ≡ None → x ≡ true
no_fault true o why e = refl
no_fault false o why e = cc

join_known_keeps : (member : Bool) (b : Book) (now : ℤ) (t : TaskRow) (p : PendingRow) → is_member_of (posse_of p.posse b.posses) t.task ≡ member → HasSoundLocks b
    → (is_member_of (posse_of p.posse b.posses) t.task ≡ false → HasSoundLocks (record b { clock = moment b now; posses = map (joined p.posse t.task) b.posses })) → HasSoundLocks (join_known b now t.task p).book
join_known_keeps true b now t p e h f = rw e h
join_known_keeps false b now t p e h f = rw e (f e)

known_keeps : (o : Option Refusal) (b : Book) (out : Outcome) → HasSoundLocks b → (o ≡ None → HasSoundLocks out.book) → HasSoundLocks (unless o b out).book
known_keeps (Some why) b out h f = h
known_keeps None b out h f = f refl

allocate_by_keeps : (o : Option PendingRow) (b : Book) (r : IdRequest) (t : TaskRow) → known_pending b.pendings t.source r.sequence r.previous ≡ o → HasPlaces b
    → HasSoundLocks b → In t b.tasks → t.status ≡ Statuses.Running → is_instant r.now ≡ true → HasSoundLocks (allocate_by o b r t).book
allocate_by_keeps None b r t e places h among runs i =
    placed_keeps (place b.segments b.pendings t.source r.at r.granularity) b r t h among runs i (λ x found. new_span b t.source r.at r.granularity x places found)
allocate_by_keeps (Some p) b r t e places h among runs i =
    let found = found_In (is_known t.source r.sequence r.previous) p b.pendings e in
    known_keeps (known_fault b.posses t r.lock_kind r.at p) b (join_known b r.now t.task p) h
    (λ none. join_known_keeps (is_member_of (posse_of p.posse b.posses) t.task) b r.now t p refl h
    (λ off. join_keeps b t p.posse r.now h among runs i
    (joinable b t r.lock_kind p places h found.0 (pending_source p t.source r.sequence r.previous found.1)
    (and_parts (has p.id.span r.at) (fits_request t r.lock_kind (posse_of p.posse b.posses))
    (no_fault (has p.id.span r.at && fits_request t r.lock_kind (posse_of p.posse b.posses)) (lost_fault (least (is_lost t.task t.source p.id.span) b.posses)) (Refusals.SequenceMismatch p.id) none)).1 off)))

pub allocate_keeps_locks : AllocateKeepsLocks
allocate_keeps_locks task kind sequence previous at granularity now b form places h =
    let r : IdRequest = record { lock_kind = kind; sequence = sequence; previous = previous; at = at; granularity = granularity; now = now } in
    running_keeps HasSoundLocks (task_of task b.tasks) b (allocated b r) h
    (λ t found runs. allocate_by_keeps (known_pending b.pendings t.source sequence previous) b r t refl places h (found_In (λ t. bytes_eq t.task task) t b.tasks found).0 runs
    (and_parts (is_task_id task && may_allocate kind && is_name sequence && is_optional_id previous && is_instant at) (is_instant now) form).1)
