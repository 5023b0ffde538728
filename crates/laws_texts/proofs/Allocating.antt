-- An id that is allocated, or was allocated for the same request: its span and its version have texts.
use Rattle.std.proofs.Common.{◌&&◌, ◌≡◌, ◌∷◌, Bool, Err, List, None, Ok, Option, Result, Some, [], cond, false, find, map, refl, true, ℕ, ℤ}
use Rattle.std.specs.Prelude.{unwrap_or}
use Rattle.std.specs.List.{list_all}
use Rattle.std.proofs.lemmas.Bool.{and_from}
use Rattle.iv_span.specs.Extent.{Extent, has}
use Rattle.iv_time.specs.Buckets.{and_finer}
use Rattle.iv_time.specs.Range.{is_instant}
use Rattle.iv_time.specs.declared.granularity.Granularity.{Granularity}
use Rattle.seg_names.specs.declared.seg_id.SegId.{SegId}
use Rattle.book_rows.specs.Allocation.{allotted, allotted_id, bucket_place, fits_request, free_bucket, is_cut_by, is_known, is_pending_at, known_fault, known_pending, lost_fault, place, place_by, uncut}
use Rattle.book_rows.specs.Fits.{id_fits, reply_fits, span_fits}
use Rattle.book_rows.specs.Grant.{book_granted, counters_at, grant_lock, moment}
use Rattle.book_rows.specs.LockSteps.{IdRequest, allocate_by, allocated, allotted_outcome, join_known, known, pending_for, placed}
use Rattle.book_rows.specs.Locks.{is_lost, is_member_of, joined, least, posse_of}
use Rattle.book_rows.specs.Outcome.{changed, fitted_by, no_room, refused_or, repeated}
use Rattle.book_rows.specs.Spans.{is_span}
use Rattle.book_rows.specs.Visible.{is_visible}
use Rattle.book_rows.specs.declared.answers.GrantedLock.{GrantedLock}
use Rattle.book_rows.specs.declared.answers.NewPending.{NewPending}
use Rattle.book_rows.specs.declared.answers.Place.{Place}
use Rattle.book_rows.specs.declared.kinds.Table.{Table}
use Rattle.book_rows.specs.declared.kinds.Table.TheVariants as Tables
use Rattle.book_rows.specs.declared.replies.Refusal.{Refusal}
use Rattle.book_rows.specs.declared.replies.Refusal.TheVariants as Refusals
use Rattle.book_rows.specs.declared.replies.Reply.TheVariants as Replies
use Rattle.book_rows.specs.declared.rows.Book.{Book}
use Rattle.book_rows.specs.declared.rows.PendingRow.{PendingRow}
use Rattle.book_rows.specs.declared.rows.PosseRow.{PosseRow}
use Rattle.book_rows.specs.declared.rows.SegmentRow.{SegmentRow}
use Rattle.book_rows.specs.declared.rows.TaskRow.{TaskRow}
use Rattle.book_rows.specs.declared.rows.Want.{Want}
use Rattle.laws_locks.specs.Commands.{HasPlaces}
use Rattle.laws_locks.specs.LockShape.{HasSoundLocks}
use Rattle.laws_locks.proofs.Allocating.{new_span}
use Rattle.std.proofs.lemmas.Bool.{and_parts}
use Rattle.laws_texts.proofs.Limited.{id_version_texts, pendings_texts, segments_texts, span_texts}
use Rattle.laws_texts.proofs.Lists.{found_passes, passes_if_some}
use Rattle.laws_texts.proofs.Locking.{grant_fits, granted_texts}
use Rattle.laws_texts.proofs.Outcomes.{cond_fits, error_fits, fault_fits, unless_fits}

-- ---- an id that is known

lost_fits : (o : Option PosseRow) → fault_fits (lost_fault o) ≡ true
lost_fits None = refl
lost_fits (Some q) = refl

joined_fits : (member : Bool) (b after : Book) (p : PendingRow) → id_fits p.id ≡ true → reply_fits (cond member (repeated b (Replies.Allocate p.id p.posse [])) (changed after (Replies.Allocate p.id p.posse []))).reply ≡ true
joined_fits true b after p h = h
joined_fits false b after p h = h

known_fits : (b : Book) (r : IdRequest) (t : TaskRow) (p : PendingRow) → id_fits p.id ≡ true → reply_fits (known b r t p).reply ≡ true
known_fits b r t p h =
    unless_fits (known_fault b.posses t r.lock_kind r.at p) b (join_known b r.now t.task p)
    (cond_fits (has p.id.span r.at && fits_request t r.lock_kind (posse_of p.posse b.posses)) (lost_fault (least (is_lost t.task t.source p.id.span) b.posses)) (Some (Refusals.SequenceMismatch p.id))
    (lost_fits (least (is_lost t.task t.source p.id.span) b.posses)) h)
    (joined_fits (is_member_of (posse_of p.posse b.posses) t.task) b (record b { clock = moment b r.now; posses = map (joined p.posse t.task) b.posses }) p h)

-- ---- the place of a new one

-- the version of the place, if it has one, is an instant
abbrev dated : Result Place Refusal → Bool
dated (Err why) = true
dated (Ok x) = passes_if_some is_instant x.version

uncut_fits : (a : SegId) (o : Option SegmentRow) → passes_if_some (λ r. id_fits r.id) o ≡ true → error_fits (uncut a o) ≡ true
uncut_fits a None h = refl
uncut_fits a (Some r) h = h

uncut_dated : (a : SegId) (o : Option SegmentRow) → id_fits a ≡ true → dated (uncut a o) ≡ true
uncut_dated a None h = id_version_texts a h
uncut_dated a (Some r) h = refl

bucket_fits : (at : ℤ) (o : Option Extent) → is_instant at ≡ true → error_fits (bucket_place at o) ≡ true
bucket_fits at None h = h
bucket_fits at (Some span) h = refl

bucket_dated : (at : ℤ) (o : Option Extent) → dated (bucket_place at o) ≡ true
bucket_dated at None = refl
bucket_dated at (Some span) = refl

place_by_fits : (r : Option SegmentRow) (p : Option PendingRow) (rows : List SegmentRow) (at : ℤ) (bucket : Option Extent) → list_all (λ r. id_fits r.id) rows ≡ true → is_instant at ≡ true → error_fits (place_by r p rows at bucket) ≡ true
place_by_fits (Some r) p rows at bucket h i = uncut_fits r.id (find (is_cut_by r.id) rows) (found_passes (λ r. id_fits r.id) (is_cut_by r.id) rows h)
place_by_fits None (Some p) rows at bucket h i = refl
place_by_fits None None rows at bucket h i = bucket_fits at bucket i

place_by_dated : (r : Option SegmentRow) (p : Option PendingRow) (rows : List SegmentRow) (at : ℤ) (bucket : Option Extent) → passes_if_some (λ r. id_fits r.id) r ≡ true → passes_if_some (λ p. id_fits p.id) p ≡ true
    → dated (place_by r p rows at bucket) ≡ true
place_by_dated (Some r) p rows at bucket h k = uncut_dated r.id (find (is_cut_by r.id) rows) h
place_by_dated None (Some p) rows at bucket h k = id_version_texts p.id k
place_by_dated None None rows at bucket h k = bucket_dated at bucket

place_fits : (b : Book) (source : List ℕ) (at : ℤ) (g : Granularity) → HasPlaces b → is_instant at ≡ true → error_fits (place b.segments b.pendings source at g) ≡ true
place_fits b source at g h i =
    place_by_fits (find (is_visible b.segments source at) b.segments) (find (is_pending_at source at) b.pendings) b.segments at (free_bucket b.segments b.pendings source at (and_finer g)) (segments_texts b.segments h.segments) i

place_dated : (b : Book) (source : List ℕ) (at : ℤ) (g : Granularity) → HasPlaces b → dated (place b.segments b.pendings source at g) ≡ true
place_dated b source at g h =
    place_by_dated (find (is_visible b.segments source at) b.segments) (find (is_pending_at source at) b.pendings) b.segments at (free_bucket b.segments b.pendings source at (and_finer g))
    (found_passes (λ r. id_fits r.id) (is_visible b.segments source at) b.segments (segments_texts b.segments h.segments))
    (found_passes (λ p. id_fits p.id) (is_pending_at source at) b.pendings (pendings_texts b.pendings h.pendings))

-- ---- a new id

-- the version of the place, or that of the lock
version_fits : (v : Option ℤ) (version : ℤ) → passes_if_some is_instant v ≡ true → is_instant version ≡ true → is_instant (unwrap_or v version) ≡ true
version_fits (Some v) version h k = h
version_fits None version h k = k

allotted_fits : (o : Option Table) (b after : Book) (n : NewPending) (revoked : List ℕ) → span_fits n.span ≡ true → (HasSoundLocks (allotted n after) → is_instant n.version ≡ true)
    → HasSoundLocks (fitted_by o b (changed (allotted n after) (Replies.Allocate (allotted_id after.chunks n) n.posse revoked))).book
    → reply_fits (fitted_by o b (changed (allotted n after) (Replies.Allocate (allotted_id after.chunks n) n.posse revoked))).reply ≡ true
allotted_fits (Some table) b after n revoked s v h = refl
allotted_fits None b after n revoked s v h = and_from (span_fits n.span) (is_instant n.version) s (v h)

allocated_by_fits : (o : Result GrantedLock Refusal) (b : Book) (r : IdRequest) (t : TaskRow) (x : Place) → grant_lock b.posses (counters_at b r.now) t (record { lock_kind = r.lock_kind; span = x.span }) ≡ o → error_fits o ≡ true → is_span x.span ≡ true → passes_if_some is_instant x.version ≡ true
    → HasSoundLocks (refused_or o b (λ l. allotted_outcome b t l (pending_for t r x l))).book → reply_fits (refused_or o b (λ l. allotted_outcome b t l (pending_for t r x l))).reply ≡ true
allocated_by_fits (Err why) b r t x is e s v h = e
allocated_by_fits (Ok l) b r t x is e s v h =
    let n : NewPending = pending_for t r x l in
    let w : Want = record { lock_kind = r.lock_kind; span = x.span } in
    let after : Book = book_granted b t.task l.granted in
    allotted_fits (no_room (Tables.Locks ∷ Tables.Numbers ∷ Tables.Chunks ∷ Tables.Parts ∷ Tables.Pendings ∷ []) (allotted n after)) b after n l.granted.revoked (span_texts x.span s)
    (λ k. version_fits x.version l.version v (and_parts (span_fits l.span) (is_instant l.version) (granted_texts b.posses (counters_at b r.now) t w l is k.0.locks.rows)).1) h

placed_fits : (o : Result Place Refusal) (b : Book) (r : IdRequest) (t : TaskRow) → error_fits o ≡ true → dated o ≡ true → ((x : Place) → o ≡ Ok x → is_span x.span ≡ true)
    → HasSoundLocks (refused_or o b (placed b r t)).book → reply_fits (refused_or o b (placed b r t)).reply ≡ true
placed_fits (Err why) b r t e v s h = e
placed_fits (Ok x) b r t e v s h =
    let w : Want = record { lock_kind = r.lock_kind; span = x.span } in
    allocated_by_fits (grant_lock b.posses (counters_at b r.now) t w) b r t x refl (grant_fits b.posses (counters_at b r.now) t w) (s x refl) v h

-- ---- either

allocate_by_fits : (o : Option PendingRow) (b : Book) (r : IdRequest) (t : TaskRow) → HasPlaces b → is_instant r.at ≡ true → passes_if_some (λ p. id_fits p.id) o ≡ true
    → HasSoundLocks (allocate_by o b r t).book → reply_fits (allocate_by o b r t).reply ≡ true
allocate_by_fits (Some p) b r t places i k h = known_fits b r t p k
allocate_by_fits None b r t places i k h =
    placed_fits (place b.segments b.pendings t.source r.at r.granularity) b r t (place_fits b t.source r.at r.granularity places i) (place_dated b t.source r.at r.granularity places) (λ x e. new_span b t.source r.at r.granularity x places e) h

pub allocated_fits : (b : Book) (r : IdRequest) (t : TaskRow) → HasPlaces b → is_instant r.at ≡ true → HasSoundLocks (allocated b r t).book → reply_fits (allocated b r t).reply ≡ true
allocated_fits b r t places i h =
    allocate_by_fits (known_pending b.pendings t.source r.sequence r.previous) b r t places i
    (found_passes (λ p. id_fits p.id) (is_known t.source r.sequence r.previous) b.pendings (pendings_texts b.pendings places.pendings)) h
