-- An allocation that finds a place and is granted its lock keeps the rules on chunks.
use Rattle.std.proofs.Common.{None, ap, inl, inr, refl, subst, sym, ◌∙◌, ◌≡◌}
use Rattle.std.specs.Prelude.{unwrap_or}
use Rattle.seg_names.specs.declared.seg_id.SegId.{SegId}
use Rattle.book_rows.specs.Grant.{book_granted, counters_at, granted_of}
use Rattle.book_rows.specs.Lists.{stands_in}
use Rattle.book_rows.specs.Live.{IsLive}
use Rattle.book_rows.specs.LockSteps.{IdRequest, pending_for}
use Rattle.book_rows.specs.Locks.{stripped}
use Rattle.book_rows.specs.declared.answers.GrantedLock.{GrantedLock}
use Rattle.book_rows.specs.declared.answers.Place.{Place}
use Rattle.book_rows.specs.declared.rows.Book.{Book}
use Rattle.book_rows.specs.declared.rows.TaskRow.{TaskRow}
use Rattle.book_rows.specs.declared.rows.Want.{Want}
use Rattle.laws_chunks.specs.Allotments.{AllocatedKeeps, HasLock, IsNewPending, IsUnmet, id_in}
use Rattle.laws_chunks.specs.ChunksSound.{AreChunksSound}
use Rattle.laws_chunks.specs.Places.{IsOpenIn}
use Rattle.laws_chunks.proofs.AllottedIds.{allotted_keeps}
use Rattle.laws_chunks.proofs.FoundPlaces.{IsFound, IsInBucket, IsInChunk, free_unmet, place_found}
use Rattle.laws_chunks.proofs.GrantedPlaces.{LeavesOpen, leaves_open}
use Rattle.laws_chunks.proofs.GrantedRequests.{granted_keeps}
use Rattle.laws_chunks.proofs.LosingLocks.{stripped_in}
use Rattle.book_rows.specs.declared.kinds.LockKind.TheVariants as LockKinds

module _ (b : Book) (t : TaskRow) (r : IdRequest) (x : Place) (l : GrantedLock) (not_replace : r.lock_kind ≡ LockKinds.Replace → ⊥)
    (h : AreChunksSound b) (left : LeavesOpen b t (record { lock_kind = r.lock_kind; span = x.span }) l) where
  abbrev has_lock : HasLock (book_granted b t.task l.granted) (pending_for t r x l)
  has_lock = record {
    lock = left.has_lock.lock;
    is_valid = left.has_lock.is_valid;
    number_is = left.has_lock.number_is;
    kind_is = λ e. not_replace (sym left.has_lock.kind_is ∙ e);
    source_is = left.has_lock.source_is;
    within = left.has_lock.within;
  }

  in_chunk : IsInChunk b t.source x → IsOpenIn (book_granted b t.task l.granted) (id_in (pending_for t r x l))
  in_chunk c = subst (λ v. IsOpenIn (book_granted b t.task l.granted) (record { source = t.source; span = x.span; version = v; part = 0 })) (sym (ap (λ v. unwrap_or v l.version) c.version_is))
      (left.is_open (record { source = t.source; span = x.span; version = c.version; part = 0 }) c.is_open)

  -- where the place has no version, the lock's own is the pending's
  version_is : x.version ≡ None → unwrap_or x.version l.version ≡ left.has_lock.lock.version
  version_is none = ap (λ v. unwrap_or v l.version) none ∙ sym left.has_lock.version_is

  still_live : (a : SegId) → IsLive b.segments (stripped (stands_in l.granted.revoked) b.pendings) a → IsLive b.segments b.pendings a
  still_live a (inl u) = inl u
  still_live a (inr q) = inr (q.0, stripped_in (stands_in l.granted.revoked) b.pendings q.0 q.1, q.2)

  in_bucket : IsInBucket b t.source x → IsUnmet (book_granted b t.task l.granted) (pending_for t r x l) left.has_lock.lock
  in_bucket c = record {
    version_is = version_is c.version_is;
    proper = c.span_is.proper;
    empty = λ a live e. free_unmet b.segments b.pendings t.source x.span c.span_is.free a (still_live a live) e;
  }

  new_pending : IsFound b t.source x → IsNewPending (book_granted b t.task l.granted) (pending_for t r x l)
  new_pending (inl c) = record { has_lock = has_lock; at = inl (in_chunk c) }
  new_pending (inr c) = record { has_lock = has_lock; at = inr (in_bucket c) }

pub allocated_keeps : AllocatedKeeps
allocated_keeps b r t x l not_replace placed granted h =
    let w : Want = record { lock_kind = r.lock_kind; span = x.span } in
    let after = granted_keeps b r.now t w l.granted (ap granted_of granted) h in
    let left = leaves_open b (counters_at b r.now) t w l (record { last_is = refl; next_is = refl; since_is = refl }) h granted in
    allotted_keeps (pending_for t r x l) (book_granted b t.task l.granted) (new_pending b t r x l not_replace h left (place_found b h t.source r.at r.granularity x placed)) after
