-- The worked cases of the laws on places, chunks and pendings.
use Rattle.std.proofs.Common.{[], ap, false, inl, inr, int_lt, refl, subst, sym, true, ℕ, ◌∙◌, ◌∷◌, ◌≡◌}
use Rattle.std.proofs.lemmas.Bool.{false≢true}
use Rattle.std.specs.Ordering.{int_eq}
use Rattle.std.specs.Prelude.{codes, pos}
use Rattle.iv_span.specs.Extent.{Extent, overlap}
use Rattle.seg_names.specs.declared.seg_id.SegId.{SegId}
use Rattle.book_rows.specs.Lists.{In}
use Rattle.book_rows.specs.Live.{IsIn, IsLive, IsSameChunk}
use Rattle.book_rows.specs.declared.kinds.LockKind.TheVariants as LockKinds
use Rattle.book_rows.specs.declared.rows.ChunkRow.{ChunkRow}
use Rattle.book_rows.specs.declared.rows.PendingRow.{PendingRow}
use Rattle.book_rows.specs.declared.rows.PosseRow.{PosseRow}
use Rattle.book_rows.specs.declared.rows.SegmentRow.{SegmentRow}
use Rattle.laws_chunks.specs.Allotments.{HasLock, IsNewPending}
use Rattle.laws_chunks.specs.ChunksSound.{AreChunksSound}
use Rattle.cases_locks.specs.Day.{first_pending, hour, hour_id, locked, source, writer}
use Rattle.scenes.specs.Script.{after, now}
use Rattle.scenes.specs.Publishing.{used_row}
use Rattle.scenes.specs.Rows.{p_row}
use Rattle.cases_locks.specs.LockCases.{append_lock, third_hour, third_lock, under}
use Rattle.laws_chunks.specs.Openings.{IsAllotment, IsChunk}
use Rattle.cases_locks.specs.PlaceCases.{AnIdIsAllocated, IdsAreAllotted, PlacesAreOpen, PlacesStayOpen, asked_hour, chunk_row, hour_place, new_in_hour, new_in_third, new_row, own_lock, relocked, with_third}
use Rattle.laws_chunks.specs.Places.{IsBare, IsBucket, IsOpenIn, IsUncut}
use Rattle.laws_chunks.proofs.AllocatedIds.{allocated_keeps}
use Rattle.laws_chunks.proofs.AllottedIds.{allotted_keeps}
use Rattle.laws_chunks.proofs.AllottingRoots.{allotment_keeps, chunk_keeps}
use Rattle.cases_locks.proofs.DayBooks.{locked_reached, relocked_reached}
use Rattle.laws_chunks.proofs.GrantingLocks.{grant_keeps}
use Rattle.cases_locks.proofs.LockCaseLaws.{third_granted, under_sound}
use Rattle.laws_chunks.proofs.OpenPlacesFound.{bucket_place, grant_open, join_open, pending_place, revoke_open, row_place}

-- ---- places

same_chunk : (n m : ℕ) → IsSameChunk (hour_id n) (hour_id m)
same_chunk n m = record { source_is = refl; span_is = refl; version_is = refl }

row_uncut : IsUncut under (used_row (hour_id 0) (hour_id 0) 0)
row_uncut = record { among = inl refl; used = refl; uncut = uncut } where
  uncut : (w : SegmentRow) → In w under.segments → w.used ≡ true → w.id.source ≡ source → overlap w.id.span hour ≡ true → int_lt (pos 0) w.id.version ≡ false
  uncut w (inl e) used from meets = subst (λ (x : SegmentRow). int_lt (pos 0) x.id.version ≡ false) (sym e) refl
  uncut w (inr i) used from meets = absurd i

hour_open : (n : ℕ) → IsOpenIn under (hour_id n)
hour_open n = row_place under (used_row (hour_id 0) (hour_id 0) 0) (hour_id n) under_sound row_uncut (same_chunk n 0)

first_bare : IsBare (after locked) first_pending (pos 0)
first_bare = record { among = inl refl; at = refl; none = λ w i. absurd i }

-- the lock that is asked for anew
new_lock : PosseRow
new_lock = record (append_lock (writer ∷ []) false) { number = 3 }

hour_bucket : IsBucket (after relocked) (hour_id 2)
unfolding new_lock
hour_bucket = record {
  chunk = chunk_row hour 2;
  among = inl refl;
  is_in = record { source_is = refl; span_is = refl; version_is = refl };
  lock = new_lock;
  is_valid = record { among = inr (inl refl); valid = refl };
  source_is = refl;
  version_is = refl;
  within = refl;
  empty = λ x l. absurd (dead x l);
} where
  dead : (x : SegId) → IsLive [] [] x → ⊥
  dead x (inl u) = u.1
  dead x (inr p) = p.1

pub places_are_open : PlacesAreOpen
places_are_open = record {
  by_row = row_uncut;
  row_open = hour_open 2;
  by_pending = first_bare;
  pending_open = pending_place (after locked) first_pending (pos 0) (hour_id 2) locked_reached.chunks first_bare (same_chunk 2 0);
  by_bucket = hour_bucket;
  bucket_open = bucket_place (after relocked) (hour_id 2) relocked_reached.chunks hour_bucket;
}

pub places_stay_open : PlacesStayOpen
places_stay_open = record {
  no_pending = refl;
  after_revoking = revoke_open (1 ∷ 2 ∷ []) under (hour_id 2) (hour_open 2);
  after_joining = join_open (1 ∷ []) (codes "x") under (hour_id 2) (hour_open 2);
  after_granting = grant_open third_lock now under (hour_id 2) third_granted under_sound (hour_open 2);
}

-- ---- chunks and pendings

third_is_new : (e : ChunkRow) (a : SegId) → In e under.chunks → IsIn e a → IsIn (chunk_row third_hour 0) a → ⊥
third_is_new e a (inl is) of_e of_c =
    let same : third_hour ≡ hour = sym of_c.span_is ∙ (of_e.span_is ∙ ap (λ (x : ChunkRow). x.span) is) in
    false≢true (ap (λ (x : Extent). int_eq x.start (pos 0)) same)
third_is_new e a (inr i) of_e of_c = absurd i

third_chunk : IsChunk under (chunk_row third_hour 0)
third_chunk = record { core_is = refl; is_new = third_is_new; maker = inl refl; proper = refl }

next_part : (c : ChunkRow) → In c under.chunks → IsIn c (hour_id 2) → 2 ≡ c.next
next_part c (inl e) k = sym (ap (λ (x : ChunkRow). x.next) e)
next_part c (inr i) k = absurd i

row_allotment : IsAllotment under new_row
row_allotment = record {
  is_open = hour_open 2;
  is_root = refl;
  has_posse = record { posse = append_lock (writer ∷ []) false; is_valid = record { among = inl refl; valid = refl }; number_is = refl; source_is = refl; covers_root = refl };
  part_is = next_part;
}

not_replacing : LockKinds.Append ≡ LockKinds.Replace → ⊥
not_replacing e = cc

new_is_open : IsNewPending under new_in_hour
new_is_open = record {
  has_lock = record { lock = append_lock (writer ∷ []) false; is_valid = record { among = inl refl; valid = refl }; number_is = refl; kind_is = not_replacing; source_is = refl; within = refl };
  at = inl (hour_open 0);
}

-- what is live is of the hour
live_hour : (x : SegId) → IsLive under.segments under.pendings x → x.span ≡ hour
live_hour x (inl u) = sym (ap (λ (a : SegId). a.span) u.3) ∙ row_hour u.0 u.1 where
  row_hour : (r : SegmentRow) → In r under.segments → r.id.span ≡ hour
  row_hour r (inl e) = ap (λ (y : SegmentRow). y.id.span) e
  row_hour r (inr i) = absurd i
live_hour x (inr p) = sym (ap (λ (a : SegId). a.span) p.2) ∙ pending_hour p.0 p.1 where
  pending_hour : (r : PendingRow) → In r under.pendings → r.id.span ≡ hour
  pending_hour r (inl e) = ap (λ (y : PendingRow). y.id.span) e
  pending_hour r (inr i) = absurd i

third_lock_there : HasLock with_third new_in_third
third_lock_there = record { lock = third_lock; is_valid = record { among = inr (inr (inl refl)); valid = refl }; number_is = refl; kind_is = not_replacing; source_is = refl; within = refl }

new_is_unmet : IsNewPending with_third new_in_third
unfolding third_lock_there
new_is_unmet = record {
  has_lock = third_lock_there;
  at = inr (record {
    version_is = refl;
    proper = refl;
    empty = λ x l from. subst (λ (s : Extent). overlap s third_hour ≡ false) (sym (live_hour x l)) refl;
  });
}

with_third_sound : AreChunksSound with_third
with_third_sound = grant_keeps third_lock now under third_granted under_sound

pub ids_are_allotted : IdsAreAllotted
ids_are_allotted = record {
  is_chunk = third_chunk;
  made = record { before = under_sound; changed = chunk_keeps (chunk_row third_hour 0) under third_chunk under_sound };
  made_chunks = refl;
  is_allotment = row_allotment;
  with_root = record { before = under_sound; changed = allotment_keeps new_row under row_allotment under_sound };
  root_chunks = refl;
  root_pendings = refl;
  is_new = new_is_open;
  with_new = record { before = under_sound; changed = allotted_keeps new_in_hour under new_is_open under_sound };
  new_pendings = refl;
  is_first = new_is_unmet;
  with_first = record { before = with_third_sound; changed = allotted_keeps new_in_third with_third new_is_unmet with_third_sound };
  first_chunks = refl;
  first_pendings = refl;
}

pub an_id_is_allocated : AnIdIsAllocated
an_id_is_allocated = record {
  not_replacing = not_replacing;
  place_is = refl;
  lock_is = refl;
  both = record { before = under_sound; changed = allocated_keeps under asked_hour p_row hour_place own_lock not_replacing refl refl under_sound };
  pendings_are = refl;
}
