-- An allocated id keeps the rules on chunks.
use Rattle.std.proofs.Common.{List, None, Option, Some, [], inl, inr, map, pos, refl, subst, sym, true, ap, ℕ, ◌++◌, ◌∙◌, ◌∷◌, ◌≡◌, ◌⊎◌}
use Rattle.std.proofs.lemmas.Bool.{false≢true}
use Rattle.seg_names.specs.declared.seg_id.SegId.{SegId}
use Rattle.book_rows.specs.Allocation.{allotted, allotted_id, allotted_row, bumped, chunk_of, is_of_chunk, new_chunk, next_of, with_chunk}
use Rattle.book_rows.specs.Lists.{In}
use Rattle.book_rows.specs.Live.{IsIn}
use Rattle.book_rows.specs.declared.answers.NewPending.{NewPending}
use Rattle.book_rows.specs.declared.rows.Book.{Book}
use Rattle.book_rows.specs.declared.rows.ChunkRow.{ChunkRow}
use Rattle.laws_chunks.specs.Allotments.{AllottedKeeps, HasLock, IsUnmet, id_in}
use Rattle.laws_chunks.specs.ChunksSound.{AreChunksSound}
use Rattle.laws_chunks.specs.Openings.{HasMaker, IsAllotment, IsChunk, chunk_made}
use Rattle.laws_chunks.specs.Places.{IsOpenIn}
use Rattle.laws_chunks.proofs.AllottingRoots.{allotment_keeps, chunk_keeps}
use Rattle.laws_chunks.proofs.ChunkRows.{one_row}
use Rattle.laws_chunks.proofs.LookUps.{find_none, find_some}
use Rattle.laws_chunks.proofs.Members.{In-append, In-right}
use Rattle.laws_chunks.proofs.OpenPlacesFound.{bucket_place}
use Rattle.laws_chunks.proofs.Spans.{same_chunk_from, same_chunk_means}

-- the test on a chunk row
pub of_chunk_from : (c : ChunkRow) (a : SegId) → IsIn c a → is_of_chunk c a ≡ true
of_chunk_from c a k = same_chunk_from a (record { source = c.source; span = c.span; version = c.version; part = 0 }) (record { source_is = k.source_is; span_is = k.span_is; version_is = k.version_is })

pub of_chunk_means : (c : ChunkRow) (a : SegId) → is_of_chunk c a ≡ true → IsIn c a
of_chunk_means c a h = let k = same_chunk_means a (record { source = c.source; span = c.span; version = c.version; part = 0 }) h in record { source_is = k.source_is; span_is = k.span_is; version_is = k.version_is }

in_part : (c : ChunkRow) (a : SegId) (part : ℕ) → IsIn c a → IsIn c (record a { part = part })
in_part c a part k = record { source_is = k.source_is; span_is = k.span_is; version_is = k.version_is }

in_any : (c : ChunkRow) (a : SegId) (part : ℕ) → IsIn c (record a { part = part }) → IsIn c a
in_any c a part k = record { source_is = k.source_is; span_is = k.span_is; version_is = k.version_is }

-- a place is open for each part
open_part : (b : Book) (a : SegId) (part : ℕ) → IsOpenIn b a → IsOpenIn b (record a { part = part })
open_part b a part o = record {
  chunk = o.chunk;
  among = o.among;
  is_in = in_part o.chunk a part o.is_in;
  above = λ x l m. o.above x l (record { source_is = m.source_is; overlap_is = m.overlap_is });
  below_locks = o.below_locks;
  whole = λ c i k. o.whole c i (in_any c a part k);
  alone = λ c i k. elim (o.alone c i (in_any c a part k)) [
    | inl core ↦ inl core
    | inr lone ↦ inr (λ x l m. lone x l (record { source_is = m.source_is; overlap_is = m.overlap_is }))
  ];
}

-- what the look-up of the chunk says
pub no_chunk : (cs : List ChunkRow) (a : SegId) → chunk_of a cs ≡ None → (c : ChunkRow) → In c cs → IsIn c a → ⊥
no_chunk cs a e c i k = false≢true (sym (find_none (λ c. is_of_chunk c a) cs e c i) ∙ of_chunk_from c a k)

module _ (n : NewPending) (b : Book) (h : AreChunksSound b) (lock : HasLock b n) where
  -- where its place is open in a book that has the chunk, the pending comes
  module _ (o : IsOpenIn b (id_in n)) where
    part_is : (r : Option ChunkRow) → chunk_of (id_in n) b.chunks ≡ r → (c : ChunkRow) → In c b.chunks → IsIn c (allotted_id b.chunks n) → (allotted_id b.chunks n).part ≡ c.next
    part_is None e c i k = absurd (no_chunk b.chunks (id_in n) e c i (in_any c (id_in n) (allotted_id b.chunks n).part k))
    part_is (Some d) e c i k =
        let w = find_some (λ c. is_of_chunk c (id_in n)) b.chunks d e in
        let one : d ≡ c = one_row b.chunks h.shape.rows d c (id_in n) w.0 i (of_chunk_means d (id_in n) w.1) (in_any c (id_in n) (allotted_id b.chunks n).part k) in
        ap next_of e ∙ ap (λ (c : ChunkRow). c.next) one

    is_allotment : IsAllotment b (allotted_row (allotted_id b.chunks n) n)
    is_allotment = record {
      is_open = open_part b (id_in n) (allotted_id b.chunks n).part o;
      is_root = refl;
      has_posse = record { posse = lock.lock; is_valid = lock.is_valid; number_is = lock.number_is; source_is = lock.source_is; covers_root = lock.within };
      part_is = part_is (chunk_of (id_in n) b.chunks) refl;
    }

    has_chunk : (r : Option ChunkRow) → chunk_of (id_in n) b.chunks ≡ r → with_chunk (allotted_id b.chunks n) r b.chunks ≡ b.chunks
    has_chunk None e = absurd (no_chunk b.chunks (id_in n) e o.chunk o.among o.is_in)
    has_chunk (Some c) e = refl

    pub open_keeps : AreChunksSound (allotted n b)
    open_keeps = subst (λ cs. AreChunksSound (record b { chunks = map (bumped (allotted_id b.chunks n)) cs; pendings = b.pendings ++ allotted_row (allotted_id b.chunks n) n ∷ [] })) (sym (has_chunk (chunk_of (id_in n) b.chunks) refl))
        (allotment_keeps (allotted_row (allotted_id b.chunks n) n) b is_allotment h)

  -- a span that no live chunk meets
  module _ (u : IsUnmet b n lock.lock) where
    bucket_open : (c : ChunkRow) → In c b.chunks → IsIn c (id_in n) → IsOpenIn b (id_in n)
    bucket_open c i k = bucket_place b (id_in n) h (record { chunk = c; among = i; is_in = k; lock = lock.lock; is_valid = lock.is_valid; source_is = sym lock.source_is; version_is = u.version_is; within = lock.within; empty = u.empty })

    maker : (n.version ≡ pos 0) ⊎ HasMaker b.posses (new_chunk (allotted_id b.chunks n))
    maker = elim (h.shape.versions lock.lock lock.is_valid.among) [
      | inl append ↦ inl (u.version_is ∙ append.1)
      | inr high ↦ inr (record { lock = lock.lock; is_valid = lock.is_valid; kind_is = lock.kind_is; version_is = u.version_is; high = high; within = lock.within })
    ]

    is_chunk : chunk_of (id_in n) b.chunks ≡ None → IsChunk b (new_chunk (allotted_id b.chunks n))
    is_chunk e = record {
      core_is = refl;
      is_new = λ c a i k l. no_chunk b.chunks (id_in n) e c i (record { source_is = sym l.source_is ∙ k.source_is; span_is = sym l.span_is ∙ k.span_is; version_is = sym l.version_is ∙ k.version_is });
      maker = maker;
      proper = u.proper;
    }

    made_sound : chunk_of (id_in n) b.chunks ≡ None → AreChunksSound (chunk_made (new_chunk (allotted_id b.chunks n)) b)
    made_sound e = chunk_keeps (new_chunk (allotted_id b.chunks n)) b (is_chunk e) h

    made_open : chunk_of (id_in n) b.chunks ≡ None → IsOpenIn (chunk_made (new_chunk (allotted_id b.chunks n)) b) (allotted_id b.chunks n)
    made_open e = bucket_place (chunk_made (new_chunk (allotted_id b.chunks n)) b) (allotted_id b.chunks n) (made_sound e) (record {
      chunk = new_chunk (allotted_id b.chunks n);
      among = In-right (new_chunk (allotted_id b.chunks n)) b.chunks (new_chunk (allotted_id b.chunks n) ∷ []) (inl refl);
      is_in = record { source_is = refl; span_is = refl; version_is = refl };
      lock = lock.lock;
      is_valid = lock.is_valid;
      source_is = sym lock.source_is;
      version_is = u.version_is;
      within = lock.within;
      empty = u.empty;
    })

    new_allotment : chunk_of (id_in n) b.chunks ≡ None → IsAllotment (chunk_made (new_chunk (allotted_id b.chunks n)) b) (allotted_row (allotted_id b.chunks n) n)
    new_allotment e = record {
      is_open = made_open e;
      is_root = refl;
      has_posse = record { posse = lock.lock; is_valid = lock.is_valid; number_is = lock.number_is; source_is = lock.source_is; covers_root = lock.within };
      part_is = λ c i k. elim (In-append c b.chunks (new_chunk (allotted_id b.chunks n) ∷ []) i) [
        | inl old ↦ absurd (no_chunk b.chunks (id_in n) e c old (in_any c (id_in n) (allotted_id b.chunks n).part k))
        | inr (inl is) ↦ ap next_of e ∙ ap (λ (c : ChunkRow). c.next) (sym is)
        | inr (inr j) ↦ absurd j
      ];
    }

    unmet_by : (r : Option ChunkRow) → chunk_of (id_in n) b.chunks ≡ r → AreChunksSound (allotted n b)
    unmet_by None e = subst (λ r. AreChunksSound (record b { chunks = map (bumped (allotted_id b.chunks n)) (with_chunk (allotted_id b.chunks n) r b.chunks); pendings = b.pendings ++ allotted_row (allotted_id b.chunks n) n ∷ [] })) (sym e)
        (allotment_keeps (allotted_row (allotted_id b.chunks n) n) (chunk_made (new_chunk (allotted_id b.chunks n)) b) (new_allotment e) (made_sound e))
    unmet_by (Some c) e = let w = find_some (λ c. is_of_chunk c (id_in n)) b.chunks c e in open_keeps (bucket_open c w.0 (of_chunk_means c (id_in n) w.1))

    pub unmet_keeps : AreChunksSound (allotted n b)
    unmet_keeps = unmet_by (chunk_of (id_in n) b.chunks) refl

pub allotted_keeps : AllottedKeeps
allotted_keeps n b new h = elim new.at [
  | inl o ↦ open_keeps n b h new.has_lock o
  | inr u ↦ unmet_keeps n b h new.has_lock u
]
