-- The worked cases, computed.
use Rattle.std.proofs.Common.{List, None, [], arith, false, inl, inr, refl, sym, true, ℕ, ◌<◌, ◌∷◌, ◌≡◌}
use Rattle.std.proofs.lemmas.Bool.{false≢true}
use Rattle.std.specs.Fmt.{digits}
use Rattle.std.specs.Str.{chars, is_utf8}
use lib.Utf8.{encode}
use Rattle.book_rows.specs.Shape.{HasAddedRoot, HasChunk, HaveChunks, HaveRoots, IsTombstone}
use Rattle.book_rows.specs.declared.kinds.PubKind.TheVariants as PubKinds
use Rattle.book_rows.specs.declared.rows.ChunkRow.{ChunkRow}
use Rattle.book_rows.specs.declared.rows.Publication.{Publication}
use Rattle.book_rows.specs.declared.rows.SegmentRow.{SegmentRow}
use Rattle.laws_chunks.proofs.Members.{In-all}
use Rattle.cases_limits.proofs.SupervisedBook.{supervised_is_sound}
use Rattle.cases_limits.specs.SoundScenes.{ChangesSound, day_emptied, day_replaced, empty_day}
use Rattle.cases_rules.proofs.SoundStreamLaws.{publication_of, sound_under_lock}
use Rattle.scenes.specs.Publishing.{day_id, hour_id, replace_day, tomb_row_of, used_row}
use Rattle.cases_rules.specs.ReplaceCases.{chunk_row}
use Rattle.scenes.specs.Script.{day, hour, now, r, v0, w}
use Rattle.cases_rules.specs.SoundBookCases.{day_under_lock}
use Rattle.cases_limits.specs.KeyCases.{CommitsAreBounded, CopiesAreNoRequests, EmptiedIsKeyed, IdsAreDistinct, IdsAreInChunks, NewLockCountsAll, RequestsAreDistinct, RootsArePublished, SecondIsDistinct, SequencesAreDistinct, SupervisorsAreDistinct, TombstonesAreInChunks, UpgradesAreDistinct}

-- ---- commits

pub commits_are_bounded : CommitsAreBounded
unfolding is_utf8 chars encode
commits_are_bounded = ((sound_under_lock, refl, refl), refl, refl, refl, refl, record { commits = refl; locks = refl; spans = refl })

pub new_lock_counts_all : NewLockCountsAll
unfolding is_utf8 chars encode
new_lock_counts_all = ((sound_under_lock, refl, refl), refl, refl, record { commits = refl; locks = refl; spans = refl })

-- ---- upgrade rows and requests

pub upgrades_are_distinct : UpgradesAreDistinct
unfolding is_utf8 chars encode
upgrades_are_distinct = ((sound_under_lock, refl, refl), refl, ((refl, tt), (tt, tt)))

pub requests_are_distinct : RequestsAreDistinct
unfolding is_utf8 chars encode
requests_are_distinct = ((sound_under_lock, refl, refl), refl, ((refl, tt), (tt, tt)), refl, refl, refl)

pub copies_are_no_requests : CopiesAreNoRequests
unfolding is_utf8 chars encode
copies_are_no_requests = ((sound_under_lock, refl, refl), refl, refl, refl, (tt, tt))

-- ---- ids and their chunks

-- the chunk of the hour, and the one that a replacement makes of the day
abbrev the_chunks : List ChunkRow
the_chunks = chunk_row hour v0 0 3 ∷ chunk_row day now 1 3 ∷ []

of_hour : (n : ℕ) → n < 3 → HasChunk the_chunks (hour_id n)
of_hour n low = record { chunk = chunk_row hour v0 0 3; among = inl refl; is_in = record { source_is = refl; span_is = refl; version_is = refl }; below = low }

of_day : (n : ℕ) → n < 3 → HasChunk the_chunks (day_id n)
of_day n low = record { chunk = chunk_row day now 1 3; among = inr (inl refl); is_in = record { source_is = refl; span_is = refl; version_is = refl }; below = low }

replaced_have_chunks : HaveChunks day_replaced
replaced_have_chunks = record {
  segments = λ a i. In-all (HasChunk the_chunks) a (hour_id 0 ∷ hour_id 1 ∷ day_id 0 ∷ day_id 1 ∷ []) i (of_hour 0 (omega arith), (of_hour 1 (omega arith), (of_day 0 (omega arith), (of_day 1 (omega arith), tt))));
  pendings = λ a i. In-all (HasChunk the_chunks) a (hour_id 2 ∷ day_id 2 ∷ []) i (of_hour 2 (omega arith), (of_day 2 (omega arith), tt));
  adds = λ a i. In-all (HasChunk the_chunks) a (hour_id 0 ∷ hour_id 1 ∷ day_id 0 ∷ []) i (of_hour 0 (omega arith), (of_hour 1 (omega arith), (of_day 0 (omega arith), tt)));
  empties = λ a i. absurd i;
}

emptied_have_chunks : HaveChunks day_emptied
emptied_have_chunks = record {
  segments = λ a i. In-all (HasChunk the_chunks) a (hour_id 0 ∷ hour_id 1 ∷ day_id 0 ∷ day_id 1 ∷ []) i (of_hour 0 (omega arith), (of_hour 1 (omega arith), (of_day 0 (omega arith), (of_day 1 (omega arith), tt))));
  pendings = λ a i. In-all (HasChunk the_chunks) a (hour_id 2 ∷ day_id 2 ∷ []) i (of_hour 2 (omega arith), (of_day 2 (omega arith), tt));
  adds = λ a i. In-all (HasChunk the_chunks) a (hour_id 0 ∷ hour_id 1 ∷ []) i (of_hour 0 (omega arith), (of_hour 1 (omega arith), tt));
  empties = λ a i. In-all (HasChunk the_chunks) a (day_id 0 ∷ []) i (of_day 0 (omega arith), tt);
}

replaced_changes : ChangesSound day_under_lock replace_day
unfolding is_utf8 chars encode
replaced_changes = (sound_under_lock, refl, refl)

emptied_changes : ChangesSound day_under_lock empty_day
unfolding is_utf8 chars encode
emptied_changes = (sound_under_lock, refl, refl)

pub ids_are_in_chunks : IdsAreInChunks
ids_are_in_chunks = (replaced_changes, refl, refl, refl, refl, replaced_have_chunks)

pub tombstones_are_in_chunks : TombstonesAreInChunks
tombstones_are_in_chunks = (emptied_changes, refl, refl, emptied_have_chunks)

pub ids_are_distinct : IdsAreDistinct
ids_are_distinct = (
  replaced_changes,
  refl,
  (
    (refl, (refl, (refl, (refl, (refl, tt))))),
    ((refl, (refl, (refl, (refl, tt)))), ((refl, (refl, (refl, tt))), ((refl, (refl, tt)), ((refl, tt), (tt, tt))))),
  ),
)

-- ---- roots

-- the replacement by nothing
abbrev emptying : Publication
emptying = record { kind = PubKinds.Replace; group = r; source = w; spans = record { span = day; since = 1 } ∷ []; adds = []; empties = day_id 0 ∷ []; ranges = None }

abbrev the_publications : List Publication
the_publications = publication_of 0 ∷ publication_of 1 ∷ emptying ∷ []

abbrev the_rows : List SegmentRow
the_rows = used_row (hour_id 0) (hour_id 0) 0 ∷ used_row (hour_id 1) (hour_id 1) 1 ∷ tomb_row_of (day_id 0) 2 ∷ used_row (day_id 1) (hour_id 1) 2 ∷ []

the_tombstone : IsTombstone the_chunks the_publications (tomb_row_of (day_id 0) 2)
the_tombstone = record {
  own = refl;
  part_is = refl;
  chunk = chunk_row day now 1 3;
  among = inr (inl refl);
  is_in = record { source_is = refl; span_is = refl; version_is = refl };
  core_is = refl;
  publication = emptying;
  at = refl;
  listed = inl refl;
}

-- no tombstone, and no other row
off : {X : Type 0} → false ≡ true → X
off e = absurd (false≢true e)

emptied_have_roots : HaveRoots day_emptied
emptied_have_roots = record {
  tombstones = λ row i. In-all (λ (x : SegmentRow). x.tombstone ≡ true → IsTombstone the_chunks the_publications x) row the_rows i (off, (off, (λ e. the_tombstone, (off, tt))));
  others = λ row i. In-all (λ (x : SegmentRow). x.tombstone ≡ false → HasAddedRoot the_publications x) row the_rows i (
    λ e. record { place = 0; publication = publication_of 0; at = refl; listed = inl refl; not_after = omega arith },
    (
      λ e. record { place = 1; publication = publication_of 1; at = refl; listed = inl refl; not_after = omega arith },
      (
        λ e. off (sym e),
        (λ e. record { place = 1; publication = publication_of 1; at = refl; listed = inl refl; not_after = omega arith }, tt),
      ),
    ),
  );
}

pub roots_are_published : RootsArePublished
roots_are_published = (emptied_changes, refl, refl, refl, emptied_have_roots)

-- ---- supervisors and sequences

pub supervisors_are_distinct : SupervisorsAreDistinct
supervisors_are_distinct = ((supervised_is_sound, refl, refl), refl, ((refl, tt), (tt, tt)), refl, refl)

pub sequences_are_distinct : SequencesAreDistinct
sequences_are_distinct = ((supervised_is_sound, refl, refl), refl, refl, ((refl, tt), (tt, tt)))

pub second_is_distinct : SecondIsDistinct
unfolding digits
second_is_distinct = (refl, ((refl, tt), (tt, tt)), refl, refl, refl, refl, ((refl, (refl, tt)), ((refl, tt), (tt, tt))))

-- ---- all of it

pub emptied_is_keyed : EmptiedIsKeyed
emptied_is_keyed = (
  emptied_changes,
  record {
    commits = record { commits = refl; locks = refl; spans = refl };
    roots = emptied_have_roots;
    chunks = emptied_have_chunks;
    ids = (
      (refl, (refl, (refl, (refl, (refl, tt))))),
      ((refl, (refl, (refl, (refl, tt)))), ((refl, (refl, (refl, tt))), ((refl, (refl, tt)), ((refl, tt), (tt, tt))))),
    );
    upgrades = tt;
    requests = (tt, tt);
    supervisors = tt;
    sequences = tt;
  },
)
