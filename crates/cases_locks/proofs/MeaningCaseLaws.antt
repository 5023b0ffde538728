-- The worked cases of what the rules mean.
use Rattle.std.proofs.Common.{Bool, [], ap, arith, cond, false, inl, inr, refl, subst, suc, sym, true, zero, ℕ, ◌<◌, ◌∙◌, ◌∷◌, ◌≡◌}
use Rattle.std.proofs.lemmas.Bool.{false≢true}
use Rattle.std.specs.Prelude.{None, Option, Some, bytes_eq, pos}
use Rattle.std.specs.Str.{chars, is_utf8}
use lib.Utf8.{encode}
use Rattle.seg_names.specs.declared.seg_id.SegId.{SegId}
use Rattle.book_rows.specs.Lists.{In, at_place}
use Rattle.book_rows.specs.Live.{IsValid}
use Rattle.book_rows.specs.Names.{begins_with, compact_prefix, sup_prefix}
use Rattle.book_rows.specs.Publications.{appending, publication_of}
use Rattle.book_rows.specs.SequenceRules.{is_sup_task}
use Rattle.book_rows.specs.Shape.{HasAddedRoot, HasChunk}
use Rattle.book_rows.specs.Sound.{Sound}
use Rattle.book_rows.specs.Tiles.{ends_with, no_run}
use Rattle.book_rows.specs.declared.rows.Publication.{Publication}
use Rattle.book_rows.specs.declared.rows.SegmentRow.{SegmentRow}
use Rattle.book_rows.specs.declared.rows.TaskRow.{TaskRow}
use Rattle.cases_locks.specs.Day.{hour, hour_id, left, replaced, source}
use Rattle.scenes.specs.Script.{after}
use Rattle.scenes.specs.Rows.{p_row}
use Rattle.cases_locks.specs.LockCases.{replace_lock, under}
use Rattle.laws_chunks.specs.Meaning.{HaveDistinctAdds}
use Rattle.cases_locks.specs.MeaningCases.{RootsAreCarried, RootsAreCounted, RootsAreShown, TextsAreMet, UnderIsSound, the_copy}
use Rattle.cases_locks.specs.PlaceCases.{chunk_row}
use Rattle.laws_chunks.specs.RowTexts.{AreSame}
use Rattle.cases_locks.proofs.DayBooks.{replaced_reached, under_reached}
use Rattle.laws_chunks.proofs.Meanings.{carried_are_added, count_is_one, shown_is_contents, sound_shows_contents}
use Rattle.laws_chunks.proofs.SameTexts.{texts_are_same}
use Rattle.laws_chunks.proofs.SoundChunks.{sound_has_sound_chunks}
use Rattle.book_rows.specs.declared.kinds.PubKind.TheVariants as PubKinds

-- ---- counts

left_distinct : HaveDistinctAdds (after left).publications
left_distinct = ((refl, (refl, tt)), ((refl, tt), (tt, tt)))

pub roots_are_counted : RootsAreCounted
roots_are_counted = record {
  counted_twice = refl;
  put_twice = refl;
  distinct = left_distinct;
  counted_once = refl;
  put_once = refl;
  one = count_is_one (λ k. true) (after left).publications source (pos 0) (hour_id 0) left_distinct;
  not_counted_since = refl;
  not_put_since = refl;
  not_counted = refl;
  not_put = refl;
}

-- ---- what is shown

replaced_distinct : HaveDistinctAdds (after replaced).publications
replaced_distinct = ((refl, tt), (tt, tt))

pub roots_are_shown : RootsAreShown
roots_are_shown = record {
  distinct = replaced_distinct;
  shows = replaced_reached.chunks.shown_contents;
  as_contained = shown_is_contents (after replaced).segments (after replaced).publications replaced_distinct replaced_reached.chunks.shown_contents source (pos 0) (hour_id 0);
  is_shown = (the_copy, inr (inr (inl refl)), refl, refl);
  copy_visible = refl;
  copy_stands = refl;
  own_not_visible = refl;
  shown_once = refl;
  contained = refl;
  copy_not_shown = refl;
  copy_not_contained = refl;
}

-- ---- the book under the lock is sound

the_append : Publication
the_append = publication_of PubKinds.Append p_row [] (appending (hour_id 0 ∷ []) None)

in_hour : (n : ℕ) → n < 2 → (x : SegId) → In x (hour_id n ∷ []) → HasChunk under.chunks x
in_hour n l x (inl e) = subst (λ (y : SegId). HasChunk under.chunks y) (sym e) (record { chunk = chunk_row hour 2; among = inl refl; is_in = record { source_is = refl; span_is = refl; version_is = refl }; below = l })
in_hour n l x (inr i) = absurd i

no_tombstone : (r : SegmentRow) → In r under.segments → r.tombstone ≡ true → ⊥
no_tombstone r (inl e) h = false≢true (sym (ap (λ (x : SegmentRow). x.tombstone) e) ∙ h)
no_tombstone r (inr i) h = i

has_root : (r : SegmentRow) → In r under.segments → HasAddedRoot under.publications r
unfolding the_append
has_root r (inl e) = subst (λ (x : SegmentRow). HasAddedRoot under.publications x) (sym e) (record { place = 0; publication = the_append; at = refl; listed = inl refl; not_after = omega arith })
has_root r (inr i) = absurd i

no_replica : (t : TaskRow) → In t under.tasks → is_sup_task t ≡ true → ⊥
no_replica t (inl e) h = false≢true (sym (ap is_sup_task e) ∙ h)
no_replica t (inr (inl e)) h = false≢true (sym (ap is_sup_task e) ∙ h)
no_replica t (inr (inr i)) h = i

is_compaction : Option TaskRow → Bool
is_compaction None = false
is_compaction (Some t) = begins_with compact_prefix t.task

no_place : (k : ℕ) → is_compaction (at_place k under.tasks) ≡ false
unfolding is_compaction
no_place zero = refl
no_place (suc zero) = refl
no_place (suc (suc k)) = refl

no_compaction : (k : ℕ) (t : TaskRow) → at_place k under.tasks ≡ Some t → begins_with compact_prefix t.task ≡ true → ⊥
unfolding is_compaction
no_compaction k t e h = false≢true (sym (no_place k) ∙ (ap is_compaction e ∙ h))

no_group : (m : Publication) → In m under.publications → begins_with sup_prefix m.group ≡ true → ⊥
no_group m (inl e) h = false≢true (sym (ap (λ (x : Publication). begins_with sup_prefix x.group) e) ∙ h)
no_group m (inr i) h = i

-- a publication without ranges leaves no run, of whatever source
tiled_by : (b : Bool) → ends_with (cond b no_run no_run).from (cond b no_run no_run).ranges ≡ Some None
tiled_by true = refl
tiled_by false = refl

under_is_whole : Sound under
unfolding is_utf8 chars encode
under_is_whole = record {
  shape = record {
    limits = record {
      room = refl;
      clock = refl;
      last = refl;
      tasks = refl;
      posses = refl;
      chunks = refl;
      segments = refl;
      pendings = refl;
      upgrades = refl;
      publications = refl;
      offsets = refl;
      supervisors = refl;
      sequences = refl;
      kinds = refl;
      states = refl;
    };
    keys = record {
      tasks = ((refl, tt), (tt, tt));
      numbers = ((refl, tt), (tt, tt));
      ascending = under_reached.locks.0.locks.ascending;
      below = under_reached.locks.0.locks.below;
      chunks = (tt, tt);
      ids = ((refl, tt), (tt, tt));
      upgrades = (tt, tt);
      offsets = tt;
      supervisors = tt;
      sequences = tt;
      requests = (tt, tt);
      once = under_reached.chunks.shape.once;
    };
    versions = record { locks = refl; chunks = refl; kinds = refl; distinct = under_reached.locks.0.locks.distinct };
    members = under_reached.locks.0.members;
    chunks = record { segments = in_hour 0 (omega arith); pendings = in_hour 1 (omega arith); adds = in_hour 0 (omega arith); empties = λ x i. absurd i };
    commits = record { commits = refl; locks = refl; spans = refl };
    roots = record { tombstones = λ r i h. absurd (no_tombstone r i h); others = λ r i h. has_root r i };
  };
  compatible_locks = under_reached.chunks.compatible_locks;
  one_span = under_reached.chunks.one_span;
  below_locks = under_reached.chunks.below_locks;
  rooted = under_reached.chunks.rooted;
  upgrades = under_reached.chunks.upgrades;
  cores = under_reached.chunks.cores;
  copies = under_reached.chunks.copies;
  carried = under_reached.chunks.carried;
  shown_contents = under_reached.chunks.shown_contents;
  tiled = λ from stream partition. tiled_by (bytes_eq source from);
  sequences = record {
    sequences = λ u i. absurd i;
    groups = λ s i. absurd i;
    replicas = λ t i h. absurd (no_replica t i h);
    compactions = λ k t e h. absurd (no_compaction k t e h);
    publications = λ m i h. absurd (no_group m i h);
  };
}

pub under_is_sound : UnderIsSound
under_is_sound = record {
  sound = under_is_whole;
  chunks_sound = sound_has_sound_chunks under under_is_whole;
  as_contained = sound_shows_contents under under_is_whole source (pos 0) (hour_id 0);
  shown_once = refl;
  contained = refl;
}

-- ---- what a replacement has to carry

lock_valid : IsValid under.posses (replace_lock false)
lock_valid = record { among = inr (inl refl); valid = refl }

pub roots_are_carried : RootsAreCarried
roots_are_carried = record {
  carries = under_reached.chunks.carried;
  valid = lock_valid;
  replaces = refl;
  inside = refl;
  uncovered = refl;
  as_added = carried_are_added under.posses under.chunks under.upgrades under.publications under_reached.chunks.carried (replace_lock false) (pos 0) (hour_id 0) lock_valid refl refl refl;
  put = refl;
  pending_as_added = carried_are_added under.posses under.chunks under.upgrades under.publications under_reached.chunks.carried (replace_lock false) (pos 0) (hour_id 1) lock_valid refl refl refl;
  pending_not_put = refl;
}

-- ---- two ways to say the rules

texts_same : AreSame (after replaced).posses (after replaced).chunks (after replaced).segments (after replaced).pendings
texts_same = texts_are_same (after replaced).posses (after replaced).chunks (after replaced).segments (after replaced).pendings replaced_reached.chunks.shape.chunk_rows

pub texts_are_met : TextsAreMet
texts_are_met = record {
  live = replaced_reached.chunks.shape.chunk_rows;
  same = texts_same;
  one_span = replaced_reached.chunks.one_span;
  rows_one_span = texts_same.one_span_to replaced_reached.chunks.one_span;
  below = replaced_reached.chunks.below_locks;
  rows_below = texts_same.below_to replaced_reached.chunks.below_locks;
  copies = replaced_reached.chunks.copies;
  rows_copies = texts_same.copies_to replaced_reached.chunks.copies;
}
