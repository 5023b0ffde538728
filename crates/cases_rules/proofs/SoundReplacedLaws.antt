-- The book after a stream's day with a replacement is sound, rule by rule.
use Rattle.std.proofs.Common.{◌≡◌, ◌∙◌, ◌+◌, ◌<◌, ◌&&◌, ◌||◌, ◌∷◌, Bool, List, [], ap, ap₂, arith, cond, false, inl, inr, int_le, int_lt, not, pos, refl, subst, suc, sym, true, zero, ℕ, ℤ}
use Rattle.std.proofs.lemmas.Bool.{and_from, and_parts}
use Rattle.std.proofs.lemmas.Int.{ints}
use Rattle.std.specs.Prelude.{None, Some, bytes_eq}
use Rattle.std.specs.Ordering.{int_eq}
use Rattle.std.specs.Str.{is_utf8, chars}
use lib.Utf8.{encode}
use Rattle.iv_span.specs.Extent.{covers, has}
use Rattle.seg_names.specs.Ids.{same_id}
use Rattle.seg_names.specs.declared.seg_id.SegId.{SegId}
use Rattle.book_rows.specs.Kinds.{guards, same_kind}
use Rattle.book_rows.specs.declared.kinds.LockKind.{LockKind}
use Rattle.book_rows.specs.Lists.{In}
use Rattle.book_rows.specs.Live.{IsLive, IsWhole, is_covered}
use Rattle.book_rows.specs.Names.{begins_with, sup_prefix}
use Rattle.book_rows.specs.Shape.{HasAddedRoot, HasChunk}
use Rattle.book_rows.specs.Sound.{Sound}
use Rattle.book_rows.specs.Tiles.{Run, ends_with, no_run}
use Rattle.book_rows.specs.declared.kinds.LockKind.TheVariants as LockKinds
use Rattle.book_rows.specs.declared.kinds.PubKind.TheVariants as PubKinds
use Rattle.book_rows.specs.declared.rows.Book.{Book}
use Rattle.book_rows.specs.declared.rows.ChunkRow.{ChunkRow}
use Rattle.book_rows.specs.declared.rows.PosseRow.{PosseRow}
use Rattle.book_rows.specs.declared.rows.Publication.{Publication}
use Rattle.book_rows.specs.declared.rows.SegmentRow.{SegmentRow}
use Rattle.cases_rules.proofs.SoundStreamLaws.{have_members, never, no_compaction, no_replica, publication_of, row_of, same_has, the_locks, the_tasks}
use Rattle.scenes.specs.Publishing.{hour_id, used_row}
use Rattle.cases_rules.specs.ReplaceCases.{chunk_row}
use Rattle.scenes.specs.Script.{day, hour, id, now, r, v0, w}
use Rattle.cases_rules.specs.SoundBookCases.{SoundAfterReplacement}

-- ---- the rows

abbrev day_id : ℕ → SegId
day_id part = id day now part

abbrev hour_chunk : ChunkRow
hour_chunk = chunk_row hour v0 0 2

abbrev day_chunk : ChunkRow
day_chunk = chunk_row day now 1 2

abbrev the_chunks : List ChunkRow
the_chunks = hour_chunk ∷ day_chunk ∷ []

abbrev day_row : SegmentRow
day_row = used_row (day_id 0) (day_id 0) 2

abbrev copy_row : SegmentRow
copy_row = used_row (day_id 1) (hour_id 1) 2

abbrev the_rows : List SegmentRow
the_rows = row_of 0 ∷ row_of 1 ∷ day_row ∷ copy_row ∷ []

abbrev replacement : Publication
replacement = record { kind = PubKinds.Replace; group = r; source = w; spans = record { span = day; since = 1 } ∷ []; adds = day_id 0 ∷ []; empties = []; ranges = None }

abbrev the_publications : List Publication
the_publications = publication_of 0 ∷ publication_of 1 ∷ replacement ∷ []

abbrev the_book : Book
the_book = record {
  clock = now;
  last = now;
  next_lock = 3;
  tasks = the_tasks;
  posses = the_locks;
  chunks = the_chunks;
  segments = the_rows;
  pendings = [];
  upgrades = [];
  publications = the_publications;
  offsets = [];
  supervisors = [];
  sequences = [];
}

no_group_of_sequence : (m : Publication) → In m the_publications → begins_with sup_prefix m.group ≡ true → ⊥
no_group_of_sequence m (inl e) h = never (sym (ap (λ (x : Publication). begins_with sup_prefix x.group) e) ∙ h)
no_group_of_sequence m (inr (inl e)) h = never (sym (ap (λ (x : Publication). begins_with sup_prefix x.group) e) ∙ h)
no_group_of_sequence m (inr (inr (inl e))) h = never (sym (ap (λ (x : Publication). begins_with sup_prefix x.group) e) ∙ h)
no_group_of_sequence m (inr (inr (inr i))) h = i

-- ---- ids have their chunk, and rows their root

in_hour : (n : ℕ) → n < 2 → (x : SegId) → x ≡ hour_id n → HasChunk the_chunks x
in_hour n l x e = subst (λ (y : SegId). HasChunk the_chunks y) (sym e) (record { chunk = hour_chunk; among = inl refl; is_in = record { source_is = refl; span_is = refl; version_is = refl }; below = l })

in_day : (n : ℕ) → n < 2 → (x : SegId) → x ≡ day_id n → HasChunk the_chunks x
in_day n l x e = subst (λ (y : SegId). HasChunk the_chunks y) (sym e) (record { chunk = day_chunk; among = inr (inl refl); is_in = record { source_is = refl; span_is = refl; version_is = refl }; below = l })

segments_have_chunks : (x : SegId) → In x (hour_id 0 ∷ hour_id 1 ∷ day_id 0 ∷ day_id 1 ∷ []) → HasChunk the_chunks x
segments_have_chunks x (inl e) = in_hour 0 (omega arith) x e
segments_have_chunks x (inr (inl e)) = in_hour 1 (omega arith) x e
segments_have_chunks x (inr (inr (inl e))) = in_day 0 (omega arith) x e
segments_have_chunks x (inr (inr (inr (inl e)))) = in_day 1 (omega arith) x e
segments_have_chunks x (inr (inr (inr (inr i)))) = absurd i

adds_have_chunks : (x : SegId) → In x (hour_id 0 ∷ hour_id 1 ∷ day_id 0 ∷ []) → HasChunk the_chunks x
adds_have_chunks x (inl e) = in_hour 0 (omega arith) x e
adds_have_chunks x (inr (inl e)) = in_hour 1 (omega arith) x e
adds_have_chunks x (inr (inr (inl e))) = in_day 0 (omega arith) x e
adds_have_chunks x (inr (inr (inr i))) = absurd i

no_tombstone : (x : SegmentRow) → In x the_rows → x.tombstone ≡ true → ⊥
no_tombstone x (inl e) h = never (sym (ap (λ (y : SegmentRow). y.tombstone) e) ∙ h)
no_tombstone x (inr (inl e)) h = never (sym (ap (λ (y : SegmentRow). y.tombstone) e) ∙ h)
no_tombstone x (inr (inr (inl e))) h = never (sym (ap (λ (y : SegmentRow). y.tombstone) e) ∙ h)
no_tombstone x (inr (inr (inr (inl e)))) h = never (sym (ap (λ (y : SegmentRow). y.tombstone) e) ∙ h)
no_tombstone x (inr (inr (inr (inr i)))) h = i

have_roots : (x : SegmentRow) → In x the_rows → HasAddedRoot the_publications x
have_roots x (inl e) = subst (λ (y : SegmentRow). HasAddedRoot the_publications y) (sym e) (record { place = 0; publication = publication_of 0; at = refl; listed = inl refl; not_after = omega arith })
have_roots x (inr (inl e)) = subst (λ (y : SegmentRow). HasAddedRoot the_publications y) (sym e) (record { place = 1; publication = publication_of 1; at = refl; listed = inl refl; not_after = omega arith })
have_roots x (inr (inr (inl e))) = subst (λ (y : SegmentRow). HasAddedRoot the_publications y) (sym e) (record { place = 2; publication = replacement; at = refl; listed = inl refl; not_after = omega arith })
have_roots x (inr (inr (inr (inl e)))) = subst (λ (y : SegmentRow). HasAddedRoot the_publications y) (sym e) (record { place = 1; publication = publication_of 1; at = refl; listed = inl refl; not_after = omega arith })
have_roots x (inr (inr (inr (inr i)))) = absurd i

-- ---- what is live: ids of the hour and of the day

module _ (P : SegId → Type 0) (of_hour : (n : ℕ) → P (hour_id n)) (of_day : (n : ℕ) → P (day_id n)) where
  used_is : (row : SegmentRow) (x : SegId) → In row the_rows → row.id ≡ x → P x
  used_is row x (inl e) i = subst P (sym (ap (λ (y : SegmentRow). y.id) e) ∙ i) (of_hour 0)
  used_is row x (inr (inl e)) i = subst P (sym (ap (λ (y : SegmentRow). y.id) e) ∙ i) (of_hour 1)
  used_is row x (inr (inr (inl e))) i = subst P (sym (ap (λ (y : SegmentRow). y.id) e) ∙ i) (of_day 0)
  used_is row x (inr (inr (inr (inl e)))) i = subst P (sym (ap (λ (y : SegmentRow). y.id) e) ∙ i) (of_day 1)
  used_is row x (inr (inr (inr (inr i)))) h = absurd i

  live_is : (x : SegId) → IsLive the_rows [] x → P x
  live_is x (inl u) = used_is u.0 x u.1 u.3
  live_is x (inr u) = absurd u.1

hour_is_not_now : v0 ≡ now → ⊥
hour_is_not_now e = never (sym (ap (λ (z : ℤ). int_eq v0 z) e))

-- of one version, of one span
one_span_of : (x : SegId) → IsLive the_rows [] x → (y : SegId) → IsLive the_rows [] y → x.version ≡ y.version → x.span ≡ y.span
one_span_of =
    live_is (λ (x : SegId). (y : SegId) → IsLive the_rows [] y → x.version ≡ y.version → x.span ≡ y.span)
    (λ n. live_is (λ (y : SegId). v0 ≡ y.version → hour ≡ y.span) (λ m e. refl) (λ m e. absurd (hour_is_not_now e)))
    (λ n. live_is (λ (y : SegId). now ≡ y.version → day ≡ y.span) (λ m e. absurd (hour_is_not_now (sym e))) (λ m e. refl))

at_most_now : (x : SegId) → IsLive the_rows [] x → int_le x.version now ≡ true
at_most_now = live_is (λ (x : SegId). int_le x.version now ≡ true) (λ n. refl) (λ n. refl)

lock_is_now : (q : PosseRow) → In q the_locks → guards q.lock_kind ≡ true → q.version ≡ now
lock_is_now q (inl e) g = absurd (never (sym (ap (λ (x : PosseRow). guards x.lock_kind) e) ∙ g))
lock_is_now q (inr (inl e)) g = ap (λ (x : PosseRow). x.version) e
lock_is_now q (inr (inr i)) g = absurd i

-- an id above another one is of the day
above_is_now : (x : SegId) → IsLive the_rows [] x → (y : SegId) → IsLive the_rows [] y → int_lt x.version y.version ≡ true → y.version ≡ now
above_is_now =
    live_is (λ (x : SegId). (y : SegId) → IsLive the_rows [] y → int_lt x.version y.version ≡ true → y.version ≡ now)
    (λ n. live_is (λ (y : SegId). int_lt v0 y.version ≡ true → y.version ≡ now) (λ m l. absurd (never l)) (λ m l. refl))
    (λ n. live_is (λ (y : SegId). int_lt now y.version ≡ true → y.version ≡ now) (λ m l. absurd (never l)) (λ m l. refl))

-- ---- cores

whole_hour : IsWhole the_rows hour_chunk
whole_hour i l = absurd (omega (arith, l))

whole_day : IsWhole the_rows day_chunk
whole_day zero l = (day_row, inr (inr (inl refl)), refl, record { source_is = refl; span_is = refl; version_is = refl }, refl)
whole_day (suc i) l = absurd (omega (arith, l))

all_whole : (c : ChunkRow) → In c the_chunks → IsWhole the_rows c
all_whole c (inl e) = subst (λ (x : ChunkRow). IsWhole the_rows x) (sym e) whole_hour
all_whole c (inr (inl e)) = subst (λ (x : ChunkRow). IsWhole the_rows x) (sym e) whole_day
all_whole c (inr (inr i)) = absurd i

zero_core : (c : ChunkRow) → In c the_chunks → c.version ≡ v0 → c.core ≡ 0
zero_core c (inl e) v = ap (λ (x : ChunkRow). x.core) e
zero_core c (inr (inl e)) v = absurd (hour_is_not_now (sym v ∙ ap (λ (x : ChunkRow). x.version) e))
zero_core c (inr (inr i)) v = absurd i

day_core : (c : ChunkRow) → In c the_chunks → c.version ≡ now → 0 < c.core
day_core c (inl e) v = absurd (hour_is_not_now (sym (ap (λ (x : ChunkRow). x.version) e) ∙ v))
day_core c (inr (inl e)) v = subst (λ (n : ℕ). 0 < n) (sym (ap (λ (x : ChunkRow). x.core) e)) (omega arith)
day_core c (inr (inr i)) v = absurd i

-- no lock is shared
not_shared : (q : PosseRow) → In q the_locks → q.lock_kind ≡ LockKinds.Shared → ⊥
not_shared q (inl e) k = never (ap (λ (z : LockKind). same_kind z LockKinds.Shared) (sym (ap (λ (x : PosseRow). x.lock_kind) e) ∙ k))
not_shared q (inr (inl e)) k = never (ap (λ (z : LockKind). same_kind z LockKinds.Shared) (sym (ap (λ (x : PosseRow). x.lock_kind) e) ∙ k))
not_shared q (inr (inr i)) k = i

-- a chunk above version 0 is the replacing lock's, and lies within its span
within_lock : (c : ChunkRow) (q : PosseRow) → In c the_chunks → In q the_locks → c.version ≡ q.version → int_lt (pos 0) c.version ≡ true → covers q.span c.span ≡ true
within_lock c q (inl e) j v l = absurd (never (sym (ap (λ (x : ChunkRow). int_lt (pos 0) x.version) e) ∙ l))
within_lock c q (inr (inl e)) (inl f) v l = absurd (hour_is_not_now (sym (ap (λ (x : PosseRow). x.version) f) ∙ (sym v ∙ ap (λ (x : ChunkRow). x.version) e)))
within_lock c q (inr (inl e)) (inr (inl f)) v l = ap₂ (λ (x : PosseRow) (y : ChunkRow). covers x.span y.span) f e
within_lock c q (inr (inl e)) (inr (inr i)) v l = absurd i
within_lock c q (inr (inr i)) j v l = absurd i

-- ---- what is carried: the replacement's chunk covers all of the lock's span

all_covered : (q : PosseRow) (at : ℤ) → In q the_locks → q.lock_kind ≡ LockKinds.Replace → has q.span at ≡ true → is_covered the_chunks q at ≡ true
all_covered q at (inl e) k h = absurd (never (sym (ap (λ (x : PosseRow). guards x.lock_kind) e) ∙ ap guards k))
all_covered q at (inr (inl e)) k h =
    subst (λ (x : PosseRow). is_covered the_chunks x at ≡ true) (sym e) (ap (λ (b : Bool). b || false) (subst (λ (x : PosseRow). has x.span at ≡ true) e h))
all_covered q at (inr (inr i)) k h = absurd i

-- ---- what is shown

le_le : (x y z : ℤ) → int_le x y ≡ true → int_le y z ≡ true → int_le x z ≡ true
le_le x y z h k = grind (arith, ints)

lt_le : (x y z : ℤ) → int_lt x y ≡ true → int_le y z ≡ true → int_lt x z ≡ true
lt_le x y z h k = grind (arith, ints)

-- the hour lies within the day
hour_in_day : (at : ℤ) → has hour at ≡ true → has day at ≡ true
hour_in_day at h =
    let ends = and_parts (int_le hour.start at) (int_lt at hour.end) h in
    and_from (int_le day.start at) (int_lt at day.end) (le_le day.start hour.start at refl ends.0) (lt_le at hour.end day.end ends.1 refl)

-- one more where the test holds
abbrev one_if : Bool → ℕ → ℕ
one_if b n = cond b (1 + n) n

-- whether a row of the hour is visible, and whether one of the day is
abbrev low_shows : Bool → Bool → Bool → Bool
low_shows source hour_has day_has =
    (source && hour_has) && ((not (source && hour_has) || true) && ((not (source && hour_has) || true) && ((not (source && day_has) || false) && ((not (source && day_has) || false) && true))))

abbrev high_shows : Bool → Bool → Bool → Bool
high_shows source hour_has day_has =
    (source && day_has) && ((not (source && hour_has) || true) && ((not (source && hour_has) || true) && ((not (source && day_has) || true) && ((not (source && day_has) || true) && true))))

-- by cases on whether the source is the book's, what has the instant, and which row's root it is
shown_by : (source hour_has day_has root_has first second own : Bool)
    → (hour_has ≡ true → day_has ≡ true) → (first ≡ true → hour_has ≡ root_has) → (second ≡ true → hour_has ≡ root_has) → (own ≡ true → day_has ≡ root_has)
    → one_if (low_shows source hour_has day_has && (root_has && first)) (one_if (low_shows source hour_has day_has && (root_has && second)) (one_if (high_shows source hour_has day_has && (root_has && own)) (one_if (high_shows source hour_has day_has && (root_has && second)) 0)))
    ≡ cond (not ((source && false) || ((source && ((day_has && true) || false)) || false))) (cond (source && root_has) (one_if first 0) 0) 0
    + (cond (not ((source && ((day_has && false) || false)) || false)) (cond (source && root_has) (one_if second 0) 0) 0 + (cond (source && root_has) (one_if own 0) 0 + 0))
shown_by false hour_has day_has root_has first second own p f g k = refl
shown_by true true false root_has first second own p f g k = absurd (never (p refl))
shown_by true true true false first second own p f g k = refl
shown_by true true true true first true true p f g k = refl
shown_by true true true true first true false p f g k = refl
shown_by true true true true first false true p f g k = refl
shown_by true true true true first false false p f g k = refl
shown_by true false true false first second own p f g k = refl
shown_by true false true true first true true p f g k = refl
shown_by true false true true first true false p f g k = refl
shown_by true false true true first false true p f g k = refl
shown_by true false true true first false false p f g k = refl
shown_by true false false false first second own p f g k = refl
shown_by true false false true true second own p f g k = absurd (never (f refl))
shown_by true false false true false true own p f g k = absurd (never (g refl))
shown_by true false false true false false true p f g k = absurd (never (k refl))
shown_by true false false true false false false p f g k = refl

-- publications without ranges leave no run, of whatever source
abbrev run_by_source : Bool → Run
run_by_source b = cond b (cond b (cond b no_run no_run) (cond b no_run no_run)) (cond b (cond b no_run no_run) (cond b no_run no_run))

tiled_by : (b : Bool) → ends_with (run_by_source b).from (run_by_source b).ranges ≡ Some None
tiled_by true = refl
tiled_by false = refl

-- ---- the whole

sound_of_the_book : Sound the_book
unfolding is_utf8 chars encode
sound_of_the_book = record {
  shape = record {
    limits = record {
      room = refl;
      clock = refl;
      last = refl;
      tasks = refl;
      posses = refl;
      chunks = refl;
      segments = refl;
      pendings = refl;
      upgrades = refl;
      publications = refl;
      offsets = refl;
      supervisors = refl;
      sequences = refl;
      kinds = refl;
      states = refl;
    };
    keys = record {
      tasks = ((refl, tt), (tt, tt));
      numbers = ((refl, tt), (tt, tt));
      ascending = ((omega arith, tt), (tt, tt));
      below = (omega arith, (omega arith, tt));
      chunks = ((refl, tt), (tt, tt));
      ids = ((refl, (refl, (refl, tt))), ((refl, (refl, tt)), ((refl, tt), (tt, tt))));
      upgrades = tt;
      offsets = tt;
      supervisors = tt;
      sequences = tt;
      requests = tt;
      once = ((refl, (refl, tt)), ((refl, tt), (tt, tt)));
    };
    versions = record { locks = refl; chunks = refl; kinds = refl; distinct = ((refl, tt), (tt, tt)) };
    members = have_members;
    chunks = record { segments = segments_have_chunks; pendings = λ x i. absurd i; adds = adds_have_chunks; empties = λ x i. absurd i };
    commits = record { commits = refl; locks = refl; spans = refl };
    roots = record { tombstones = λ x i h. absurd (no_tombstone x i h); others = λ x i h. have_roots x i };
  };
  compatible_locks = ((λ e f. refl, tt), (tt, tt));
  one_span = λ x y u v meet same. one_span_of x u y v same;
  below_locks = λ x q u v g source meet. subst (λ (z : ℤ). int_le x.version z ≡ true) (sym (lock_is_now q v.among g)) (at_most_now x u);
  rooted = λ x i. absurd i;
  upgrades = λ x i. absurd i;
  cores = record {
    live = λ c x i u in_chunk. all_whole c i;
    owned = λ c q i owner. all_whole c i;
    zero_version = λ c i e. zero_core c i e;
    shared = λ c q i owner e. absurd (not_shared q owner.is_valid.among e);
    replace = λ c q i owner e. day_core c i (owner.version_is ∙ lock_is_now q owner.is_valid.among (ap guards e));
    within = λ c q i owner l. within_lock c q i owner.is_valid.among owner.version_is l;
  };
  copies = record {
    cores = λ x y d u v meet l i in_chunk. day_core d i (sym in_chunk.version_is ∙ above_is_now x u y v l);
    contains = λ x y i. absurd i;
    copies = λ x y i. absurd i;
  };
  carried = λ q at root v kind inside uncovered. absurd (never (sym uncovered ∙ all_covered q at v.among kind inside));
  shown_contents = λ source at root. shown_by (bytes_eq w source) (has hour at) (has day at) (has root.span at) (same_id (hour_id 0) root) (same_id (hour_id 1) root) (same_id (day_id 0) root) (hour_in_day at) (same_has (hour_id 0) root at) (same_has (hour_id 1) root at) (same_has (day_id 0) root at);
  tiled = λ source stream partition. tiled_by (bytes_eq w source);
  sequences = record {
    sequences = λ u i. absurd i;
    groups = λ s i. absurd i;
    replicas = λ x i h. absurd (no_replica x i h);
    compactions = λ k x e h. absurd (no_compaction k x e h);
    publications = λ m i h. absurd (no_group_of_sequence m i h);
  };
}

pub sound_after_replacement : SoundAfterReplacement
sound_after_replacement = sound_of_the_book
