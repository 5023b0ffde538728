-- The book of a stream's day under a replacing lock is sound, rule by rule.
use Rattle.std.proofs.Common.{◌≡◌, ◌∙◌, ◌+◌, ◌<◌, ◌&&◌, ◌||◌, ◌∷◌, Bool, List, [], ap, ap₂, arith, codes, cond, false, inl, inr, int_le, int_lt, nat_le, not, pos, refl, subst, suc, sym, true, true≢false, zero, ℕ, ℤ}
use Rattle.std.proofs.lemmas.Bool.{and_parts}
use Rattle.std.proofs.lemmas.Bool.Decides.{Decides-int_eq}
use Rattle.std.specs.Prelude.{None, Option, Some, bytes_eq}
use Rattle.std.specs.Ordering.{int_eq}
use Rattle.std.specs.Str.{is_utf8, chars}
use lib.Utf8.{encode}
use Rattle.iv_span.specs.Extent.{has}
use Rattle.seg_names.specs.Ids.{same_extent, same_id}
use Rattle.seg_names.specs.declared.seg_id.SegId.{SegId}
use Rattle.book_rows.specs.Kinds.{guards}
use Rattle.book_rows.specs.Lists.{In, at_place}
use Rattle.book_rows.specs.Live.{IsLive}
use Rattle.book_rows.specs.Names.{begins_with, compact_prefix, sup_prefix}
use Rattle.book_rows.specs.Contents.{alive}
use Rattle.book_rows.specs.Rules.{IsRooted, IsUpgrade, upgraded}
use Rattle.book_rows.specs.SequenceRules.{is_sup_task}
use Rattle.book_rows.specs.Shape.{HasAddedRoot, HasChunk, HasMembers, IsMemberTask}
use Rattle.book_rows.specs.Sound.{Sound}
use Rattle.book_rows.specs.Tiles.{Run, ends_with, no_run}
use Rattle.book_rows.specs.declared.kinds.LockKind.TheVariants as LockKinds
use Rattle.book_rows.specs.declared.kinds.PubKind.TheVariants as PubKinds
use Rattle.book_rows.specs.declared.kinds.TaskKind.TheVariants as TaskKinds
use Rattle.book_rows.specs.declared.kinds.TaskStatus.TheVariants as Statuses
use Rattle.book_rows.specs.declared.rows.Book.{Book}
use Rattle.book_rows.specs.declared.rows.ChunkRow.{ChunkRow}
use Rattle.book_rows.specs.declared.rows.PendingRow.{PendingRow}
use Rattle.book_rows.specs.declared.rows.PosseRow.{PosseRow}
use Rattle.book_rows.specs.declared.rows.Publication.{Publication}
use Rattle.book_rows.specs.declared.rows.SegmentRow.{SegmentRow}
use Rattle.book_rows.specs.declared.rows.TaskRow.{TaskRow}
use Rattle.book_rows.specs.declared.rows.UpgradeRow.{UpgradeRow}
use Rattle.scenes.specs.Publishing.{hour_id, pending_row_of, upgrade_row_of, used_row}
use Rattle.cases_rules.specs.ReplaceCases.{chunk_row}
use Rattle.scenes.specs.Script.{hour, now, p, r, v0, w}
use Rattle.scenes.specs.Rows.{r_lock}
use Rattle.cases_rules.specs.SoundBookCases.{SoundUnderLock}

pub never : false ≡ true → ⊥
never e = true≢false (sym e)

-- ---- the rows

abbrev pub p_row : TaskRow
p_row = record { task = p; group = p; source = w; kind = TaskKinds.Realtime; priority = 75; status = Statuses.Running; wants = [] }

abbrev pub r_row : TaskRow
r_row = record { task = r; group = r; source = w; kind = TaskKinds.Batch; priority = 50; status = Statuses.Running; wants = [] }

abbrev pub the_tasks : List TaskRow
the_tasks = p_row ∷ r_row ∷ []

abbrev pub append_lock : PosseRow
append_lock = record { number = 1; lock_kind = LockKinds.Append; group = p; source = w; span = hour; version = v0; priority = 75; members = p ∷ []; revoked = false; since = 0 }

abbrev pub the_locks : List PosseRow
the_locks = append_lock ∷ r_lock ∷ []

abbrev the_chunk : ChunkRow
the_chunk = chunk_row hour v0 0 3

abbrev pub row_of : ℕ → SegmentRow
row_of k = used_row (hour_id k) (hour_id k) k

abbrev the_rows : List SegmentRow
the_rows = row_of 0 ∷ row_of 1 ∷ []

abbrev the_pending : PendingRow
the_pending = pending_row_of (hour_id 2) (hour_id 2) 1 (codes "s3")

abbrev the_upgrade : UpgradeRow
the_upgrade = upgrade_row_of 2 (hour_id 1)

abbrev pub publication_of : ℕ → Publication
publication_of k = record { kind = PubKinds.Append; group = p; source = w; spans = []; adds = hour_id k ∷ []; empties = []; ranges = None }

abbrev the_publications : List Publication
the_publications = publication_of 0 ∷ publication_of 1 ∷ []

abbrev the_book : Book
the_book = record {
  clock = now;
  last = now;
  next_lock = 3;
  tasks = the_tasks;
  posses = the_locks;
  chunks = the_chunk ∷ [];
  segments = the_rows;
  pendings = the_pending ∷ [];
  upgrades = the_upgrade ∷ [];
  publications = the_publications;
  offsets = [];
  supervisors = [];
  sequences = [];
}

-- ---- members, and tasks that the program makes itself

member_p : (task : List ℕ) → In task (p ∷ []) → IsMemberTask the_tasks append_lock task
member_p task (inl e) = record { row = p_row; among = inl refl; task_is = sym e; runs = refl; group_is = refl; source_is = refl; priority_is = refl }
member_p task (inr i) = absurd i

member_r : (task : List ℕ) → In task (r ∷ []) → IsMemberTask the_tasks r_lock task
member_r task (inl e) = record { row = r_row; among = inr (inl refl); task_is = sym e; runs = refl; group_is = refl; source_is = refl; priority_is = refl }
member_r task (inr i) = absurd i

pub have_members : (q : PosseRow) → In q the_locks → HasMembers the_tasks q
have_members q (inl e) = subst (λ (x : PosseRow). HasMembers the_tasks x) (sym e) (record { some = refl; distinct = (tt, tt); tasks = member_p })
have_members q (inr (inl e)) = subst (λ (x : PosseRow). HasMembers the_tasks x) (sym e) (record { some = refl; distinct = (tt, tt); tasks = member_r })
have_members q (inr (inr i)) = absurd i

pub no_replica : (t : TaskRow) → In t the_tasks → is_sup_task t ≡ true → ⊥
no_replica t (inl e) h = never (sym (ap is_sup_task e) ∙ h)
no_replica t (inr (inl e)) h = never (sym (ap is_sup_task e) ∙ h)
no_replica t (inr (inr i)) h = i

is_compaction : Option TaskRow → Bool
is_compaction None = false
is_compaction (Some t) = begins_with compact_prefix t.task

no_place : (k : ℕ) → is_compaction (at_place k the_tasks) ≡ false
unfolding is_compaction
no_place zero = refl
no_place (suc zero) = refl
no_place (suc (suc k)) = refl

pub no_compaction : (k : ℕ) (t : TaskRow) → at_place k the_tasks ≡ Some t → begins_with compact_prefix t.task ≡ true → ⊥
unfolding is_compaction
no_compaction k t e h = never (sym (no_place k) ∙ (ap is_compaction e ∙ h))

no_group_of_sequence : (m : Publication) → In m the_publications → begins_with sup_prefix m.group ≡ true → ⊥
no_group_of_sequence m (inl e) h = never (sym (ap (λ (x : Publication). begins_with sup_prefix x.group) e) ∙ h)
no_group_of_sequence m (inr (inl e)) h = never (sym (ap (λ (x : Publication). begins_with sup_prefix x.group) e) ∙ h)
no_group_of_sequence m (inr (inr i)) h = i

-- ---- ids have their chunk, and rows their root

has_chunk : (n : ℕ) → n < 3 → (x : SegId) → x ≡ hour_id n → HasChunk (the_chunk ∷ []) x
has_chunk n l x e = subst (λ (y : SegId). HasChunk (the_chunk ∷ []) y) (sym e) (record { chunk = the_chunk; among = inl refl; is_in = record { source_is = refl; span_is = refl; version_is = refl }; below = l })

two_have_chunks : (x : SegId) → In x (hour_id 0 ∷ hour_id 1 ∷ []) → HasChunk (the_chunk ∷ []) x
two_have_chunks x (inl e) = has_chunk 0 (omega arith) x e
two_have_chunks x (inr (inl e)) = has_chunk 1 (omega arith) x e
two_have_chunks x (inr (inr i)) = absurd i

third_has_chunk : (x : SegId) → In x (hour_id 2 ∷ []) → HasChunk (the_chunk ∷ []) x
third_has_chunk x (inl e) = has_chunk 2 (omega arith) x e
third_has_chunk x (inr i) = absurd i

no_tombstone : (x : SegmentRow) → In x the_rows → x.tombstone ≡ true → ⊥
no_tombstone x (inl e) h = never (sym (ap (λ (y : SegmentRow). y.tombstone) e) ∙ h)
no_tombstone x (inr (inl e)) h = never (sym (ap (λ (y : SegmentRow). y.tombstone) e) ∙ h)
no_tombstone x (inr (inr i)) h = i

have_roots : (x : SegmentRow) → In x the_rows → HasAddedRoot the_publications x
have_roots x (inl e) = subst (λ (y : SegmentRow). HasAddedRoot the_publications y) (sym e) (record { place = 0; publication = publication_of 0; at = refl; listed = inl refl; not_after = omega arith })
have_roots x (inr (inl e)) = subst (λ (y : SegmentRow). HasAddedRoot the_publications y) (sym e) (record { place = 1; publication = publication_of 1; at = refl; listed = inl refl; not_after = omega arith })
have_roots x (inr (inr i)) = absurd i

-- ---- what is live: the three ids of the hour

module _ (P : SegId → Type 0) (first : P (hour_id 0)) (second : P (hour_id 1)) (third : P (hour_id 2)) where
  used_is : (row : SegmentRow) (x : SegId) → In row the_rows → row.id ≡ x → P x
  used_is row x (inl e) i = subst P (sym (ap (λ (y : SegmentRow). y.id) e) ∙ i) first
  used_is row x (inr (inl e)) i = subst P (sym (ap (λ (y : SegmentRow). y.id) e) ∙ i) second
  used_is row x (inr (inr i)) h = absurd i

  pending_is : (row : PendingRow) (x : SegId) → In row (the_pending ∷ []) → row.id ≡ x → P x
  pending_is row x (inl e) i = subst P (sym (ap (λ (y : PendingRow). y.id) e) ∙ i) third
  pending_is row x (inr i) h = absurd i

  live_is : (x : SegId) → IsLive the_rows (the_pending ∷ []) x → P x
  live_is x (inl u) = used_is u.0 x u.1 u.3
  live_is x (inr u) = pending_is u.0 x u.1 u.2

live_span : (x : SegId) → IsLive the_rows (the_pending ∷ []) x → x.span ≡ hour
live_span = live_is (λ (x : SegId). x.span ≡ hour) refl refl refl

live_version : (x : SegId) → IsLive the_rows (the_pending ∷ []) x → x.version ≡ v0
live_version = live_is (λ (x : SegId). x.version ≡ v0) refl refl refl

none_above : (x y : SegId) → IsLive the_rows (the_pending ∷ []) x → IsLive the_rows (the_pending ∷ []) y → int_lt x.version y.version ≡ true → ⊥
none_above x y u v l = never (ap₂ int_lt (sym (live_version x u)) (sym (live_version y v)) ∙ l)

-- ---- locks over live chunks

lock_above : (q : PosseRow) → In q the_locks → guards q.lock_kind ≡ true → int_le v0 q.version ≡ true
lock_above q (inl e) g = absurd (never (sym (ap (λ (x : PosseRow). guards x.lock_kind) e) ∙ g))
lock_above q (inr (inl e)) g = ap (λ (x : PosseRow). int_le v0 x.version) e
lock_above q (inr (inr i)) g = absurd i

-- ---- cores

core_is : (c : ChunkRow) → In c (the_chunk ∷ []) → c.core ≡ 0
core_is c (inl e) = ap (λ (x : ChunkRow). x.core) e
core_is c (inr i) = absurd i

version_is : (c : ChunkRow) → In c (the_chunk ∷ []) → c.version ≡ v0
version_is c (inl e) = ap (λ (x : ChunkRow). x.version) e
version_is c (inr i) = absurd i

not_below : (n i : ℕ) → n ≡ 0 → i < n → ⊥
not_below n i e l = omega (arith, e, l)

-- the replacing lock is no owner of the chunk
not_owned : (q : PosseRow) → In q the_locks → guards q.lock_kind ≡ true → v0 ≡ q.version → ⊥
not_owned q (inl e) g v = never (sym (ap (λ (x : PosseRow). guards x.lock_kind) e) ∙ g)
not_owned q (inr (inl e)) g v = never (sym (ap (λ (z : ℤ). int_eq v0 z) (v ∙ ap (λ (x : PosseRow). x.version) e)))
not_owned q (inr (inr i)) g v = i

-- ---- what is shown, and what is carried

-- ids that are the same have a span at the same instants
pub same_has : (x y : SegId) (t : ℤ) → same_id x y ≡ true → has x.span t ≡ has y.span t
same_has x y t e =
    let spans = (and_parts (bytes_eq x.source y.source) (same_extent x.span y.span) (and_parts (bytes_eq x.source y.source && same_extent x.span y.span) (int_eq x.version y.version) (and_parts (bytes_eq x.source y.source && same_extent x.span y.span && int_eq x.version y.version) _ e).0).0).1 in
    let ends = and_parts (int_eq x.span.start y.span.start) (int_eq x.span.end y.span.end) spans in
    ap₂ (λ (low high : ℤ). int_le low t && int_lt t high) ((Decides-int_eq x.span.start y.span.start).0 ends.0) ((Decides-int_eq x.span.end y.span.end).0 ends.1)

are_rooted : (x : PendingRow) → In x (the_pending ∷ []) → IsRooted the_locks (the_pending ∷ []) x
are_rooted x (inl e) = subst (λ (y : PendingRow). IsRooted the_locks (the_pending ∷ []) y) (sym e) (record {
  has_root = record { root = the_pending; among = inl refl; is_root = refl; root_is = refl; posse_is = refl; sequence_is = refl; previous_is = refl };
  has_posse = record { posse = append_lock; is_valid = record { among = inl refl; valid = refl }; number_is = refl; source_is = refl; covers_root = refl };
  kind_is = inl refl;
})
are_rooted x (inr i) = absurd i

are_upgrades : (x : UpgradeRow) → In x (the_upgrade ∷ []) → IsUpgrade the_locks the_publications x
are_upgrades x (inl e) = subst (λ (y : UpgradeRow). IsUpgrade the_locks the_publications y) (sym e) (record {
  posse = r_lock;
  is_valid = record { among = inr (inl refl); valid = refl };
  number_is = refl;
  kind_is = refl;
  covers_root = refl;
  added = inr (inl (omega arith, inl refl));
})
are_upgrades x (inr i) = absurd i

-- an upgrade row counts as its publication does
counted_by : (root_has same : Bool) → cond (root_has && same) 1 0 ≡ 0 + (cond root_has (cond same 1 0) 0 + 0)
counted_by true true = refl
counted_by true false = refl
counted_by false same = refl

carried_by : (q : PosseRow) (at : ℤ) (root : SegId) → In q the_locks → q.lock_kind ≡ LockKinds.Replace
    → upgraded (the_upgrade ∷ []) q.number at root ≡ alive (λ k. nat_le q.since k) the_publications q.source at root
carried_by q at root (inl e) kind = absurd (never (sym (ap (λ (x : PosseRow). guards x.lock_kind) e) ∙ ap guards kind))
carried_by q at root (inr (inl e)) kind =
    subst (λ (x : PosseRow). upgraded (the_upgrade ∷ []) x.number at root ≡ alive (λ k. nat_le x.since k) the_publications x.source at root) (sym e) (counted_by (has root.span at) (same_id (hour_id 1) root))
carried_by q at root (inr (inr i)) kind = absurd i

-- publications without ranges leave no run, of whatever source
abbrev run_by_source : Bool → Run
run_by_source b = cond b (cond b no_run no_run) (cond b no_run no_run)

tiled_by : (b : Bool) → ends_with (run_by_source b).from (run_by_source b).ranges ≡ Some None
tiled_by true = refl
tiled_by false = refl

-- whether a row is shown, where both rows are used at the same instants
abbrev shown_row : Bool → Bool
shown_row used = used && ((not used || true) && ((not used || true) && true))

-- by cases on whether the source is the book's, the hour and the root's span have the instant, and which row's root it is
shown_by : (source hour_has root_has first second : Bool) → (first ≡ true → hour_has ≡ root_has) → (second ≡ true → hour_has ≡ root_has)
    → cond (shown_row (source && hour_has) && (root_has && first)) (1 + cond (shown_row (source && hour_has) && (root_has && second)) 1 0) (cond (shown_row (source && hour_has) && (root_has && second)) 1 0)
    ≡ cond (not ((source && false) || false)) (cond (source && root_has) (cond first 1 0) 0) 0 + (cond (source && root_has) (cond second 1 0) 0 + 0)
shown_by false hour_has root_has first second f g = refl
shown_by true true true true true f g = refl
shown_by true true true true false f g = refl
shown_by true true true false true f g = refl
shown_by true true true false false f g = refl
shown_by true true false first second f g = refl
shown_by true false true true second f g = absurd (never (f refl))
shown_by true false true false true f g = absurd (never (g refl))
shown_by true false true false false f g = refl
shown_by true false false first second f g = refl

sound_of_the_book : Sound the_book
unfolding is_utf8 chars encode
sound_of_the_book = record {
  shape = record {
    limits = record {
      room = refl;
      clock = refl;
      last = refl;
      tasks = refl;
      posses = refl;
      chunks = refl;
      segments = refl;
      pendings = refl;
      upgrades = refl;
      publications = refl;
      offsets = refl;
      supervisors = refl;
      sequences = refl;
      kinds = refl;
      states = refl;
    };
    keys = record {
      tasks = ((refl, tt), (tt, tt));
      numbers = ((refl, tt), (tt, tt));
      ascending = ((omega arith, tt), (tt, tt));
      below = (omega arith, (omega arith, tt));
      chunks = (tt, tt);
      ids = ((refl, (refl, tt)), ((refl, tt), (tt, tt)));
      upgrades = (tt, tt);
      offsets = tt;
      supervisors = tt;
      sequences = tt;
      requests = (tt, tt);
      once = ((refl, (refl, tt)), ((refl, tt), (tt, tt)));
    };
    versions = record { locks = refl; chunks = refl; kinds = refl; distinct = ((refl, tt), (tt, tt)) };
    members = have_members;
    chunks = record { segments = two_have_chunks; pendings = third_has_chunk; adds = two_have_chunks; empties = λ x i. absurd i };
    commits = record { commits = refl; locks = refl; spans = refl };
    roots = record { tombstones = λ x i h. absurd (no_tombstone x i h); others = λ x i h. have_roots x i };
  };
  compatible_locks = ((λ e f. refl, tt), (tt, tt));
  one_span = λ x y u v meet same. live_span x u ∙ sym (live_span y v);
  below_locks = λ x q u v g source meet. subst (λ (z : ℤ). int_le z q.version ≡ true) (sym (live_version x u)) (lock_above q v.among g);
  rooted = are_rooted;
  upgrades = are_upgrades;
  cores = record {
    live = λ c x i u in_chunk n l. absurd (not_below c.core n (core_is c i) l);
    owned = λ c q i owner n l. absurd (not_below c.core n (core_is c i) l);
    zero_version = λ c i e. core_is c i;
    shared = λ c q i owner e. core_is c i;
    replace = λ c q i owner e. absurd (not_owned q owner.is_valid.among (ap guards e) (sym (version_is c i) ∙ owner.version_is));
    within = λ c q i owner l. absurd (never (sym (ap (λ (z : ℤ). int_lt (pos 0) z) (version_is c i)) ∙ l));
  };
  copies = record {
    cores = λ x y d u v meet l i in_chunk. absurd (none_above x y u v l);
    contains = λ x y i e v meet l. absurd (none_above x.id y (inr (x, i, refl)) v l);
    copies = λ x y i e v meet l. absurd (none_above x.id y (inr (x, i, refl)) v l);
  };
  carried = λ q at root v kind inside uncovered. carried_by q at root v.among kind;
  shown_contents = λ source at root. shown_by (bytes_eq w source) (has hour at) (has root.span at) (same_id (hour_id 0) root) (same_id (hour_id 1) root) (same_has (hour_id 0) root at) (same_has (hour_id 1) root at);
  tiled = λ source stream partition. tiled_by (bytes_eq w source);
  sequences = record {
    sequences = λ u i. absurd i;
    groups = λ s i. absurd i;
    replicas = λ x i h. absurd (no_replica x i h);
    compactions = λ k x e h. absurd (no_compaction k x e h);
    publications = λ m i h. absurd (no_group_of_sequence m i h);
  };
}

pub sound_under_lock : SoundUnderLock
sound_under_lock = sound_of_the_book
