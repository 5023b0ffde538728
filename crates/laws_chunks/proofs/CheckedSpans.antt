-- What the check of an insert or a replacement says of its spans.
use Rattle.std.proofs.Common.{Bool, List, None, Ok, Option, Some, [], ap, arith, bytes_eq, cond, false, filter, find, inl, inr, int_lt, length, map, not, refl, subst, suc, sym, true, zero, ℕ, ◌&&◌, ◌+◌, ◌++◌, ◌<◌, ◌∙◌, ◌∷◌, ◌≡◌}
use Rattle.std.specs.Prelude.{option_map}
pub use Rattle.std.proofs.lemmas.Bool.{not-true as off_is, or_cases}
use Rattle.std.proofs.lemmas.Bool.{not-false, and_from, and_parts, false≢true}
use Rattle.std.proofs.lemmas.Bool.Decides.{Decides-int_eq}
use Rattle.std.proofs.lemmas.List.{length-map}
use Rattle.std.proofs.lemmas.Slice.Eq.{bytes_eq-Decides}
use Rattle.std.specs.List.{AllByRecursion, list_all, range_with_len}
use Rattle.std.specs.Ordering.{int_eq}
use Rattle.iv_span.specs.Extent.{Extent, covers, overlap}
use Rattle.seg_names.specs.Ids.{same_extent, same_id}
use Rattle.seg_names.specs.declared.seg_id.SegId.{SegId}
use Rattle.book_rows.specs.Ids.{is_of_span}
use Rattle.book_rows.specs.Kinds.{same_kind}
use Rattle.book_rows.specs.Lists.{In, Pairs, count, is_empty, or_else, same_numbers}
use Rattle.book_rows.specs.Live.{IsIn, IsWhole}
use Rattle.book_rows.specs.Locks.{is_held, is_member}
use Rattle.book_rows.specs.Over.{Filling, Target, both_in_order, has_own_version, is_filled, is_placed, is_whole_set, lock_for, parts_of, target_of, targets}
use Rattle.book_rows.specs.Append.{version_overlaps}
use Rattle.book_rows.specs.Publications.{Publish}
use Rattle.book_rows.specs.Rewrite.{chunk_for, core_by, core_of, own_row, own_rows, tomb_row}
use Rattle.book_rows.specs.Shape.{AreDistinct}
use Rattle.book_rows.specs.Spans.{first_overlap, first_overlap_after, is_span, is_span_of, overlaps_one}
use Rattle.book_rows.specs.declared.kinds.LockKind.{LockKind}
use Rattle.book_rows.specs.declared.rows.Book.{Book}
use Rattle.book_rows.specs.declared.rows.ChunkRow.{ChunkRow}
use Rattle.book_rows.specs.declared.rows.PosseRow.{PosseRow}
use Rattle.book_rows.specs.declared.rows.TaskRow.{TaskRow}
use Rattle.laws_locks.proofs.Targets.{IsLetThrough, targets_have}
use Rattle.laws_chunks.specs.Inserts.{AreDisjoint, ArePlaced, IsFilledSpan}
use Rattle.laws_chunks.proofs.GrantedPlaces.{same_kind_means}
use Rattle.laws_chunks.proofs.IdOrder.{ascending_back, in_order_In, length_ascending, range_In, same_numbers_means}
use Rattle.laws_chunks.proofs.LockFacts.{pair_of}
use Rattle.laws_chunks.proofs.LookUps.{find_none}
use Rattle.laws_chunks.proofs.Members.{In-append, In-filter, In-left, In-map, In-right, any_In, any_from_In, count-append, count_none, list_all_In, map_In, none_In}
use Rattle.laws_chunks.proofs.OnceAdded.{distinct_from_counts}
use Rattle.laws_chunks.proofs.WholeParts.{parts_low, parts_once}
use Rattle.laws_chunks.proofs.SoundChunks.{pairs_unmapped, span_of_limits}
use Rattle.laws_chunks.proofs.Spans.{overlap_self, same_extent_means}
use Rattle.book_rows.specs.declared.replies.Refusal.TheVariants as Refusals

-- ---- whole sets of parts

pub some_length : (ns : List ℕ) → is_empty ns ≡ false → 0 < length ns
some_length [] h = absurd (false≢true (sym h))
some_length (n ∷ ns) h = omega arith

pub none_length : (ns : List ℕ) → is_empty ns ≡ true → length ns ≡ 0
none_length [] h = refl
none_length (n ∷ ns) h = absurd (false≢true h)

pub core_is : (n : ℕ) → 0 < n → core_by n ≡ n
core_is zero h = absurd (omega arith)
core_is (suc n) h = refl

-- a part of the parts is an id's of the span
part_of : (span : Extent) (ids : List SegId) (i : ℕ) → In i (parts_of span ids) → (a : SegId) × In a (filter (is_of_span span) ids) × (i ≡ a.part)
part_of span ids i h = In-map (λ (a : SegId). a.part) i (filter (is_of_span span) ids) (ascending_back i (map (λ (a : SegId). a.part) (filter (is_of_span span) ids)) h)

pub length_parts : (span : Extent) (ids : List SegId) → length (parts_of span ids) ≡ length (filter (is_of_span span) ids)
length_parts span ids = length_ascending (map (λ (a : SegId). a.part) (filter (is_of_span span) ids)) ∙ length-map (filter (is_of_span span) ids) (λ (a : SegId). a.part)

module _ (k : ℕ) (source : List ℕ) (ids tombs : List SegId) (x : Target)
    (ids_of : (a : SegId) → In a (filter (is_of_span x.span) ids) → IsIn (chunk_for source ids 0 x) a) (tombs_of : (a : SegId) → In a (filter (is_of_span x.span) tombs) → IsIn (chunk_for source ids 0 x) a) where
  by_ids : is_whole_set (parts_of x.span ids) ≡ true → IsWhole (own_rows k ids tombs x.span) (chunk_for source ids 0 x)
  by_ids h i lt =
      let both = and_parts (not (is_empty (parts_of x.span ids))) (same_numbers (parts_of x.span ids) (range_with_len 0 (length (parts_of x.span ids)))) h in
      let some : 0 < length (parts_of x.span ids) = some_length (parts_of x.span ids) (off_is (is_empty (parts_of x.span ids)) both.0) in
      let as_long : length (parts_of x.span ids) ≡ length (filter (is_of_span x.span) ids) = length_parts x.span ids in
      let core : core_by (length (filter (is_of_span x.span) ids)) ≡ length (filter (is_of_span x.span) ids) = core_is (length (filter (is_of_span x.span) ids)) (omega (arith, some, as_long)) in
      let under : i < length (parts_of x.span ids) = omega (arith, lt, core, as_long) in
      let there : In i (parts_of x.span ids) = subst (λ ns. In i ns) (sym (same_numbers_means (parts_of x.span ids) (range_with_len 0 (length (parts_of x.span ids))) both.1)) (subst (λ n. In n (range_with_len 0 (length (parts_of x.span ids)))) (none_first i) (range_In i 0 (length (parts_of x.span ids)) under)) in
      let w = part_of x.span ids i there in
      (own_row k w.0, In-left (own_row k w.0) (map (own_row k) (filter (is_of_span x.span) ids)) (map (tomb_row k) (filter (is_of_span x.span) tombs)) (map_In (own_row k) w.0 (filter (is_of_span x.span) ids) w.1), refl, ids_of w.0 w.1, sym w.2) where
        none_first : (n : ℕ) → 0 + n ≡ n
        none_first n = omega arith

  by_tomb : is_empty (parts_of x.span ids) ≡ true → same_numbers (parts_of x.span tombs) (0 ∷ []) ≡ true → IsWhole (own_rows k ids tombs x.span) (chunk_for source ids 0 x)
  by_tomb none h i lt =
      let empty : length (parts_of x.span ids) ≡ 0 = none_length (parts_of x.span ids) none in
      let core : core_by (length (filter (is_of_span x.span) ids)) ≡ 1 = ap core_by (sym (length_parts x.span ids) ∙ empty) in
      let first : i ≡ 0 = omega (arith, lt, core) in
      let there : In 0 (parts_of x.span tombs) = subst (λ ns. In 0 ns) (sym (same_numbers_means (parts_of x.span tombs) (0 ∷ []) h)) (inl refl) in
      let w = part_of x.span tombs 0 there in
      (tomb_row k w.0, In-right (tomb_row k w.0) (map (own_row k) (filter (is_of_span x.span) ids)) (map (tomb_row k) (filter (is_of_span x.span) tombs)) (map_In (tomb_row k) w.0 (filter (is_of_span x.span) tombs) w.1), refl, tombs_of w.0 w.1, sym w.2 ∙ sym first)

  whole_of : is_filled ids tombs x.span ≡ true → IsWhole (own_rows k ids tombs x.span) (chunk_for source ids 0 x)
  whole_of h = elim (or_cases (is_whole_set (parts_of x.span ids) && is_empty (parts_of x.span tombs)) (is_empty (parts_of x.span ids) && same_numbers (parts_of x.span tombs) (0 ∷ [])) h) [
    | inl on ↦ by_ids (and_parts (is_whole_set (parts_of x.span ids)) (is_empty (parts_of x.span tombs)) on).0
    | inr on ↦ (let both = and_parts (is_empty (parts_of x.span ids)) (same_numbers (parts_of x.span tombs) (0 ∷ [])) on in by_tomb both.0 both.1)
  ]

-- the ids and tombstones of a filled span are distinct, and of parts below its core
pub record AreNewIds (ids tombs : List SegId) (span : Extent) : Type 0 where
  pub distinct : AreDistinct same_id (filter (is_of_span span) ids ++ filter (is_of_span span) tombs)
  pub low : (a : SegId) → In a (filter (is_of_span span) ids ++ filter (is_of_span span) tombs) → a.part < core_of ids span

module _ (ids tombs : List SegId) (span : Extent) where
  none_of : (xs : List SegId) → is_empty (parts_of span xs) ≡ true → (a : SegId) → In a (filter (is_of_span span) xs) → ⊥
  none_of xs none a i = no_number a.part (subst (λ n. a.part < n) (none_length (parts_of span xs) none) (parts_low span xs (length (parts_of span xs)) (no_numbers (parts_of span xs) none) a i)) where
    no_number : (n : ℕ) → n < 0 → ⊥
    no_number n lt = omega arith

    no_numbers : (ns : List ℕ) → is_empty ns ≡ true → ns ≡ range_with_len 0 (length ns)
    no_numbers [] h = refl
    no_numbers (n ∷ ns) h = absurd (false≢true h)

  counted_none : (xs : List SegId) → is_empty (parts_of span xs) ≡ true → (a : SegId) → count (λ x. same_id x a) (filter (is_of_span span) xs) ≡ 0
  counted_none xs none a = count_none (λ x. same_id x a) (filter (is_of_span span) xs) (λ x i. absurd (none_of xs none x i))

  -- a whole set of ids
  new_whole : is_whole_set (parts_of span ids) ≡ true → is_empty (parts_of span tombs) ≡ true → AreNewIds ids tombs span
  new_whole whole none =
      let both = and_parts (not (is_empty (parts_of span ids))) (same_numbers (parts_of span ids) (range_with_len 0 (length (parts_of span ids)))) whole in
      let is : parts_of span ids ≡ range_with_len 0 (length (parts_of span ids)) = same_numbers_means (parts_of span ids) (range_with_len 0 (length (parts_of span ids))) both.1 in
      let some : 0 < length (parts_of span ids) = some_length (parts_of span ids) (off_is (is_empty (parts_of span ids)) both.0) in
      let as_long : length (parts_of span ids) ≡ length (filter (is_of_span span) ids) = length_parts span ids in
      let core : core_of ids span ≡ length (filter (is_of_span span) ids) = core_is (length (filter (is_of_span span) ids)) (omega (arith, some, as_long)) in
      record {
        distinct = distinct_from_counts (filter (is_of_span span) ids ++ filter (is_of_span span) tombs) (λ a.
            let sum : count (λ x. same_id x a) (filter (is_of_span span) ids ++ filter (is_of_span span) tombs) ≡ count (λ x. same_id x a) (filter (is_of_span span) ids) + count (λ x. same_id x a) (filter (is_of_span span) tombs) = count-append (λ x. same_id x a) (filter (is_of_span span) ids) (filter (is_of_span span) tombs) in
            let own = parts_once span ids (length (parts_of span ids)) is a in
            let others = counted_none tombs none a in
            omega (arith, sum, own, others));
        low = λ a i. elim (In-append a (filter (is_of_span span) ids) (filter (is_of_span span) tombs) i) [
          | inl j ↦ (let under = parts_low span ids (length (parts_of span ids)) is a j in omega (arith, under, as_long, core))
          | inr j ↦ absurd (none_of tombs none a j)
        ];
      }

  -- one tombstone
  new_tomb : is_empty (parts_of span ids) ≡ true → same_numbers (parts_of span tombs) (0 ∷ []) ≡ true → AreNewIds ids tombs span
  new_tomb none one =
      let is : parts_of span tombs ≡ range_with_len 0 1 = same_numbers_means (parts_of span tombs) (0 ∷ []) one in
      let core : core_of ids span ≡ 1 = ap core_by (sym (length_parts span ids) ∙ none_length (parts_of span ids) none) in
      record {
        distinct = distinct_from_counts (filter (is_of_span span) ids ++ filter (is_of_span span) tombs) (λ a.
            let sum : count (λ x. same_id x a) (filter (is_of_span span) ids ++ filter (is_of_span span) tombs) ≡ count (λ x. same_id x a) (filter (is_of_span span) ids) + count (λ x. same_id x a) (filter (is_of_span span) tombs) = count-append (λ x. same_id x a) (filter (is_of_span span) ids) (filter (is_of_span span) tombs) in
            let own = parts_once span tombs 1 is a in
            let others = counted_none ids none a in
            omega (arith, sum, own, others));
        low = λ a i. elim (In-append a (filter (is_of_span span) ids) (filter (is_of_span span) tombs) i) [
          | inl j ↦ absurd (none_of ids none a j)
          | inr j ↦ (let under = parts_low span tombs 1 is a j in omega (arith, under, core))
        ];
      }

  pub new_ids : is_filled ids tombs span ≡ true → AreNewIds ids tombs span
  new_ids h = elim (or_cases (is_whole_set (parts_of span ids) && is_empty (parts_of span tombs)) (is_empty (parts_of span ids) && same_numbers (parts_of span tombs) (0 ∷ [])) h) [
    | inl on ↦ (let both = and_parts (is_whole_set (parts_of span ids)) (is_empty (parts_of span tombs)) on in new_whole both.0 both.1)
    | inr on ↦ (let both = and_parts (is_empty (parts_of span ids)) (same_numbers (parts_of span tombs) (0 ∷ [])) on in new_tomb both.0 both.1)
  ]

-- ---- spans that don't overlap

overlaps_later : (before : List Extent) (s : Extent) (ss : List Extent) → first_overlap_after before (s ∷ ss) ≡ None → (overlaps_one before s ≡ false) × (first_overlap_after (s ∷ before) ss ≡ None)
overlaps_later before s ss h = go (overlaps_one before s) refl h where
  go : (b : Bool) → overlaps_one before s ≡ b → cond b (Some s) (first_overlap_after (s ∷ before) ss) ≡ None → (overlaps_one before s ≡ false) × (first_overlap_after (s ∷ before) ss ≡ None)
  go true e f = cc
  go false e f = (e, f)

-- none of before overlaps a later one
before_off : (before ss : List Extent) → first_overlap_after before ss ≡ None → (a s : Extent) → In a before → In s ss → overlap a s ≡ false
before_off before [] h a s i j = absurd j
before_off before (x ∷ ss) h a s i (inl e) = subst (λ (s : Extent). overlap a s ≡ false) (sym e) (none_In (λ (z : Extent). overlap z x) a before i (overlaps_later before x ss h).0)
before_off before (x ∷ ss) h a s i (inr j) = before_off (x ∷ before) ss (overlaps_later before x ss h).1 a s (inr i) j

spans_off : (before ss : List Extent) → first_overlap_after before ss ≡ None → Pairs (λ a s. overlap a s ≡ false) ss
spans_off before [] h = tt
spans_off before (x ∷ ss) h =
    let w = overlaps_later before x ss h in
    (all_off ss (λ s i. before_off (x ∷ before) ss w.1 x s (inl refl) i), spans_off (x ∷ before) ss w.1) where
      all_off : (ss : List Extent) → ((s : Extent) → In s ss → overlap x s ≡ false) → AllByRecursion (λ s. overlap x s ≡ false) ss
      all_off [] f = tt
      all_off (s ∷ ss) f = (f s (inl refl), all_off ss (λ z i. f z (inr i)))

-- ---- the locks of the spans

pub record IsHeldTarget (qs : List PosseRow) (t : TaskRow) (kind : LockKind) (x : Target) : Type 0 where
  pub lock : PosseRow
  pub among : In lock qs
  pub valid : lock.revoked ≡ false
  pub kind_is : lock.lock_kind ≡ kind
  pub source_is : lock.source ≡ t.source
  pub within : covers lock.span x.span ≡ true
  pub number_is : lock.number ≡ x.lock
  pub version_is : x.version ≡ lock.version
  pub since_is : lock.since ≡ x.since

module _ (qs : List PosseRow) (t : TaskRow) (kind : LockKind) where
  held_is : (s : Extent) (q : PosseRow) → In q qs → is_held t.task t.source s kind q ≡ true → IsHeldTarget qs t kind (target_of s q)
  held_is s q i on =
      let one = and_parts (not q.revoked && bytes_eq q.source t.source && same_kind q.lock_kind kind && covers q.span s) (is_member t.task q) on in
      let two = and_parts (not q.revoked && bytes_eq q.source t.source && same_kind q.lock_kind kind) (covers q.span s) one.0 in
      let three = and_parts (not q.revoked && bytes_eq q.source t.source) (same_kind q.lock_kind kind) two.0 in
      let four = and_parts (not q.revoked) (bytes_eq q.source t.source) three.0 in
      record {
        lock = q;
        among = i;
        valid = off_is q.revoked four.0;
        kind_is = same_kind_means q.lock_kind kind three.1;
        source_is = (bytes_eq-Decides q.source t.source).0 four.1;
        within = two.1;
        number_is = refl;
        version_is = refl;
        since_is = refl;
      }

  -- the targets have the spans, and each its lock
  record AreTargets (spans : List Extent) (xs : List Target) : Type 0 where
    pub spans_are : map (λ (x : Target). x.span) xs ≡ spans
    pub held : (x : Target) → In x xs → IsHeldTarget qs t kind x

  one_more : (s : Extent) (q : PosseRow) (ss : List Extent) (xs : List Target) → In q qs → is_held t.task t.source s kind q ≡ true → AreTargets ss xs → AreTargets (s ∷ ss) (target_of s q ∷ xs)
  one_more s q ss xs i on rest = record {
    spans_are = ap (λ (spans : List Extent). s ∷ spans) rest.spans_are;
    held = λ x j. elim j as (λ j. IsHeldTarget qs t kind x) [
      | inl is ↦ subst (λ (x : Target). IsHeldTarget qs t kind x) (sym is) (held_is s q i on)
      | inr k ↦ rest.held x k
    ];
  }

  are_targets : (spans : List Extent) (xs : List Target) → targets qs t kind spans ≡ Ok xs → AreTargets spans xs
  are_targets spans xs found = targets_have qs t kind AreTargets (record { spans_are = refl; held = λ x i. absurd i }) one_more spans xs found

-- ---- what the checks say in common

-- the spans don't overlap, each id is of one and of its lock's version, each is filled, and no chunk of that version is there
pub record IsChecked (cs : List ChunkRow) (qs : List PosseRow) (t : TaskRow) (kind : LockKind) (given : Publish) (xs : List Target) : Type 0 where
  pub apart : first_overlap given.spans ≡ None
  pub placed : (a : SegId) → In a (given.ids ++ given.tombstones) → is_placed t.source given.spans a ≡ true
  pub filled : (s : Extent) → In s given.spans → is_filled given.ids given.tombstones s ≡ true
  pub locked : targets qs t kind given.spans ≡ Ok xs
  pub versions : (a : SegId) → In a (given.ids ++ given.tombstones) → has_own_version xs a ≡ true
  pub unused : (x : Target) → In x xs → version_overlaps cs t.source x.span x.version ≡ false

no_bad_span : (o r : Option Extent) (p : Option SegId) → or_else o (or_else (option_map (λ (a : SegId). a.span) p) r) ≡ None → (o ≡ None) × (p ≡ None) × (r ≡ None)
no_bad_span None r None h = (refl, refl, h)
no_bad_span None r (Some a) h = cc
no_bad_span (Some o) r p h = cc

no_version_fault : (p : Option SegId) (x : Option Target) → or_else (option_map Refusals.WrongVersion p) (option_map (λ (x : Target). Refusals.VersionUsed x.span) x) ≡ None → (p ≡ None) × (x ≡ None)
no_version_fault None None h = (refl, refl)
no_version_fault None (Some x) h = cc
no_version_fault (Some a) x h = cc

pub checked : (f : Filling) (b : Book) (given : Publish) (t : TaskRow) (xs : List Target) → IsLetThrough f b given t xs → IsChecked b.chunks b.posses t (lock_for f) given xs
checked f b given t xs through =
    let s = no_bad_span (first_overlap given.spans) (find (λ s. not (is_filled given.ids given.tombstones s)) given.spans) (find (λ a. not (is_placed t.source given.spans a)) (both_in_order given.ids given.tombstones)) through.filled in
    let v = no_version_fault (find (λ a. not (has_own_version xs a)) (both_in_order given.ids given.tombstones)) (find (λ (x : Target). version_overlaps b.chunks t.source x.span x.version) xs) through.versions in
    record {
      apart = s.0;
      placed = λ a i. not-false (is_placed t.source given.spans a) (find_none (λ a. not (is_placed t.source given.spans a)) (both_in_order given.ids given.tombstones) s.1 a (in_order_In a (given.ids ++ given.tombstones) i));
      filled = λ x i. not-false (is_filled given.ids given.tombstones x) (find_none (λ x. not (is_filled given.ids given.tombstones x)) given.spans s.2 x i);
      locked = through.held;
      versions = λ a i. not-false (has_own_version xs a) (find_none (λ a. not (has_own_version xs a)) (both_in_order given.ids given.tombstones) v.0 a (in_order_In a (given.ids ++ given.tombstones) i));
      unused = λ x i. find_none (λ (x : Target). version_overlaps b.chunks t.source x.span x.version) xs v.1 x i;
    }

module _ (b : Book) (t : TaskRow) (kind : LockKind) (given : Publish) (xs : List Target) (proper : list_all is_span given.spans ≡ true) (c : IsChecked b.chunks b.posses t kind given xs) where
  pub are_disjoint : AreDisjoint xs
  are_disjoint = pairs_unmapped (λ a s. overlap a s ≡ false) (λ (x : Target). x.span) xs (subst (λ ss. Pairs (λ a s. overlap a s ≡ false) ss) (sym (are_targets b.posses t kind given.spans xs c.locked).spans_are) (spans_off [] given.spans c.apart))

  pub are_placed : ArePlaced xs given.ids
  are_placed a i = subst (λ ss. is_span_of ss a.span ≡ true) (sym (are_targets b.posses t kind given.spans xs c.locked).spans_are) (and_parts (bytes_eq a.source t.source) (is_span_of given.spans a.span) (c.placed a (In-left a given.ids given.tombstones i))).1

  pub tombs_placed : ArePlaced xs given.tombstones
  tombs_placed a i = subst (λ ss. is_span_of ss a.span ≡ true) (sym (are_targets b.posses t kind given.spans xs c.locked).spans_are) (and_parts (bytes_eq a.source t.source) (is_span_of given.spans a.span) (c.placed a (In-right a given.ids given.tombstones i))).1

  pub span_in : (x : Target) → In x xs → In x.span given.spans
  span_in x i = subst (λ ss. In x.span ss) (are_targets b.posses t kind given.spans xs c.locked).spans_are (map_In (λ (x : Target). x.span) x xs i)

  pub held_at : (x : Target) → In x xs → IsHeldTarget b.posses t kind x
  held_at x i = (are_targets b.posses t kind given.spans xs c.locked).held x i

  proper_at : (x : Target) → In x xs → int_lt x.span.start x.span.end ≡ true
  proper_at x i = span_of_limits x.span (list_all_In is_span x.span given.spans (span_in x i) proper)

  -- an id of the span is in the chunk of its lock's version
  own : (x : Target) → In x xs → (a : SegId) → In a (given.ids ++ given.tombstones) → is_of_span x.span a ≡ true → IsIn (chunk_for t.source given.ids 0 x) a
  own x i a j on =
      let w = any_In (λ (y : Target). same_extent y.span a.span && int_eq y.version a.version) xs (c.versions a j) in
      let both = and_parts (same_extent w.0.span a.span) (int_eq w.0.version a.version) w.2 in
      let span : a.span ≡ x.span = same_extent_means a.span x.span on in
      let same : w.0.span ≡ x.span = same_extent_means w.0.span a.span both.0 ∙ span in
      let one : w.0 ≡ x = elim (pair_of (λ (x y : Target). overlap x.span y.span ≡ false) w.0 x xs are_disjoint w.1 i) [
        | inl e ↦ e
        | inr (inl off) ↦ absurd (false≢true (sym off ∙ subst (λ (s : Extent). overlap s x.span ≡ true) (sym same) (overlap_self x.span (proper_at x i))))
        | inr (inr off) ↦ absurd (false≢true (sym off ∙ subst (λ (s : Extent). overlap x.span s ≡ true) (sym same) (overlap_self x.span (proper_at x i))))
      ] in
      record { source_is = (bytes_eq-Decides a.source t.source).0 (and_parts (bytes_eq a.source t.source) (is_span_of given.spans a.span) (c.placed a j)).0; span_is = span; version_is = sym ((Decides-int_eq w.0.version a.version).0 both.1) ∙ ap (λ (x : Target). x.version) one }

  ids_at : (x : Target) → In x xs → (a : SegId) → In a (filter (is_of_span x.span) given.ids) → IsIn (chunk_for t.source given.ids 0 x) a
  ids_at x i a j = let w = In-filter (is_of_span x.span) a given.ids j in own x i a (In-left a given.ids given.tombstones w.0) w.1

  tombs_at : (x : Target) → In x xs → (a : SegId) → In a (filter (is_of_span x.span) given.tombstones) → IsIn (chunk_for t.source given.ids 0 x) a
  tombs_at x i a j = let w = In-filter (is_of_span x.span) a given.tombstones j in own x i a (In-right a given.ids given.tombstones w.0) w.1

  pub filled_at : (x : Target) → In x xs → IsFilledSpan b t kind given.ids given.tombstones x
  filled_at x i =
      let h = held_at x i in
      record {
        lock = h.lock;
        is_valid = record { among = h.among; valid = h.valid };
        kind_is = h.kind_is;
        source_is = h.source_is;
        version_is = h.version_is;
        within = h.within;
        proper = proper_at x i;
        free = λ k. false≢true (sym (c.unused x i) ∙ any_from_In (λ e. bytes_eq e.source t.source && int_eq e.version x.version && overlap e.span x.span) k.chunk b.chunks k.among
            (and_from (bytes_eq k.chunk.source t.source && int_eq k.chunk.version x.version) (overlap k.chunk.span x.span) (and_from (bytes_eq k.chunk.source t.source) (int_eq k.chunk.version x.version) ((bytes_eq-Decides k.chunk.source t.source).1 (k.source_is ∙ h.source_is)) ((Decides-int_eq k.chunk.version x.version).1 (k.version_is ∙ sym h.version_is))) k.meets));
        ids_of = ids_at x i;
        tombs_of = tombs_at x i;
        distinct = (new_ids given.ids given.tombstones x.span (c.filled x.span (span_in x i))).distinct;
        parts = (new_ids given.ids given.tombstones x.span (c.filled x.span (span_in x i))).low;
        whole = whole_of (length b.publications) t.source given.ids given.tombstones x (ids_at x i) (tombs_at x i) (c.filled x.span (span_in x i));
      }

  -- its lock is the target's
  pub filled_number : (x : Target) (i : In x xs) → (filled_at x i).lock.number ≡ x.lock
  unfolding filled_at
  filled_number x i = (held_at x i).number_is

  pub filled_since : (x : Target) (i : In x xs) → (filled_at x i).lock.since ≡ x.since
  unfolding filled_at
  filled_since x i = (held_at x i).since_is
