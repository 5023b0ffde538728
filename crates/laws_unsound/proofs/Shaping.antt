-- The shape, clause by clause.
use Rattle.std.proofs.Common.{Bool, List, None, Option, Some, [], arith, false, filter, find, inl, inr, int_le, length, map, not, refl, subst, suc, sym, true, zero, ℕ, ◌++◌, ◌<◌, ◌∙◌, ◌∷◌, ◌≡◌, ◌≤◌}
use Rattle.std.proofs.lemmas.Bool.{cases_Bool, false≢true, not_from_false, or_cases, or_left, or_right}
use Rattle.std.specs.List.{AllByRecursion, list_all, list_any}
use Rattle.std.specs.Prelude.{bytes_eq, nat_le, nat_lt}
use Rattle.iv_time.specs.Range.{is_instant}
use Rattle.seg_names.specs.Ids.{same_id}
use Rattle.seg_names.specs.declared.seg_id.SegId.{SegId}
use Rattle.book_rows.specs.Allocation.{is_of_chunk, is_root}
use Rattle.book_rows.specs.Ids.{is_less, is_listed}
use Rattle.book_rows.specs.Lists.{In, Pairs, at_place, gathered, is_empty}
use Rattle.book_rows.specs.Live.{IsIn}
use Rattle.book_rows.specs.Locks.{same_number}
use Rattle.book_rows.specs.Offsets.{key_cmp}
use Rattle.book_rows.specs.Outcome.{all_tables, is_full, no_room, number_limit, part_limit}
use Rattle.book_rows.specs.Shape.{AreDistinct, HasAddedRoot, HasChunk, HasKeys, HasMembers, HasVersions, HaveChunks, HaveCommits, IsLimited, IsMemberTask, IsTombstone, fits_kind, fits_state, fits_version, is_chunk_row, is_offset_row, is_pending_row, is_posse_row, is_publication_row, is_segment_row, is_sequence_row, is_supervisor_row, is_task_row, is_upgrade_row, pending_ids, same_chunk_row, same_request, same_sequence, same_supervisor, same_task, same_upgrade, same_version, segment_ids}
use Rattle.book_rows.specs.declared.kinds.Table.{Table}
use Rattle.book_rows.specs.declared.kinds.Table.TheVariants as Tables
use Rattle.book_rows.specs.declared.rows.Book.{Book}
use Rattle.book_rows.specs.declared.rows.ChunkRow.{ChunkRow}
use Rattle.book_rows.specs.declared.rows.PendingRow.{PendingRow}
use Rattle.book_rows.specs.declared.rows.PosseRow.{PosseRow}
use Rattle.book_rows.specs.declared.rows.Publication.{Publication}
use Rattle.book_rows.specs.declared.rows.SegmentRow.{SegmentRow}
use Rattle.book_rows.specs.declared.rows.TaskRow.{TaskRow}
use Rattle.laws_chunks.proofs.LookUps.{find_none}
use Rattle.laws_chunks.proofs.Members.{In-all, In-filter, In-map, all_from_In, all_pass, filter_In, list_all_In, map_In, none_In, none_from_In}
use Rattle.laws_chunks.proofs.PublicationOrder.{gathered_In}
use Rattle.laws_shown.proofs.Alike.{In-gathered}
use Rattle.laws_unsound.specs.Breaks.{AskAlike, BreaksChunks, BreaksCommits, BreaksKeys, BreaksLimits, BreaksNumbers, BreaksVersions, HasItsRoot, LacksChunk}
use Rattle.laws_unsound.specs.Counts.{before_chunks, before_offsets, before_pendings, before_posses, before_publications, before_segments, before_sequences, before_supervisors, before_tasks, before_upgrades}
use Rattle.laws_unsound.specs.Laws.{HasNumbers, IsRowOfRule}
use Rattle.laws_unsound.specs.Named.{IsRowOf, IsRowOfPair, IsRuleRow}
use Rattle.laws_unsound.specs.Rows.{first_clashing, first_failing, least}
use Rattle.laws_unsound.specs.ShapeRows.{are_reversed, are_unordered, ask_alike, commit_rows, has_chunk, has_known_since, has_last, has_members, has_root, id_rows, is_added_by, is_member_task, is_parts, is_tombstone, key_rows, limit_rows, lists_empty, number_rows, single_tables, version_rows}
use Rattle.laws_unsound.specs.Unsound.{Shape}
use Rattle.laws_unsound.proofs.Deciding.{IsTestOf, all_of, at_most, below, both, by_test, each_of, like, listed, none_clash, off, on, one_id, one_instant, one_name, one_number, one_of, one_span, refused, refutes, running, sure}
use Rattle.laws_unsound.proofs.Least.{book_off, book_without, breaking_so, by_meaning, first_alike, first_of_two, first_off, first_where_not, first_without, last, more, pair_rows_so, pairs_so, rows_so, together}
use Rattle.laws_unsound.proofs.Once.{once_row}
use Rattle.laws_unsound.proofs.Requests.{pairs_passing, passing_pairs}

-- ---- limits

pub find_nothing : {X : Type 0} (p : X → Bool) (xs : List X) → ((x : X) → In x xs → p x ≡ false) → find p xs ≡ None
find_nothing p [] h = refl
find_nothing p (x ∷ xs) h = rw (h x (inl refl)) (find_nothing p xs (λ y i. h y (inr i)))

parts_are : (t : Table) → is_parts t ≡ true → t ≡ Tables.Parts
parts_are Tables.Parts h = refl
parts_are _ h = absurd (false≢true h)

In-Parts : In Tables.Parts all_tables
In-Parts = inr (inr (inr (inr (inl refl))))

module _ (b : Book) where
  abbrev IsOneFull : Type 0
  IsOneFull = (table : Table) × In table single_tables × (is_full table b ≡ true)

  abbrev AreWithinParts : Type 0
  AreWithinParts = (c : ChunkRow) → In c b.chunks → part_limit < c.next → ⊥

  full : IsTestOf (list_any (λ table. is_full table b) single_tables) IsOneFull
  full = one_of (λ table. on (is_full table b)) single_tables

  has_space : (IsOneFull → ⊥) → AreWithinParts → no_room all_tables b ≡ None
  has_space none parts = find_nothing (λ table. is_full table b) all_tables each where
    each : (t : Table) → In t all_tables → is_full t b ≡ false
    each t i = elim (cases_Bool (is_parts t)) [
      | inl is ↦ subst (λ (x : Table). is_full x b ≡ false) (sym (parts_are t is)) (none_from_In (λ c. nat_lt part_limit c.next) b.chunks (λ c j. refused (below part_limit c.next) (parts c j)))
      | inr other ↦ refused (on (is_full t b)) (λ e. none (t, filter_In (λ table. not (is_parts table)) t all_tables i (not_from_false (is_parts t) other), e))
    ]

  none_full : no_room all_tables b ≡ None → IsOneFull → ⊥
  none_full e w = false≢true (sym (find_none (λ table. is_full table b) all_tables e w.0 (In-filter (λ table. not (is_parts table)) w.0 all_tables w.1).0) ∙ w.2)

  within_parts : no_room all_tables b ≡ None → AreWithinParts
  within_parts e c i = refutes (below part_limit c.next) (none_In (λ c. nat_lt part_limit c.next) c b.chunks i (find_none (λ table. is_full table b) all_tables e Tables.Parts In-Parts))

  limits : IsRuleRow (least (limit_rows b)) (IsLimited b) (BreaksLimits b)
  limits = together
      (λ w. record {
        room = has_space w.0 w.1.0;
        clock = w.1.1.0;
        last = w.1.1.1.0;
        tasks = w.1.1.1.1.0;
        posses = w.1.1.1.1.1.0;
        chunks = w.1.1.1.1.1.1.0;
        segments = w.1.1.1.1.1.1.1.0;
        pendings = w.1.1.1.1.1.1.1.1.0;
        upgrades = w.1.1.1.1.1.1.1.1.1.0;
        publications = w.1.1.1.1.1.1.1.1.1.1.0;
        offsets = w.1.1.1.1.1.1.1.1.1.1.1.0;
        supervisors = w.1.1.1.1.1.1.1.1.1.1.1.1.0;
        sequences = w.1.1.1.1.1.1.1.1.1.1.1.1.1.0;
        kinds = w.1.1.1.1.1.1.1.1.1.1.1.1.1.1.0;
        states = w.1.1.1.1.1.1.1.1.1.1.1.1.1.1.1;
      })
      (λ h. (none_full h.room, (within_parts h.room, (h.clock, (h.last, (h.tasks, (h.posses, (h.chunks, (h.segments, (h.pendings, (h.upgrades, (h.publications, (h.offsets, (h.supervisors, (h.sequences, (h.kinds, h.states))))))))))))))))
      (more (book_without full)
      (more (first_where_not (λ (c : ChunkRow). below part_limit c.next) (before_chunks b) b.chunks)
      (more (book_off (is_instant b.clock))
      (more (book_off (has_last b))
      (more (first_off is_task_row before_tasks b.tasks)
      (more (first_off is_posse_row (before_posses b) b.posses)
      (more (first_off is_chunk_row (before_chunks b) b.chunks)
      (more (first_off is_segment_row (before_segments b) b.segments)
      (more (first_off is_pending_row (before_pendings b) b.pendings)
      (more (first_off is_upgrade_row (before_upgrades b) b.upgrades)
      (more (first_off is_publication_row (before_publications b) b.publications)
      (more (first_off is_offset_row (before_offsets b) b.offsets)
      (more (first_off is_supervisor_row (before_supervisors b) b.supervisors)
      (more (first_off is_sequence_row (before_sequences b) b.sequences)
      (more (first_off (λ m. fits_kind m.kind m) (before_publications b) b.publications)
      (last (first_off (λ u. fits_state u.state u) (before_sequences b) b.sequences)))))))))))))))))

-- ---- numbers that have to be below a bound, each element by itself

not_below : (n m : ℕ) → (n < m → ⊥) → m ≤ n
not_below n m f = omega (arith, f)

below_not : (n m : ℕ) → m ≤ n → n < m → ⊥
below_not n m l k = omega (arith, l, k)

not_at_most : (n m : ℕ) → (n ≤ m → ⊥) → m < n
not_at_most n m f = omega (arith, f)

at_most_not : (n m : ℕ) → m < n → n ≤ m → ⊥
at_most_not n m l k = omega (arith, l, k)

module _ {X : Type 0} (number : X → ℕ) (bound k : ℕ) (xs : List X) where
  pub first_not_below : IsRuleRow (first_failing k (λ x. nat_lt (number x) bound) xs) (AllByRecursion (λ x. number x < bound) xs) (IsRowOf k (λ x. bound ≤ number x) xs)
  first_not_below = by_meaning (all_from_In (λ x. number x < bound) xs) (λ a x i. In-all (λ x. number x < bound) x xs i a)
      (breaking_so (rows_so (λ x f. not_below (number x) bound f)) (rows_so (λ x l. below_not (number x) bound l)) (first_without (λ x. below (number x) bound) k xs))

  pub first_past : IsRuleRow (first_failing k (λ x. nat_le (number x) bound) xs) ((x : X) → In x xs → number x ≤ bound) (IsRowOf k (λ x. bound < number x) xs)
  first_past = breaking_so (rows_so (λ x f. not_at_most (number x) bound f)) (rows_so (λ x l. at_most_not (number x) bound l)) (first_without (λ x. at_most (number x) bound) k xs)

numbers : (b : Book) → IsRuleRow (least (number_rows b)) (HasNumbers b) (BreaksNumbers b)
numbers b = together (λ w. record { locks = w.0; pendings = w.1.0; upgrades = w.1.1 }) (λ h. (h.locks, (h.pendings, h.upgrades)))
    (more (first_not_below (λ (q : PosseRow). q.number) number_limit (before_posses b) b.posses)
    (more (first_not_below (λ p. p.posse) number_limit (before_pendings b) b.pendings)
    (last (first_not_below (λ u. u.posse) number_limit (before_upgrades b) b.upgrades))))

-- ---- keys

module _ (b : Book) where
  ascending : IsRuleRow (first_clashing (before_posses b) are_reversed b.posses) (Pairs (λ p q. p.number < q.number) b.posses) (IsRowOfPair (before_posses b) (λ p q. q.number ≤ p.number) b.posses)
  ascending = by_meaning (pairs_so (λ p q f. not_at_most q.number p.number f) b.posses) (pairs_so (λ p q l. at_most_not q.number p.number l) b.posses)
      (first_of_two (λ p q. at_most q.number p.number) (before_posses b) b.posses)

  ordered : IsRuleRow (first_clashing (before_offsets b) are_unordered b.offsets) (Pairs (λ r s. is_less (key_cmp r s) ≡ true) b.offsets) (IsRowOfPair (before_offsets b) (λ r s. is_less (key_cmp r s) ≡ false) b.offsets)
  ordered = by_meaning (pairs_so (λ r s f. sure (on (is_less (key_cmp r s))) (λ g. f (refused (on (is_less (key_cmp r s))) g))) b.offsets) (pairs_so (λ r s e f. false≢true (sym f ∙ e)) b.offsets)
      (first_of_two (λ r s. off (is_less (key_cmp r s))) (before_offsets b) b.offsets)

  requests : IsRuleRow (first_clashing (before_pendings b) ask_alike b.pendings) (AreDistinct same_request (filter is_root b.pendings)) (IsRowOfPair (before_pendings b) AskAlike b.pendings)
  requests = by_meaning (passing_pairs is_root same_request b.pendings) (pairs_passing is_root same_request b.pendings)
      (breaking_so (pair_rows_so (λ p q. (asking p q).means)) (pair_rows_so (λ p q. (asking p q).passes)) (first_alike ask_alike (before_pendings b) b.pendings)) where
        asking : (p q : PendingRow) → IsTestOf (ask_alike p q) (AskAlike p q)
        asking p q = like (λ w. (w.0, w.1.0, w.1.1)) (λ h. (h.0, (h.1, h.2))) (both (on (is_root p)) (both (on (is_root q)) (on (same_request p q))))

  keys : IsRuleRow (least (key_rows b)) (HasKeys b) (BreaksKeys b)
  keys = together
      (λ w. record {
        tasks = w.0;
        numbers = w.1.0;
        ascending = w.1.1.0;
        below = w.1.1.1.0;
        chunks = w.1.1.1.1.0;
        ids = w.1.1.1.1.1.0;
        upgrades = w.1.1.1.1.1.1.0;
        offsets = w.1.1.1.1.1.1.1.0;
        supervisors = w.1.1.1.1.1.1.1.1.0;
        sequences = w.1.1.1.1.1.1.1.1.1.0;
        requests = w.1.1.1.1.1.1.1.1.1.1.0;
        once = w.1.1.1.1.1.1.1.1.1.1.1;
      })
      (λ h. (h.tasks, (h.numbers, (h.ascending, (h.below, (h.chunks, (h.ids, (h.upgrades, (h.offsets, (h.supervisors, (h.sequences, (h.requests, h.once))))))))))))
      (more (first_alike same_task before_tasks b.tasks)
      (more (first_alike same_number (before_posses b) b.posses)
      (more ascending
      (more (first_not_below (λ (q : PosseRow). q.number) b.next_lock (before_posses b) b.posses)
      (more (first_alike same_chunk_row (before_chunks b) b.chunks)
      (more (first_alike same_id (before_segments b) (segment_ids b.segments ++ pending_ids b.pendings))
      (more (first_alike same_upgrade (before_upgrades b) b.upgrades)
      (more ordered
      (more (first_alike same_supervisor (before_supervisors b) b.supervisors)
      (more (first_alike same_sequence (before_sequences b) b.sequences)
      (more requests
      (last (once_row b)))))))))))))

-- ---- versions

versions : (b : Book) → IsRuleRow (least (version_rows b)) (HasVersions b.last b.posses b.chunks) (BreaksVersions b)
versions b = together (λ w. record { locks = w.0; chunks = w.1.0; kinds = w.1.1.0; distinct = w.1.1.1 }) (λ h. (h.locks, (h.chunks, (h.kinds, h.distinct))))
    (more (first_off (λ q. int_le q.version b.last) (before_posses b) b.posses)
    (more (first_off (λ c. int_le c.version b.last) (before_chunks b) b.chunks)
    (more (first_off fits_version (before_posses b) b.posses)
    (last (first_alike same_version (before_posses b) b.posses)))))

-- ---- members

module _ (ts : List TaskRow) (q : PosseRow) where
  member : (task : List ℕ) → IsTestOf (list_any (is_member_task q task) ts) (IsMemberTask ts q task)
  member task = like
      (λ w. record { row = w.0; among = w.1; task_is = w.2.0; runs = w.2.1.0; group_is = w.2.1.1.0; source_is = w.2.1.1.1.0; priority_is = w.2.1.1.1.1 })
      (λ m. (m.row, m.among, (m.task_is, (m.runs, (m.group_is, (m.source_is, m.priority_is))))))
      (one_of (λ t. both (one_name t.task task) (both (running t.status) (both (one_name t.group q.group) (both (one_name t.source q.source) (one_number t.priority q.priority))))) ts)

  members : IsTestOf (has_members ts q) (HasMembers ts q)
  members = like (λ w. record { some = w.0; distinct = w.1.0; tasks = w.1.1 }) (λ h. (h.some, (h.distinct, h.tasks)))
      (both (off (is_empty q.members)) (both (none_clash bytes_eq q.members) (each_of member q.members)))

-- ---- chunk rows of ids

pub in_chunk : (c : ChunkRow) (a : SegId) → IsTestOf (is_of_chunk c a) (IsIn c a)
in_chunk c a = like (λ w. record { source_is = w.0.0; span_is = w.0.1; version_is = w.1 }) (λ h. ((h.source_is, h.span_is), h.version_is))
    (both (both (one_name a.source c.source) (one_span a.span c.span)) (one_instant a.version c.version))

pub in_row : (cs : List ChunkRow) (a : SegId) → IsTestOf (has_chunk cs a) (HasChunk cs a)
in_row cs a = like (λ w. record { chunk = w.0; among = w.1; is_in = w.2.0; below = w.2.1 }) (λ h. (h.chunk, h.among, (h.is_in, h.below)))
    (one_of (λ c. both (in_chunk c a) (below a.part c.next)) cs)

of_ids : {X : Type 0} (f : X → SegId) (P : SegId → Type 0) (xs : List X) → ((x : X) → In x xs → P (f x)) → (a : SegId) → In a (map f xs) → P a
of_ids f P xs h a i = let w = In-map f a xs i in subst P (sym w.2) (h w.0 w.1)

of_lists : (ids : Publication → List SegId) (P : SegId → Type 0) (ms : List Publication) → ((m : Publication) → In m ms → (a : SegId) → In a (ids m) → P a) → (a : SegId) → In a (gathered ids ms) → P a
of_lists ids P ms h a i = let w = gathered_In ids ms a i in h w.0 w.1 a w.2

module _ (b : Book) where
  lists_in_rows : (ids : Publication → List SegId) → IsRuleRow (first_failing (before_publications b) (λ m. list_all (has_chunk b.chunks) (ids m)) b.publications) ((a : SegId) → In a (gathered ids b.publications) → HasChunk b.chunks a) (IsRowOf (before_publications b) (λ m. LacksChunk b.chunks (ids m)) b.publications)
  lists_in_rows ids = by_meaning (of_lists ids (HasChunk b.chunks) b.publications) (λ h m i a j. h a (In-gathered ids b.publications m a i j))
      (first_without (λ m. each_of (in_row b.chunks) (ids m)) (before_publications b) b.publications)

  chunks : IsRuleRow (least (id_rows b)) (HaveChunks b) (BreaksChunks b)
  chunks = together
      (λ w. record {
        segments = of_ids (λ (r : SegmentRow). r.id) (HasChunk b.chunks) b.segments w.0;
        pendings = of_ids (λ (p : PendingRow). p.id) (HasChunk b.chunks) b.pendings w.1.0;
        adds = w.1.1.0;
        empties = w.1.1.1;
      })
      (λ h. (
        λ r i. h.segments r.id (map_In (λ (r : SegmentRow). r.id) r b.segments i),
        (λ p i. h.pendings p.id (map_In (λ (p : PendingRow). p.id) p b.pendings i), (h.adds, h.empties)),
      ))
      (more (first_without (λ (r : SegmentRow). in_row b.chunks r.id) (before_segments b) b.segments)
      (more (first_without (λ (p : PendingRow). in_row b.chunks p.id) (before_pendings b) b.pendings)
      (more (lists_in_rows (λ m. m.adds))
      (last (lists_in_rows (λ m. m.empties))))))

  -- ---- commits

  commits : IsRuleRow (least (commit_rows b)) (HaveCommits b.posses b.segments b.publications) (BreaksCommits b)
  commits = together
      (λ w. record {
        commits = all_pass (λ r. nat_lt r.commit (length b.publications)) b.segments (λ r i. (below r.commit (length b.publications)).passes (In-all (λ r. r.commit < length b.publications) r b.segments i w.0));
        locks = all_pass (λ q. nat_le q.since (length b.publications)) b.posses (λ q i. (at_most q.since (length b.publications)).passes (w.1.0 q i));
        spans = all_pass (has_known_since b) b.publications (λ m i. (known m).passes (w.1.1 m i));
      })
      (λ h. (
        all_from_In (λ r. r.commit < length b.publications) b.segments (λ r i. (below r.commit (length b.publications)).means (list_all_In (λ r. nat_lt r.commit (length b.publications)) r b.segments i h.commits)),
        (
          λ q i. (at_most q.since (length b.publications)).means (list_all_In (λ q. nat_le q.since (length b.publications)) q b.posses i h.locks),
          λ m i. (known m).means (list_all_In (has_known_since b) m b.publications i h.spans),
        ),
      ))
      (more (first_not_below (λ (r : SegmentRow). r.commit) (length b.publications) (before_segments b) b.segments)
      (more (first_past (λ (q : PosseRow). q.since) (length b.publications) (before_posses b) b.posses)
      (last (first_without known (before_publications b) b.publications)))) where
        known : (m : Publication) → IsTestOf (has_known_since b m) (AllByRecursion (λ s. s.since ≤ length b.publications) m.spans)
        known m = all_of (λ s. at_most s.since (length b.publications)) m.spans

-- ---- roots

record IsListedEmpty (a : SegId) (at : Option Publication) : Type 0 where
  publication : Publication
  at_is : at ≡ Some publication
  listed : In a publication.empties

emptied : (a : SegId) (at : Option Publication) → IsTestOf (lists_empty a at) (IsListedEmpty a at)
emptied a None = record { means = λ h. absurd (false≢true h); passes = λ w. absurd (let e : None ≡ Some w.publication = w.at_is in cc) }
emptied a (Some m) = like (λ i. record { publication = m; at_is = refl; listed = i })
    (λ w. subst (λ (n : Publication). In a n.empties) (let e : Some m ≡ Some w.publication = w.at_is in (let f : m ≡ w.publication = cc in sym f)) w.listed) (listed m.empties a)

-- a publication up to the place adds the id
record IsAddedUpTo (n : ℕ) (pubs : List Publication) (a : SegId) : Type 0 where
  place : ℕ
  publication : Publication
  at : at_place place pubs ≡ Some publication
  listed : In a publication.adds
  not_after : place ≤ n

added_means : (n : ℕ) (pubs : List Publication) (a : SegId) → is_added_by n pubs a ≡ true → IsAddedUpTo n pubs a
added_means n [] a h = absurd (false≢true h)
added_means zero (m ∷ ms) a h = record { place = 0; publication = m; at = refl; listed = (listed m.adds a).means h; not_after = omega arith }
added_means (suc n) (m ∷ ms) a h = elim (or_cases (is_listed m.adds a) (is_added_by n ms a) h) [
  | inl here ↦ record { place = 0; publication = m; at = refl; listed = (listed m.adds a).means here; not_after = omega arith }
  | inr there ↦ later (added_means n ms a there)
] where
  later : IsAddedUpTo n ms a → IsAddedUpTo (suc n) (m ∷ ms) a
  later w = record { place = suc w.place; publication = w.publication; at = w.at; listed = w.listed; not_after = let e : w.place ≤ n = w.not_after in omega arith }

added_from : (n place : ℕ) (pubs : List Publication) (m : Publication) (a : SegId) → at_place place pubs ≡ Some m → In a m.adds → place ≤ n → is_added_by n pubs a ≡ true
added_from n place [] m a e i l = absurd (cc)
added_from zero zero (p ∷ ps) m a e i l = (listed p.adds a).passes (let same : p ≡ m = cc in subst (λ (x : Publication). In a x.adds) (sym same) i)
added_from (suc n) zero (p ∷ ps) m a e i l = or_left (is_listed p.adds a) (is_added_by n ps a) ((listed p.adds a).passes (let same : p ≡ m = cc in subst (λ (x : Publication). In a x.adds) (sym same) i))
added_from zero (suc k) (p ∷ ps) m a e i l = absurd (omega arith)
added_from (suc n) (suc k) (p ∷ ps) m a e i l = or_right (is_listed p.adds a) (is_added_by n ps a) (added_from n k ps m a e i (omega arith))

module _ (cs : List ChunkRow) (pubs : List Publication) (r : SegmentRow) where
  tombstone : IsTestOf (is_tombstone cs pubs r) (IsTombstone cs pubs r)
  tombstone = like
      (λ w. record { own = w.0; part_is = w.1.0; chunk = w.1.1.0.0; among = w.1.1.0.1; is_in = w.1.1.0.2.0; core_is = w.1.1.0.2.1; publication = w.1.1.1.publication; at = w.1.1.1.at_is; listed = w.1.1.1.listed })
      (λ h. (h.own, (h.part_is, ((h.chunk, h.among, (h.is_in, h.core_is)), record { publication = h.publication; at_is = h.at; listed = h.listed }))))
      (both (one_id r.root r.id) (both (one_number r.id.part 0) (both (one_of (λ c. both (in_chunk c r.id) (one_number c.core 1)) cs) (emptied r.id (at_place r.commit pubs)))))

  added : IsTestOf (is_added_by r.commit pubs r.root) (HasAddedRoot pubs r)
  added = record {
    means = λ h. (let w = added_means r.commit pubs r.root h in record { place = w.place; publication = w.publication; at = w.at; listed = w.listed; not_after = w.not_after });
    passes = λ w. added_from r.commit w.place pubs w.publication r.root w.at w.listed w.not_after;
  }

  root : IsTestOf (has_root cs pubs r) (HasItsRoot cs pubs r)
  root = like (λ w. record { tombstone = w.0; other = w.1 }) (λ h. (h.tombstone, h.other)) (by_test r.tombstone (is_tombstone cs pubs r) (is_added_by r.commit pubs r.root) tombstone added)

-- ---- the whole

pub shape_row : IsRowOfRule Shape
shape_row b = together
    (λ w. (
      record {
        limits = w.0;
        keys = w.1.1.0;
        versions = w.1.1.1.0;
        members = w.1.1.1.1.0;
        chunks = w.1.1.1.1.1.0;
        commits = w.1.1.1.1.1.1.0;
        roots = record { tombstones = λ r i. (w.1.1.1.1.1.1.1 r i).tombstone; others = λ r i. (w.1.1.1.1.1.1.1 r i).other };
      },
      w.1.0,
    ))
    (λ h. (
      h.0.limits,
      (h.1, (h.0.keys, (h.0.versions, (h.0.members, (h.0.chunks, (h.0.commits, λ r i. record { tombstone = h.0.roots.tombstones r i; other = h.0.roots.others r i })))))),
    ))
    (more (limits b)
    (more (numbers b)
    (more (keys b)
    (more (versions b)
    (more (first_without (members b.tasks) (before_posses b) b.posses)
    (more (chunks b)
    (more (commits b)
    (last (first_without (root b.chunks b.publications) (before_segments b) b.segments)))))))))
