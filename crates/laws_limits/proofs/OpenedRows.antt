-- A sequence that is opened is within its limits.
use Rattle.std.proofs.Common.{◌≡◌, ℕ, ℤ, suc, zero, ◌+◌, ◌%◌, ◌<◌, ◌≤◌, ◌^◌, Bool, true, false, cond, ◌==◌, ◌&&◌, List, [], ◌∷◌, map, filter, find, Some, None, Option, refl, arith, length, nat_le, nat_lt}
use Rattle.std.specs.List.{AllByRecursion, list_all, range_with_len}
use Rattle.std.proofs.lemmas.Bool.{and_from, and_parts}
use Rattle.std.proofs.lemmas.Bool.Decides.{nat_tests}
use Rattle.std.proofs.lemmas.List.{length-map}
use Rattle.std.proofs.lemmas.List.FromFn.{length-range_with_len}
use Rattle.iv_time.specs.Range.{is_instant}
use Rattle.seg_names.specs.Names.{is_between, is_name}
use Rattle.book_rows.specs.Form.{are_offsets, is_offset, item_limit, offset_limit, partition_limit}
use Rattle.iv_time.specs.Durations.{is_duration}
use Rattle.book_rows.specs.Lists.{In, list_links}
use Rattle.book_rows.specs.Offsets.{is_at, offset_in}
use Rattle.book_rows.specs.Sequences.{is_closed, is_of_group, offset_at, or_zero, partitions_of, positions}
use Rattle.book_rows.specs.Shape.{is_offset_row, is_supervisor_row}
use Rattle.book_rows.specs.Ticks.{groups_of, has_partitions, last_ends, of_group, opened_row}
use Rattle.book_rows.specs.declared.rows.Offset.{Offset}
use Rattle.book_rows.specs.declared.rows.OffsetRow.{OffsetRow}
use Rattle.book_rows.specs.declared.rows.SequenceRow.{SequenceRow}
use Rattle.book_rows.specs.declared.rows.SupervisorRow.{SupervisorRow}
use Rattle.laws_locks.proofs.Lists.{In-filter, In-list_all, all_filter, found_In}
use Rattle.laws_limits.proofs.FitRows.{IsFitRow, offsets_from}
use Rattle.laws_limits.proofs.ReplicaIds.{replicas_fit}
use Rattle.laws_limits.proofs.Rooms.{filter_no_longer}
use Rattle.laws_sequences.proofs.Counts.{in_range}

-- ---- a supervisor

pub record HasCounts (s : SupervisorRow) : Type 0 where
  pub source_is : is_name s.source ≡ true
  pub stream_is : is_name s.stream ≡ true
  pub few_partitions : s.partitions ≤ 4096
  pub few_tasks : s.task_count ≤ 4096
  pub few_replicas : s.replicas ≤ 16

pub counts_of : (s : SupervisorRow) → is_supervisor_row s ≡ true → HasCounts s
counts_of s h =
    let timeout = and_parts (is_name s.source && is_name s.stream && is_between 1 item_limit s.partitions && is_between 1 item_limit s.task_count && is_between 1 16 s.replicas && is_duration s.duration) (is_duration s.timeout) h in
    let duration = and_parts (is_name s.source && is_name s.stream && is_between 1 item_limit s.partitions && is_between 1 item_limit s.task_count && is_between 1 16 s.replicas) (is_duration s.duration) timeout.0 in
    let replicas = and_parts (is_name s.source && is_name s.stream && is_between 1 item_limit s.partitions && is_between 1 item_limit s.task_count) (is_between 1 16 s.replicas) duration.0 in
    let tasks = and_parts (is_name s.source && is_name s.stream && is_between 1 item_limit s.partitions) (is_between 1 item_limit s.task_count) replicas.0 in
    let partitions = and_parts (is_name s.source && is_name s.stream) (is_between 1 item_limit s.partitions) tasks.0 in
    let names = and_parts (is_name s.source) (is_name s.stream) partitions.0 in
    record {
      source_is = names.0;
      stream_is = names.1;
      few_partitions = items s.partitions partitions.1;
      few_tasks = items s.task_count tasks.1;
      few_replicas = sixteen s.replicas replicas.1;
    } where
      items : (n : ℕ) → is_between 1 item_limit n ≡ true → n ≤ 4096
      items n h = grind (arith, nat_tests)

      sixteen : (n : ℕ) → is_between 1 16 n ≡ true → n ≤ 16
      sixteen n h = grind (arith, nat_tests)

-- a group is below the number of groups
group_few : (s : SupervisorRow) (group : ℕ) → HasCounts s → In group (groups_of s) → group < 10 ^ 4
group_few s group h i = below group s.task_count (in_range s.task_count 0 group (In-filter (has_partitions s) group (range_with_len 0 s.task_count) i).0) h.few_tasks where
  below : (g n : ℕ) → g < 0 + n → n ≤ 4096 → g < 10 ^ 4
  below g n h k = omega arith

-- ---- where the partitions stand

stored_fits : (o : Option OffsetRow) → ((r : OffsetRow) → o ≡ Some r → nat_le r.offset offset_limit ≡ true) → nat_le (or_zero (offset_in o)) offset_limit ≡ true
stored_fits None f = refl
stored_fits (Some r) f = f r refl

row_offset : (r : OffsetRow) → is_offset_row r ≡ true → nat_le r.offset offset_limit ≡ true
row_offset r h = (and_parts (is_name r.source && is_name r.stream && nat_le r.partition partition_limit) (nat_le r.offset offset_limit) h).1

module _ (rows : List OffsetRow) (source stream : List ℕ) (limits : list_all is_offset_row rows ≡ true) (passes : ℕ → Bool) where
  abbrev at : ℕ → Offset
  at p = offset_at rows source stream p

  abbrev from : ℕ → ℕ → List Offset
  from a n = map at (filter passes (range_with_len a n))

  offset_fits : (p : ℕ) → p < 4096 → is_offset (at p) ≡ true
  offset_fits p few =
      and_from (nat_le p partition_limit) (nat_le (at p).offset offset_limit) (low p few)
      (stored_fits (find (is_at source stream p) rows) (λ r e. row_offset r (In-list_all is_offset_row r rows (found_In (is_at source stream p) r rows e).0 limits))) where
        low : (p : ℕ) → p < 4096 → nat_le p partition_limit ≡ true
        low p h = grind (arith, nat_tests)

  each_fits : (a n : ℕ) → a + n ≤ 4096 → list_all is_offset (from a n) ≡ true
  each_fits a zero few = refl
  each_fits a (suc n) few = by (passes a) (each_fits (a + 1) n (omega arith)) (offset_fits a (omega arith)) where
    by : (b : Bool) → list_all is_offset (from (a + 1) n) ≡ true → is_offset (at a) ≡ true → list_all is_offset (map at (cond b (a ∷ filter passes (range_with_len (a + 1) n)) (filter passes (range_with_len (a + 1) n)))) ≡ true
    by true h k = and_from (is_offset (at a)) (list_all is_offset (from (a + 1) n)) k h
    by false h k = h

  -- the partitions of later ones are greater
  all_above : (p a n : ℕ) → p < a → list_all (λ (o : Offset). nat_lt p o.partition) (from a n) ≡ true
  all_above p a zero less = refl
  all_above p a (suc n) less = by (passes a) (all_above p (a + 1) n (omega arith)) where
    above : (p a : ℕ) → p < a → nat_lt p a ≡ true
    above p a h = grind (arith, nat_tests)

    by : (b : Bool) → list_all (λ (o : Offset). nat_lt p o.partition) (from (a + 1) n) ≡ true → list_all (λ (o : Offset). nat_lt p o.partition) (map at (cond b (a ∷ filter passes (range_with_len (a + 1) n)) (filter passes (range_with_len (a + 1) n)))) ≡ true
    by true h = and_from (nat_lt p a) (list_all (λ (o : Offset). nat_lt p o.partition) (from (a + 1) n)) (above p a less) h
    by false h = h

  linked : (x : Offset) (os : List Offset) → list_all (λ (o : Offset). nat_lt x.partition o.partition) os ≡ true → list_links (λ a b. nat_lt a.partition b.partition) os ≡ true → list_links (λ a b. nat_lt a.partition b.partition) (x ∷ os) ≡ true
  linked x [] h k = refl
  linked x (y ∷ os) h k =
      and_from (nat_lt x.partition y.partition) (list_links (λ a b. nat_lt a.partition b.partition) (y ∷ os)) (and_parts (nat_lt x.partition y.partition) (list_all (λ (o : Offset). nat_lt x.partition o.partition) os) h).0 k

  ascends : (a n : ℕ) → list_links (λ a b. nat_lt a.partition b.partition) (from a n) ≡ true
  ascends a zero = refl
  ascends a (suc n) = by (passes a) (ascends (a + 1) n) (all_above a (a + 1) n (omega arith)) where
    by : (b : Bool) → list_links (λ a b. nat_lt a.partition b.partition) (from (a + 1) n) ≡ true → list_all (λ (o : Offset). nat_lt a o.partition) (from (a + 1) n) ≡ true
        → list_links (λ a b. nat_lt a.partition b.partition) (map at (cond b (a ∷ filter passes (range_with_len (a + 1) n)) (filter passes (range_with_len (a + 1) n)))) ≡ true
    by true h k = linked (at a) (from (a + 1) n) k h
    by false h k = h

  positions_fit : (n : ℕ) → n ≤ 4096 → are_offsets (from 0 n) ≡ true
  positions_fit n few = offsets_from (from 0 n) (record {
    few = rw (length-map (filter passes (range_with_len 0 n)) at) (fewer (length (filter passes (range_with_len 0 n))) (length (range_with_len 0 n)) n (filter_no_longer passes (range_with_len 0 n)) (length-range_with_len 0 n) few);
    each = each_fits 0 n (zero_more n few);
    links = ascends 0 n;
  }) where
    fewer : (k m n : ℕ) → k ≤ m → m ≡ n → n ≤ 4096 → nat_le k item_limit ≡ true
    fewer k m n h e l = grind (arith, nat_tests)

    zero_more : (n : ℕ) → n ≤ 4096 → 0 + n ≤ 4096
    zero_more n h = omega arith

-- ---- where the last closed one ends

last_fits : (at : List Offset) (us : List SequenceRow) → are_offsets at ≡ true → AllByRecursion IsFitRow us → are_offsets (last_ends at us) ≡ true
last_fits at [] h a = h
last_fits at (u ∷ us) h a = last_fits (cond (is_closed u) u.ends at) us (either (is_closed u)) a.1 where
  either : (b : Bool) → are_offsets (cond b u.ends at) ≡ true
  either true = a.0.ends_are
  either false = h

-- ---- the row

pub fit_opened : (rows : List OffsetRow) (s : SupervisorRow) (group : ℕ) (now : ℤ) (us : List SequenceRow) → list_all is_offset_row rows ≡ true → HasCounts s → In group (groups_of s) → is_instant now ≡ true → length us < 10 ^ 10
    → AllByRecursion IsFitRow us → IsFitRow (opened_row rows s group now us)
fit_opened rows s group now us limits counts i is few a = record {
  source_is = counts.source_is;
  opened_is = is;
  closed_is = refl;
  starts_are = last_fits (positions rows s.source s.stream (partitions_of s group)) (of_group s group us)
      (positions_fit rows s.source s.stream limits (λ p. (p % s.task_count) == group) s.partitions counts.few_partitions) (all_filter IsFitRow (is_of_group s.source group) us a);
  ends_are = refl;
  live_are = replicas_fit s.source group (length (of_group s group us)) s.replicas counts.source_is (group_few s group counts i) (less (length (of_group s group us)) (length us) (filter_no_longer (is_of_group s.source group) us) few) counts.few_replicas;
  reports_are = refl;
  state_is = refl;
} where
  less : (k n : ℕ) → k ≤ n → n < 10 ^ 10 → k < 10 ^ 10
  less k n h l = omega arith
