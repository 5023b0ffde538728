-- Sequences of a supervisor have keys that their names tell.
use Rattle.std.proofs.Common.{◌≡◌, ℕ, ◌+◌, ◌<◌, ◌≤◌, ◌^◌, true, false, ◌&&◌, List, refl, arith, length, nat_lt}
use Rattle.std.specs.List.{AllByRecursion, range_with_len}
use Rattle.std.proofs.lemmas.Bool.{and_parts}
use Rattle.std.proofs.lemmas.Bool.Decides.{nat_tests}
use Rattle.seg_names.specs.Names.{is_between, is_name}
use Rattle.book_rows.specs.Form.{item_limit}
use Rattle.iv_time.specs.Durations.{is_duration}
use Rattle.book_rows.specs.Lists.{In}
use Rattle.book_rows.specs.Outcome.{row_limit}
use Rattle.book_rows.specs.SequenceRules.{IsSupervised}
use Rattle.book_rows.specs.Sequences.{is_named, is_of_group, name_of}
use Rattle.book_rows.specs.Shape.{is_supervisor_row}
use Rattle.book_rows.specs.Ticks.{groups_of, has_partitions}
use Rattle.book_rows.specs.declared.rows.SequenceRow.{SequenceRow}
use Rattle.book_rows.specs.declared.rows.SupervisorRow.{SupervisorRow}
use Rattle.laws_locks.proofs.Lists.{In-filter, In-list_all, all_from_In}
use Rattle.laws_offsets.proofs.Lists.{same_text}
use Rattle.laws_sequences.specs.Links.{AreCounted, AreSupervisors}
use Rattle.laws_sequences.specs.NameLaws.{IsKey}
use Rattle.laws_sequences.proofs.Counts.{group_from, group_rows, in_range, index_below, one_sequence}
use Rattle.laws_sequences.proofs.Filters.{filter_shorter}
use Rattle.laws_sequences.proofs.NameTexts.{sequence_names_tell}

abbrev pub HasKey : SequenceRow → Type 0
HasKey u = IsKey u.source u.group u.index

abbrev pub HaveKeys : List SequenceRow → Type 0
HaveKeys us = AllByRecursion HasKey us

-- a sequence of this name has this key
pub one_key : (u v : SequenceRow) → HasKey u → HasKey v → is_named (name_of u) v ≡ true → (v.source ≡ u.source) × (v.group ≡ u.group) × (v.index ≡ u.index)
one_key u v a b e = sequence_names_tell v.source u.source v.group u.group v.index u.index b a (same_text (name_of v) (name_of u) e)

-- ---- limits of supervisors

pub supervisor_source : (s : SupervisorRow) → is_supervisor_row s ≡ true → is_name s.source ≡ true
supervisor_source s h =
    let a = and_parts (is_name s.source && is_name s.stream && is_between 1 item_limit s.partitions && is_between 1 item_limit s.task_count && is_between 1 16 s.replicas && is_duration s.duration) (is_duration s.timeout) h in
    let b = and_parts (is_name s.source && is_name s.stream && is_between 1 item_limit s.partitions && is_between 1 item_limit s.task_count && is_between 1 16 s.replicas) (is_duration s.duration) a.0 in
    let c = and_parts (is_name s.source && is_name s.stream && is_between 1 item_limit s.partitions && is_between 1 item_limit s.task_count) (is_between 1 16 s.replicas) b.0 in
    let d = and_parts (is_name s.source && is_name s.stream && is_between 1 item_limit s.partitions) (is_between 1 item_limit s.task_count) c.0 in
    let e = and_parts (is_name s.source && is_name s.stream) (is_between 1 item_limit s.partitions) d.0 in
    (and_parts (is_name s.source) (is_name s.stream) e.0).0

pub supervisor_tasks : (s : SupervisorRow) → is_supervisor_row s ≡ true → is_between 1 item_limit s.task_count ≡ true
supervisor_tasks s h =
    let a = and_parts (is_name s.source && is_name s.stream && is_between 1 item_limit s.partitions && is_between 1 item_limit s.task_count && is_between 1 16 s.replicas && is_duration s.duration) (is_duration s.timeout) h in
    let b = and_parts (is_name s.source && is_name s.stream && is_between 1 item_limit s.partitions && is_between 1 item_limit s.task_count && is_between 1 16 s.replicas) (is_duration s.duration) a.0 in
    let c = and_parts (is_name s.source && is_name s.stream && is_between 1 item_limit s.partitions && is_between 1 item_limit s.task_count) (is_between 1 16 s.replicas) b.0 in
    (and_parts (is_name s.source && is_name s.stream && is_between 1 item_limit s.partitions) (is_between 1 item_limit s.task_count) c.0).1

pub supervisor_replicas : (s : SupervisorRow) → is_supervisor_row s ≡ true → is_between 1 16 s.replicas ≡ true
supervisor_replicas s h =
    let a = and_parts (is_name s.source && is_name s.stream && is_between 1 item_limit s.partitions && is_between 1 item_limit s.task_count && is_between 1 16 s.replicas && is_duration s.duration) (is_duration s.timeout) h in
    let b = and_parts (is_name s.source && is_name s.stream && is_between 1 item_limit s.partitions && is_between 1 item_limit s.task_count && is_between 1 16 s.replicas) (is_duration s.duration) a.0 in
    (and_parts (is_name s.source && is_name s.stream && is_between 1 item_limit s.partitions && is_between 1 item_limit s.task_count) (is_between 1 16 s.replicas) b.0).1

-- a supervisor's group is a number of four digits
pub group_below : (s : SupervisorRow) (group : ℕ) → is_supervisor_row s ≡ true → In group (groups_of s) → group < 4096
group_below s group h i =
    below group s.task_count (in_range s.task_count 0 group (In-filter (has_partitions s) group (range_with_len 0 s.task_count) i).0) (supervisor_tasks s h) where
      below : (g n : ℕ) → g < 0 + n → is_between 1 item_limit n ≡ true → g < 4096
      below g n a b = grind (arith, nat_tests)

-- ---- keys

pub supervised_key : (s : SupervisorRow) (u : SequenceRow) → is_supervisor_row s ≡ true → s.source ≡ u.source → In u.group (groups_of s) → u.index < 2 ^ 64 → HasKey u
supervised_key s u h same i below = record {
  source_is = rw (← same) (supervisor_source s h);
  group_fits = fits u.group (group_below s u.group h i);
  index_fits = below;
} where
  fits : (g : ℕ) → g < 4096 → g < 2 ^ 64
  fits g h = omega arith

pub few_rows : (n : ℕ) → nat_lt row_limit n ≡ false → n < 2 ^ 64
few_rows n h = grind (arith, nat_tests)

module _ (ss : List SupervisorRow) (us : List SequenceRow) (supervisors : AreSupervisors ss) (each : (u : SequenceRow) → In u us → IsSupervised ss u) (counted : AreCounted us) (few : length us < 2 ^ 64) where
  index_fits : (u : SequenceRow) → In u us → u.index < 2 ^ 64
  index_fits u i =
      within u.index (length (group_rows u.source u.group us)) (length us) (index_below us u.source u.group u counted i (group_from u.source u.group u refl refl)) (filter_shorter (is_of_group u.source u.group) us) few where
        within : (i n m : ℕ) → i < n → n ≤ m → m < 2 ^ 64 → i < 2 ^ 64
        within i n m a b c = omega arith

  pub has_key : (u : SequenceRow) → In u us → HasKey u
  has_key u i =
      let s = each u i in
      supervised_key s.supervisor u (In-list_all is_supervisor_row s.supervisor ss s.among supervisors.rows) s.source_is s.group_is (index_fits u i)

  pub have_keys : HaveKeys us
  have_keys = all_from_In HasKey us has_key

  -- two sequences of one name are one
  pub one_name : (u v : SequenceRow) → In u us → In v us → is_named (name_of u) v ≡ true → u ≡ v
  one_name u v i j e =
      let k = one_key u v (has_key u i) (has_key v j) e in
      one_sequence us u v counted i j (group_from u.source u.group v k.0 k.1) k.2
