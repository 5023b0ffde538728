-- Tests of the rule on sequences. Which of them fails has no row.
use Rattle.std.specs.Prelude.{◌&&◌, ◌+◌, ◌==◌, ◌∷◌, Bool, List, Option, [], bytes_eq, cond, false, filter, length, map, not, true, ℕ}
use Rattle.std.specs.List.{list_all, list_any, range_with_len}
use Rattle.book_rows.specs.Kinds.{is_unpublished, same_task_kind}
use Rattle.book_rows.specs.Lists.{count, is_empty, stands_in}
use Rattle.book_rows.specs.Names.{begins_with, compact_name, compact_prefix, replica_name, sup_prefix}
use Rattle.book_rows.specs.SequenceRules.{has_ranges_of, is_live_replica, is_of_sequence, is_published, is_sup_task}
use Rattle.book_rows.specs.Sequences.{is_closed, name_of, named, open_rows, partitions_of, positions, reaches}
use Rattle.book_rows.specs.Ticks.{groups_of, of_group}
use Rattle.book_rows.specs.declared.kinds.TaskKind.TheVariants as TaskKinds
use Rattle.book_rows.specs.declared.rows.Book.{Book}
use Rattle.book_rows.specs.declared.rows.Offset.{Offset}
use Rattle.book_rows.specs.declared.rows.Publication.{Publication}
use Rattle.book_rows.specs.declared.rows.Report.{Report}
use Rattle.book_rows.specs.declared.rows.SequenceRow.{SequenceRow}
use Rattle.book_rows.specs.declared.rows.SupervisorRow.{SupervisorRow}
use Rattle.book_rows.specs.declared.rows.TaskRow.{TaskRow}
use Rattle.laws_unsound.specs.ChunkRows.{implies}
use Rattle.laws_unsound.specs.Rows.{zero_unless}
use Rattle.laws_unsound.specs.ShapeRows.{no_clash}

abbrev pub same_list : {X : Type 0} → (X → X → Bool) → List X → List X → Bool
same_list same [] [] = true
same_list same (x ∷ xs) (y ∷ ys) = same x y && same_list same xs ys
same_list same _ _ = false

abbrev pub same_offset : Offset → Offset → Bool
same_offset a b = (a.partition == b.partition) && (a.offset == b.offset)

-- ---- a sequence, with its supervisor, its tasks and its publications

abbrev pub supervises : SequenceRow → SupervisorRow → Bool
supervises u s = bytes_eq s.source u.source && stands_in (groups_of s) u.group

abbrev pub is_supervised : List SupervisorRow → SequenceRow → Bool
is_supervised ss u = list_any (supervises u) ss

abbrev pub are_of_one_task : Report → Report → Bool
are_of_one_task a b = bytes_eq a.task b.task

abbrev pub is_told_once : SequenceRow → Bool
is_told_once u = implies (is_published u) (reaches u.starts u.ends) && (list_all (λ r. reaches u.starts r.offsets) u.reports && no_clash are_of_one_task u.reports)

abbrev pub is_task_of : SequenceRow → List ℕ → TaskRow → Bool
is_task_of u task t = bytes_eq t.task task && bytes_eq t.group (name_of u)

abbrev pub has_reporters : List TaskRow → SequenceRow → Bool
has_reporters ts u = list_all (λ r. list_any (is_task_of u r.task) ts) u.reports

abbrev pub has_live : List TaskRow → SequenceRow → Bool
has_live ts u = same_list bytes_eq u.live (map (λ t. t.task) (filter (is_live_replica u) ts)) && implies (is_unpublished u.state) (not (is_empty u.live))

abbrev pub is_published_once : List Publication → SequenceRow → Bool
is_published_once pubs u = (count (is_of_sequence u) pubs == cond (is_published u) 1 0) && list_all (λ m. implies (is_of_sequence u m) (has_ranges_of u m.ranges)) pubs

abbrev pub is_sound_sequence : Book → SequenceRow → Bool
is_sound_sequence b u = is_supervised b.supervisors u && (is_told_once u && (has_reporters b.tasks u && (has_live b.tasks u && is_published_once b.publications u)))

-- ---- a group of a supervisor, with its sequences

abbrev pub is_own : List ℕ → SequenceRow → Bool
is_own ps u = bytes_eq (named u.starts) ps && implies (is_closed u) (reaches u.starts u.ends)

abbrev pub is_chain : List Offset → List SequenceRow → Bool
is_chain at [] = true
is_chain at (u ∷ []) = same_list same_offset u.starts at
is_chain at (u ∷ v ∷ us) = is_closed u && (same_list same_offset u.starts at && is_chain u.ends (v ∷ us))

abbrev pub is_sound_group : Book → SupervisorRow → ℕ → Bool
is_sound_group b s group =
    bytes_eq (map (λ u. u.index) (of_group s group b.sequences)) (range_with_len 0 (length (of_group s group b.sequences)))
    && (list_all (is_own (partitions_of s group)) (of_group s group b.sequences)
    && is_chain (positions b.offsets s.source s.stream (partitions_of s group)) (open_rows s.source group b.sequences))

-- the groups that sequences name decide
abbrev pub has_sound_groups : Book → SupervisorRow → Bool
has_sound_groups b s = list_all (λ u. is_sound_group b s u.group) b.sequences

-- ---- tasks that are named as those of sequences and of compactions

abbrev pub gives_id : SequenceRow → List ℕ → SupervisorRow → Bool
gives_id u task s = bytes_eq s.source u.source && list_any (λ n. bytes_eq task (replica_name (name_of u) n)) (range_with_len 0 s.replicas)

abbrev pub is_replica_of : List SupervisorRow → TaskRow → SequenceRow → Bool
is_replica_of ss t u = list_any (gives_id u t.task) ss && (bytes_eq t.group (name_of u) && (bytes_eq t.source u.source && (same_task_kind t.kind TaskKinds.Realtime && is_empty t.wants)))

abbrev pub is_replica : List SupervisorRow → List SequenceRow → TaskRow → Bool
is_replica ss us t = implies (is_sup_task t) (list_any (is_replica_of ss t) us)

abbrev pub is_compaction : ℕ → TaskRow → Bool
is_compaction k t = implies (begins_with compact_prefix t.task) (bytes_eq t.task (compact_name t.source k))

-- the first of the list has place k
abbrev pub are_compactions : ℕ → List TaskRow → Bool
are_compactions k [] = true
are_compactions k (t ∷ ts) = is_compaction k t && are_compactions (k + 1) ts

-- ---- publications that are named as those of sequences

abbrev pub is_group_known : List SequenceRow → Publication → Bool
is_group_known us m = implies (begins_with sup_prefix m.group) (list_any (λ u. bytes_eq m.group (name_of u)) us)

-- ---- the whole

abbrev pub are_in_sequence : Book → Bool
are_in_sequence b =
    list_all (is_sound_sequence b) b.sequences
    && (list_all (has_sound_groups b) b.supervisors
    && (list_all (is_replica b.supervisors b.sequences) b.tasks
    && (are_compactions 0 b.tasks
    && list_all (is_group_known b.sequences) b.publications)))

abbrev pub sequence_row : Book → Option ℕ
sequence_row b = zero_unless (are_in_sequence b)
