-- The shape, clause by clause: the least row that breaks each.
use Rattle.std.specs.Prelude.{◌&&◌, ◌++◌, ◌+◌, ◌==◌, ◌||◌, ◌∷◌, Bool, List, None, Option, Some, [], bytes_eq, cond, false, filter, int_le, length, nat_le, nat_lt, not, pos, suc, true, zero, ℕ}
use Rattle.std.specs.List.{list_all, list_any}
use Rattle.iv_time.specs.Range.{is_instant}
use Rattle.seg_names.specs.Ids.{same_id}
use Rattle.seg_names.specs.declared.seg_id.SegId.{SegId}
use Rattle.book_rows.specs.Allocation.{is_of_chunk, is_root}
use Rattle.book_rows.specs.Ids.{is_less, is_listed}
use Rattle.book_rows.specs.Kinds.{same_status}
use Rattle.book_rows.specs.Lists.{at_place, is_empty}
use Rattle.book_rows.specs.Locks.{same_number}
use Rattle.book_rows.specs.Offsets.{key_cmp}
use Rattle.book_rows.specs.Outcome.{all_tables, is_full, number_limit, part_limit}
use Rattle.book_rows.specs.Shape.{fits_kind, fits_state, fits_version, is_chunk_row, is_offset_row, is_pending_row, is_posse_row, is_publication_row, is_segment_row, is_sequence_row, is_supervisor_row, is_task_row, is_upgrade_row, pending_ids, same_chunk_row, same_request, same_sequence, same_supervisor, same_task, same_upgrade, same_version, segment_ids}
use Rattle.book_rows.specs.declared.kinds.Table.{Table}
use Rattle.book_rows.specs.declared.kinds.Table.TheVariants as Tables
use Rattle.book_rows.specs.declared.kinds.TaskStatus.TheVariants as Statuses
use Rattle.book_rows.specs.declared.rows.Book.{Book}
use Rattle.book_rows.specs.declared.rows.ChunkRow.{ChunkRow}
use Rattle.book_rows.specs.declared.rows.OffsetRow.{OffsetRow}
use Rattle.book_rows.specs.declared.rows.PendingRow.{PendingRow}
use Rattle.book_rows.specs.declared.rows.PosseRow.{PosseRow}
use Rattle.book_rows.specs.declared.rows.Publication.{Publication}
use Rattle.book_rows.specs.declared.rows.SegmentRow.{SegmentRow}
use Rattle.book_rows.specs.declared.rows.TaskRow.{TaskRow}
use Rattle.laws_unsound.specs.Counts.{before_chunks, before_offsets, before_pendings, before_posses, before_publications, before_segments, before_sequences, before_supervisors, before_tasks, before_upgrades}
use Rattle.laws_unsound.specs.Rows.{Rowed, first_clashing, first_failing, in_row, least, least_clashing, zero_unless}

-- ---- limits: lengths of tables and single numbers of the book have no row of their own, all else has

abbrev pub is_parts : Table → Bool
is_parts Tables.Parts = true
is_parts _ = false

-- all tables but the parts, which are numbers of chunk rows
abbrev pub single_tables : List Table
single_tables = filter (λ table. not (is_parts table)) all_tables

abbrev pub has_room : Book → Bool
has_room b = not (list_any (λ table. is_full table b) single_tables)

abbrev pub has_parts_left : ChunkRow → Bool
has_parts_left c = not (nat_lt part_limit c.next)

-- the last version isn't below 0
abbrev pub has_last : Book → Bool
has_last b = is_instant b.last && int_le (pos 0) b.last

abbrev pub limit_rows : Book → List (Option ℕ)
limit_rows b =
    zero_unless (has_room b)
    ∷ first_failing (before_chunks b) has_parts_left b.chunks
    ∷ zero_unless (is_instant b.clock)
    ∷ zero_unless (has_last b)
    ∷ first_failing before_tasks is_task_row b.tasks
    ∷ first_failing (before_posses b) is_posse_row b.posses
    ∷ first_failing (before_chunks b) is_chunk_row b.chunks
    ∷ first_failing (before_segments b) is_segment_row b.segments
    ∷ first_failing (before_pendings b) is_pending_row b.pendings
    ∷ first_failing (before_upgrades b) is_upgrade_row b.upgrades
    ∷ first_failing (before_publications b) is_publication_row b.publications
    ∷ first_failing (before_offsets b) is_offset_row b.offsets
    ∷ first_failing (before_supervisors b) is_supervisor_row b.supervisors
    ∷ first_failing (before_sequences b) is_sequence_row b.sequences
    ∷ first_failing (before_publications b) (λ m. fits_kind m.kind m) b.publications
    ∷ first_failing (before_sequences b) (λ u. fits_state u.state u) b.sequences
    ∷ []

-- ---- numbers of locks, in the rows of locks and of what stands under them

abbrev pub is_number : ℕ → Bool
is_number n = nat_lt n number_limit

abbrev pub number_rows : Book → List (Option ℕ)
number_rows b =
    first_failing (before_posses b) (λ q. is_number q.number) b.posses
    ∷ first_failing (before_pendings b) (λ p. is_number p.posse) b.pendings
    ∷ first_failing (before_upgrades b) (λ u. is_number u.posse) b.upgrades
    ∷ []

-- ---- keys

-- the number isn't below that of a later lock
abbrev pub are_reversed : PosseRow → PosseRow → Bool
are_reversed p q = nat_le q.number p.number

abbrev pub are_unordered : OffsetRow → OffsetRow → Bool
are_unordered r s = not (is_less (key_cmp r s))

-- root pendings of one request
abbrev pub ask_alike : PendingRow → PendingRow → Bool
ask_alike p q = is_root p && (is_root q && same_request p q)

-- the ids that each row gives, with that row
abbrev pub ids_in_rows : {X : Type 0} → ℕ → (X → List SegId) → List X → List (Rowed SegId)
ids_in_rows k ids [] = []
ids_in_rows k ids (x ∷ xs) = in_row k (ids x) ++ ids_in_rows (k + 1) ids xs

-- the ids of pendings, and those that publications add, tombstones too
abbrev pub once_ids : Book → List (Rowed SegId)
once_ids b =
    ids_in_rows (before_pendings b) (λ p. p.id ∷ []) b.pendings
    ++ (ids_in_rows (before_publications b) (λ m. m.adds) b.publications ++ ids_in_rows (before_publications b) (λ m. m.empties) b.publications)

-- rows of segments and pendings stand one after another in the count
abbrev pub key_rows : Book → List (Option ℕ)
key_rows b =
    first_clashing before_tasks same_task b.tasks
    ∷ first_clashing (before_posses b) same_number b.posses
    ∷ first_clashing (before_posses b) are_reversed b.posses
    ∷ first_failing (before_posses b) (λ q. nat_lt q.number b.next_lock) b.posses
    ∷ first_clashing (before_chunks b) same_chunk_row b.chunks
    ∷ first_clashing (before_segments b) same_id (segment_ids b.segments ++ pending_ids b.pendings)
    ∷ first_clashing (before_upgrades b) same_upgrade b.upgrades
    ∷ first_clashing (before_offsets b) are_unordered b.offsets
    ∷ first_clashing (before_supervisors b) same_supervisor b.supervisors
    ∷ first_clashing (before_sequences b) same_sequence b.sequences
    ∷ first_clashing (before_pendings b) ask_alike b.pendings
    ∷ least_clashing same_id (once_ids b)
    ∷ []

-- ---- versions

abbrev pub version_rows : Book → List (Option ℕ)
version_rows b =
    first_failing (before_posses b) (λ q. int_le q.version b.last) b.posses
    ∷ first_failing (before_chunks b) (λ c. int_le c.version b.last) b.chunks
    ∷ first_failing (before_posses b) fits_version b.posses
    ∷ first_clashing (before_posses b) same_version b.posses
    ∷ []

-- ---- members

-- no two elements clash
abbrev pub no_clash : {X : Type 0} → (X → X → Bool) → List X → Bool
no_clash clash [] = true
no_clash clash (x ∷ xs) = not (list_any (clash x) xs) && no_clash clash xs

abbrev pub is_member_task : PosseRow → List ℕ → TaskRow → Bool
is_member_task q task t = bytes_eq t.task task && (same_status t.status Statuses.Running && (bytes_eq t.group q.group && (bytes_eq t.source q.source && (t.priority == q.priority))))

abbrev pub has_members : List TaskRow → PosseRow → Bool
has_members ts q = not (is_empty q.members) && (no_clash bytes_eq q.members && list_all (λ task. list_any (is_member_task q task) ts) q.members)

abbrev pub member_row : Book → Option ℕ
member_row b = first_failing (before_posses b) (has_members b.tasks) b.posses

-- ---- chunk rows of ids

abbrev pub has_chunk : List ChunkRow → SegId → Bool
has_chunk cs a = list_any (λ c. is_of_chunk c a && nat_lt a.part c.next) cs

abbrev pub id_rows : Book → List (Option ℕ)
id_rows b =
    first_failing (before_segments b) (λ r. has_chunk b.chunks r.id) b.segments
    ∷ first_failing (before_pendings b) (λ p. has_chunk b.chunks p.id) b.pendings
    ∷ first_failing (before_publications b) (λ m. list_all (has_chunk b.chunks) m.adds) b.publications
    ∷ first_failing (before_publications b) (λ m. list_all (has_chunk b.chunks) m.empties) b.publications
    ∷ []

-- ---- commits

abbrev pub has_known_since : Book → Publication → Bool
has_known_since b m = list_all (λ s. nat_le s.since (length b.publications)) m.spans

abbrev pub commit_rows : Book → List (Option ℕ)
commit_rows b =
    first_failing (before_segments b) (λ r. nat_lt r.commit (length b.publications)) b.segments
    ∷ first_failing (before_posses b) (λ q. nat_le q.since (length b.publications)) b.posses
    ∷ first_failing (before_publications b) (has_known_since b) b.publications
    ∷ []

-- ---- roots

abbrev pub lists_empty : SegId → Option Publication → Bool
lists_empty a None = false
lists_empty a (Some m) = is_listed m.empties a

abbrev pub is_tombstone : List ChunkRow → List Publication → SegmentRow → Bool
is_tombstone cs pubs r = same_id r.root r.id && ((r.id.part == 0) && (list_any (λ c. is_of_chunk c r.id && (c.core == 1)) cs && lists_empty r.id (at_place r.commit pubs)))

-- one of the publications up to this place adds the id
abbrev pub is_added_by : ℕ → List Publication → SegId → Bool
is_added_by n [] a = false
is_added_by zero (m ∷ ms) a = is_listed m.adds a
is_added_by (suc n) (m ∷ ms) a = is_listed m.adds a || is_added_by n ms a

abbrev pub has_root : List ChunkRow → List Publication → SegmentRow → Bool
has_root cs pubs r = cond r.tombstone (is_tombstone cs pubs r) (is_added_by r.commit pubs r.root)

abbrev pub root_row : Book → Option ℕ
root_row b = first_failing (before_segments b) (has_root b.chunks b.publications) b.segments

-- ---- the whole: the least of the rows of all clauses

abbrev pub shape_rows : Book → List (Option ℕ)
shape_rows b =
    least (limit_rows b) ∷ least (number_rows b) ∷ least (key_rows b) ∷ least (version_rows b) ∷ member_row b ∷ least (id_rows b)
    ∷ least (commit_rows b) ∷ root_row b ∷ []
