-- The least row that breaks a clause on keys or on chunk rows, of the clauses that one function asks.
use Rattle.std.specs.Prelude.{◌++◌, ◌∷◌, List, Option, [], nat_lt, ℕ}
use Rattle.std.specs.List.{list_all}
use Rattle.seg_names.specs.Ids.{same_id}
use Rattle.book_rows.specs.Locks.{same_number}
use Rattle.book_rows.specs.Shape.{pending_ids, same_chunk_row, same_sequence, same_supervisor, same_upgrade, segment_ids}
use Rattle.book_rows.specs.declared.rows.Book.{Book}
use Rattle.book_rows.specs.declared.rows.ChunkRow.{ChunkRow}
use Rattle.laws_unsound.specs.Counts.{before_chunks, before_offsets, before_pendings, before_posses, before_publications, before_segments, before_sequences, before_supervisors, before_upgrades}
use Rattle.laws_unsound.specs.Rows.{first_clashing, first_failing, least, least_clashing, lesser}
use Rattle.laws_unsound.specs.ShapeRows.{are_reversed, are_unordered, ask_alike, has_chunk, once_ids}

-- ---- keys, before the rows of the clauses behind

abbrev pub lock_keys : Book → Option ℕ → Option ℕ
lock_keys b rest =
    lesser (first_clashing (before_posses b) same_number b.posses)
    (lesser (first_clashing (before_posses b) are_reversed b.posses)
    (lesser (first_failing (before_posses b) (λ q. nat_lt q.number b.next_lock) b.posses) rest))

abbrev pub id_keys : Book → Option ℕ → Option ℕ
id_keys b rest =
    lesser (first_clashing (before_chunks b) same_chunk_row b.chunks)
    (lesser (first_clashing (before_segments b) same_id (segment_ids b.segments ++ pending_ids b.pendings))
    (lesser (first_clashing (before_upgrades b) same_upgrade b.upgrades) rest))

abbrev pub stream_keys : Book → Option ℕ → Option ℕ
stream_keys b rest =
    lesser (first_clashing (before_offsets b) are_unordered b.offsets)
    (lesser (first_clashing (before_supervisors b) same_supervisor b.supervisors)
    (lesser (first_clashing (before_sequences b) same_sequence b.sequences) rest))

abbrev pub request_keys : Book → Option ℕ
request_keys b = least (first_clashing (before_pendings b) ask_alike b.pendings ∷ least_clashing same_id (once_ids b) ∷ [])

-- ---- chunk rows of ids

abbrev pub without_chunk : List ChunkRow → Book → Option ℕ
without_chunk cs b = least (
    first_failing (before_segments b) (λ r. has_chunk cs r.id) b.segments
    ∷ first_failing (before_pendings b) (λ p. has_chunk cs p.id) b.pendings
    ∷ first_failing (before_publications b) (λ m. list_all (has_chunk cs) m.adds) b.publications
    ∷ first_failing (before_publications b) (λ m. list_all (has_chunk cs) m.empties) b.publications
    ∷ [])
