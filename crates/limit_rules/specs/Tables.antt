-- The least row outside a limit, over a part of the tables.
use Rattle.std.specs.Prelude.{◌∷◌, Option, [], ℕ}
use Rattle.book_rows.specs.Shape.{fits_kind, fits_state, is_chunk_row, is_offset_row, is_pending_row, is_posse_row, is_publication_row, is_segment_row, is_sequence_row, is_supervisor_row, is_task_row, is_upgrade_row}
use Rattle.book_rows.specs.declared.rows.Book.{Book}
use Rattle.laws_unsound.specs.Counts.{before_chunks, before_offsets, before_pendings, before_posses, before_publications, before_segments, before_sequences, before_supervisors, before_tasks, before_upgrades}
use Rattle.laws_unsound.specs.Rows.{first_failing, least, lesser}

-- streams, and what publications' kinds and sequences' states exclude
abbrev pub stream_limits : Book → Option ℕ
stream_limits b = least
    (first_failing (before_offsets b) is_offset_row b.offsets
    ∷ first_failing (before_supervisors b) is_supervisor_row b.supervisors
    ∷ first_failing (before_sequences b) is_sequence_row b.sequences
    ∷ first_failing (before_publications b) (λ m. fits_kind m.kind m) b.publications
    ∷ first_failing (before_sequences b) (λ u. fits_state u.state u) b.sequences
    ∷ [])

-- what is published and waits, and streams
abbrev pub segment_limits : Book → Option ℕ
segment_limits b =
    lesser (first_failing (before_segments b) is_segment_row b.segments)
    (lesser (first_failing (before_pendings b) is_pending_row b.pendings)
    (lesser (first_failing (before_upgrades b) is_upgrade_row b.upgrades)
    (lesser (first_failing (before_publications b) is_publication_row b.publications) (stream_limits b))))

-- all tables
abbrev pub table_limits : Book → Option ℕ
table_limits b =
    lesser (first_failing before_tasks is_task_row b.tasks)
    (lesser (first_failing (before_posses b) is_posse_row b.posses)
    (lesser (first_failing (before_chunks b) is_chunk_row b.chunks) (segment_limits b)))
