-- The count of all rows of a book: table after table, in the order of its fields, from 0 on. Each is how many rows stand before a table.
use Rattle.std.specs.Prelude.{◌+◌, length, ℕ}
use Rattle.book_rows.specs.declared.rows.Book.{Book}

abbrev pub before_tasks : ℕ
before_tasks = 0

abbrev pub before_posses : Book → ℕ
before_posses b = before_tasks + length b.tasks

abbrev pub before_chunks : Book → ℕ
before_chunks b = before_posses b + length b.posses

abbrev pub before_segments : Book → ℕ
before_segments b = before_chunks b + length b.chunks

abbrev pub before_pendings : Book → ℕ
before_pendings b = before_segments b + length b.segments

abbrev pub before_upgrades : Book → ℕ
before_upgrades b = before_pendings b + length b.pendings

abbrev pub before_publications : Book → ℕ
before_publications b = before_upgrades b + length b.upgrades

abbrev pub before_offsets : Book → ℕ
before_offsets b = before_publications b + length b.publications

abbrev pub before_supervisors : Book → ℕ
before_supervisors b = before_offsets b + length b.offsets

abbrev pub before_sequences : Book → ℕ
before_sequences b = before_supervisors b + length b.supervisors
