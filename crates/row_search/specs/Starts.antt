-- How many rows of a book stand before each table, as the code keeps it.
use Rattle.std.specs.Prelude.{◌+◌, ◌<◌, ◌^◌, ◌≡◌, length}
use Rattle.book_rows.specs.declared.rows.Book.{Book}
use Rattle.laws_unsound.specs.Counts.{before_chunks, before_offsets, before_pendings, before_posses, before_publications, before_segments, before_sequences, before_supervisors, before_upgrades}
use Rattle.row_search.specs.declared.starts.Starts.{Starts}

-- the starts are the book's, and each row's place is a number of 64 bits
pub record IsCounted (b : Book) (s : Starts) : Type 0 where
  pub at_posses : s.posses ≡ before_posses b
  pub at_chunks : s.chunks ≡ before_chunks b
  pub at_segments : s.segments ≡ before_segments b
  pub at_pendings : s.pendings ≡ before_pendings b
  pub at_upgrades : s.upgrades ≡ before_upgrades b
  pub at_publications : s.publications ≡ before_publications b
  pub at_offsets : s.offsets ≡ before_offsets b
  pub at_supervisors : s.supervisors ≡ before_supervisors b
  pub at_sequences : s.sequences ≡ before_sequences b
  pub tasks : length b.tasks < 2 ^ 64
  pub posses : s.posses + length b.posses < 2 ^ 64
  pub chunks : s.chunks + length b.chunks < 2 ^ 64
  pub segments : s.segments + length b.segments < 2 ^ 64
  pub pendings : s.pendings + length b.pendings < 2 ^ 64
  pub upgrades : s.upgrades + length b.upgrades < 2 ^ 64
  pub publications : s.publications + length b.publications < 2 ^ 64
  pub offsets : s.offsets + length b.offsets < 2 ^ 64
  pub supervisors : s.supervisors + length b.supervisors < 2 ^ 64
  pub sequences : s.sequences + length b.sequences < 2 ^ 64
