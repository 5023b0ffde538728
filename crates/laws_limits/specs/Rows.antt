-- Limits of rows. Each part reads only the tables that it names.
use Rattle.std.specs.Prelude.{◌≡◌, List, true}
use Rattle.std.specs.List.{list_all}
use Rattle.book_rows.specs.Answer.{next}
use Rattle.book_rows.specs.Form.{KeepsForm}
use Rattle.book_rows.specs.Shape.{fits_kind, fits_state, is_chunk_row, is_pending_row, is_publication_row, is_segment_row, is_sequence_row, is_supervisor_row, is_upgrade_row}
use Rattle.book_rows.specs.Sound.{Sound}
use Rattle.book_rows.specs.declared.commands.Command.{Command}
use Rattle.book_rows.specs.declared.rows.Book.{Book}
use Rattle.book_rows.specs.declared.rows.ChunkRow.{ChunkRow}
use Rattle.book_rows.specs.declared.rows.PendingRow.{PendingRow}
use Rattle.book_rows.specs.declared.rows.Publication.{Publication}
use Rattle.book_rows.specs.declared.rows.SegmentRow.{SegmentRow}
use Rattle.book_rows.specs.declared.rows.SequenceRow.{SequenceRow}
use Rattle.book_rows.specs.declared.rows.SupervisorRow.{SupervisorRow}
use Rattle.book_rows.specs.declared.rows.UpgradeRow.{UpgradeRow}

-- publications and supervisors are within their limits, and publications have what their kinds have
pub record ArePublicationRows (ms : List Publication) (ss : List SupervisorRow) : Type 0 where
  pub publications : list_all is_publication_row ms ≡ true
  pub kinds : list_all (λ m. fits_kind m.kind m) ms ≡ true
  pub supervisors : list_all is_supervisor_row ss ≡ true

-- a command that keeps its form leads from a sound book to one of such publications and supervisors
abbrev pub PublicationRowsStay : Type 0
PublicationRowsStay = (b : Book) (c : Command) → KeepsForm c → Sound b → ArePublicationRows (next b c).publications (next b c).supervisors

-- chunks, segments, pendings and upgrade rows are within their limits
pub record AreIdRows (cs : List ChunkRow) (rows : List SegmentRow) (ps : List PendingRow) (us : List UpgradeRow) : Type 0 where
  pub chunks : list_all is_chunk_row cs ≡ true
  pub segments : list_all is_segment_row rows ≡ true
  pub pendings : list_all is_pending_row ps ≡ true
  pub upgrades : list_all is_upgrade_row us ≡ true

abbrev pub HasIdRows : Book → Type 0
HasIdRows b = AreIdRows b.chunks b.segments b.pendings b.upgrades

abbrev pub IdRowsStay : Type 0
IdRowsStay = (b : Book) (c : Command) → KeepsForm c → Sound b → HasIdRows (next b c)

-- sequences are within their limits, and have what their states have
pub record AreSequenceRows (us : List SequenceRow) : Type 0 where
  pub sequences : list_all is_sequence_row us ≡ true
  pub states : list_all (λ u. fits_state u.state u) us ≡ true

abbrev pub SequenceRowsStay : Type 0
SequenceRowsStay = (b : Book) (c : Command) → KeepsForm c → Sound b → AreSequenceRows (next b c).sequences
