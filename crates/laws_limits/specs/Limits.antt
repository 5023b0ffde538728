-- Room and the limits of rows, all at once.
use Rattle.std.specs.Prelude.{◌≡◌, None, true}
use Rattle.std.specs.List.{list_all}
use Rattle.book_rows.specs.Answer.{next}
use Rattle.book_rows.specs.Form.{KeepsForm}
use Rattle.book_rows.specs.Outcome.{all_tables, no_room}
use Rattle.book_rows.specs.Shape.{fits_kind, fits_state, is_chunk_row, is_pending_row, is_publication_row, is_segment_row, is_sequence_row, is_supervisor_row, is_upgrade_row}
use Rattle.book_rows.specs.Sound.{Sound}
use Rattle.book_rows.specs.declared.commands.Command.{Command}
use Rattle.book_rows.specs.declared.rows.Book.{Book}

-- the part of a book's limits that is on the room of its tables, and on all rows but those of tasks, locks and offsets
pub record AreLimited (b : Book) : Type 0 where
  pub room : no_room all_tables b ≡ None
  pub chunks : list_all is_chunk_row b.chunks ≡ true
  pub segments : list_all is_segment_row b.segments ≡ true
  pub pendings : list_all is_pending_row b.pendings ≡ true
  pub upgrades : list_all is_upgrade_row b.upgrades ≡ true
  pub publications : list_all is_publication_row b.publications ≡ true
  pub supervisors : list_all is_supervisor_row b.supervisors ≡ true
  pub sequences : list_all is_sequence_row b.sequences ≡ true
  pub kinds : list_all (λ m. fits_kind m.kind m) b.publications ≡ true
  pub states : list_all (λ u. fits_state u.state u) b.sequences ≡ true

-- a command that keeps its form leads from a sound book to one within these limits
abbrev pub LimitsStay : Type 0
LimitsStay = (b : Book) (c : Command) → KeepsForm c → Sound b → AreLimited (next b c)
