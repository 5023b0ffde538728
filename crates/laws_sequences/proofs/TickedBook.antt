-- A step of the clock keeps supervisors, sequences and their tasks in line.
use Rattle.std.proofs.Common.{◌≡◌, ℕ, ℤ, false, List, [], ◌∷◌, ◌++◌, None, refl, length, nat_lt}
use Rattle.book_rows.specs.Outcome.{is_full, no_room, row_limit}
use Rattle.book_rows.specs.SupSteps.{after_tick}
use Rattle.book_rows.specs.TaskSteps.{all_failed}
use Rattle.book_rows.specs.Ticks.{Ticking, ticked}
use Rattle.book_rows.specs.declared.kinds.Table.TheVariants as Tables
use Rattle.book_rows.specs.declared.rows.Book.{Book}
use Rattle.laws_locks.proofs.Rooms.{has_room}
use Rattle.laws_sequences.specs.Links.{AreInLine, HasLinks}
use Rattle.laws_sequences.proofs.Lines.{all_failed_keeps, line_failed_followed}
use Rattle.laws_sequences.proofs.TickWalk.{Walk, walk_ticked}
use Rattle.laws_sequences.proofs.TickedRows.{linked_ticked}

-- the sequences after the tick, and the tasks with those that it adds
module _ (b : Book) (now : ℤ) (h : HasLinks b) where
  walked : Walk b.tasks b.publications b.sequences b.supervisors 0 (ticked b.offsets now b.supervisors b.sequences)
  walked = walk_ticked b.offsets now b.tasks b.publications b.sequences b.supervisors h.supervisors h.supervised.room h.replicas h.linked.counted h.supervised.each

  line_ticked : nat_lt row_limit (length (ticked b.offsets now b.supervisors b.sequences).rows) ≡ false → AreInLine (b.tasks ++ (ticked b.offsets now b.supervisors b.sequences).told.submitted) b.publications b.offsets b.supervisors (ticked b.offsets now b.supervisors b.sequences).rows
  line_ticked room = record {
    supervisors = h.supervisors;
    supervised = record { room = room; each = walked.supervised };
    linked = linked_ticked b.offsets b.supervisors h.supervisors.sources now b.sequences h.linked;
    replicas = walked.replicas;
    published = walked.published h.published;
  }

  -- tasks that fail change no sequence
  sequences_stay : (tasks : List (List ℕ)) (c : Book) → (all_failed tasks c).sequences ≡ c.sequences
  sequences_stay tasks c = all_failed_keeps (λ d. d.sequences ≡ c.sequences) (λ n task d e. e) (λ task d e. e) tasks c refl

  followed_room : (k : Ticking) → no_room (Tables.Tasks ∷ Tables.Sequences ∷ []) (after_tick k now b) ≡ None → nat_lt row_limit (length k.rows) ≡ false
  followed_room k e =
      let after : Book = after_tick k now b in
      let rest = (has_room (is_full Tables.Tasks after) Tables.Tasks (no_room (Tables.Sequences ∷ []) after) e).1 in
      rw (sequences_stay k.told.ended (record b { clock = now; sequences = k.rows })) at (has_room (is_full Tables.Sequences after) Tables.Sequences (no_room [] after) rest).0

  pub tick_in_line : no_room (Tables.Tasks ∷ Tables.Sequences ∷ []) (after_tick (ticked b.offsets now b.supervisors b.sequences) now b) ≡ None → HasLinks (after_tick (ticked b.offsets now b.supervisors b.sequences) now b)
  tick_in_line room =
      let k : Ticking = ticked b.offsets now b.supervisors b.sequences in
      line_failed_followed k.told.submitted k.told.ended (record b { clock = now; sequences = k.rows }) (line_ticked (followed_room k room))
