-- A reset comes to what the rules say.
use Rattle.std.proofs.Common.{◌≡◌, ◌∙◌, ◌∷◌, Bool, Err, IfOk, List, None, Ok, OnOk, Option, Result, Some, [], ap, cond, false, length, map, nat_lt, refl, subst, sym, true, ℕ}
use Rattle.std.proofs.lemmas.List.{length_push}
use Rattle.book_rows.specs.Offsets.{reset_to}
use Rattle.book_rows.specs.Outcome.{changed, fitted_by, no_room, row_limit}
use Rattle.book_rows.specs.Publications.{reset_publication}
use Rattle.book_rows.specs.PublishSteps.{after_reset, offsets_reset, reads_stream, reset_step, sequences_dropped}
use Rattle.book_rows.specs.Sequences.{dropped_sequence, supervisor_of, tasks_dropped}
use Rattle.book_rows.specs.TaskSteps.{all_failed}
use Rattle.book_rows.specs.declared.kinds.Table.{Table}
use Rattle.book_rows.specs.declared.kinds.Table.TheVariants as Tables
use Rattle.book_rows.specs.declared.replies.Refusal.TheVariants as Refusals
use Rattle.book_rows.specs.declared.replies.Reply.TheVariants as Replies
use Rattle.book_rows.specs.declared.rows.Book.{Book}
use Rattle.book_rows.specs.declared.rows.Offset.{Offset}
use Rattle.book_rows.specs.declared.rows.OffsetRow.{OffsetRow}
use Rattle.book_rows.specs.declared.rows.Publication.{Publication}
use Rattle.laws_offsets.specs.Effects.{AreUntouched}
use Rattle.laws_offsets.proofs.Untouched.{all_failed_leave}
use Rattle.stream_offsets.specs.Room.{no_room_for_reset}
use Rattle.book_core.specs.Done.{IsDone}
use Rattle.book_core.specs.declared.outcomes.Outcome.{Outcome}

-- ---- sequences

-- those of the source are abandoned where the stream is read, and their replicas fail
pub dropped_by : (reads : Bool) (source : List ℕ) (b : Book)
    → all_failed (cond reads (tasks_dropped source b.sequences) []) (record b { sequences = cond reads (map (dropped_sequence source) b.sequences) b.sequences }) ≡ cond reads (sequences_dropped source b) b
dropped_by true source b = refl
dropped_by false source b = refl

-- that leaves publications and stored offsets
dropped_leaves : (reads : Bool) (source : List ℕ) (b : Book) → AreUntouched b (cond reads (sequences_dropped source b) b)
dropped_leaves true source b =
    let left = all_failed_leave (tasks_dropped source b.sequences) (record b { sequences = map (dropped_sequence source) b.sequences }) in
    record { publications = left.publications; offsets = left.offsets }
dropped_leaves false source b = record { publications = refl; offsets = refl }

-- ---- the outcome

module _ (source stream : List ℕ) (os : List Offset) (b : Book) where
  abbrev whole : Book
  whole = offsets_reset source stream os b

  abbrev filled : List Table
  filled = Tables.Publications ∷ Tables.Offsets ∷ []

  abbrev offsets_after : ℕ
  offsets_after = length (reset_to b.offsets source stream os)

  abbrev room_by : ℕ → ℕ → Option Table
  room_by publications offsets = cond (nat_lt row_limit publications) (Some Tables.Publications) (cond (nat_lt row_limit offsets) (Some Tables.Offsets) None)

  room_is : no_room filled (after_reset source stream os b) ≡ no_room_for_reset (length b.publications) offsets_after
  room_is =
      let left = dropped_leaves (reads_stream (supervisor_of source b.supervisors) stream) source whole in
      ap (λ (rows : List OffsetRow). room_by (length (after_reset source stream os b).publications) (length rows)) left.offsets
      ∙ ap (λ (ms : List Publication). room_by (length ms) offsets_after) left.publications
      ∙ ap (λ n. room_by n offsets_after) (length_push b.publications (reset_publication source stream os))

  abbrev outcome_by : Option Table → Outcome → Book → Type 0
  outcome_by full done after = IsDone done after (fitted_by full b (changed (after_reset source stream os b) (Replies.Reset (length b.publications))))

  pub refused_done : (table : Table) (done : Outcome) → Some table ≡ no_room_for_reset (length b.publications) offsets_after → done ≡ record { reply = Replies.Refused (Refusals.TableFull table); changes = false }
      → IsDone done b (reset_step b source stream os)
  refused_done table done full is =
      subst (λ r. outcome_by r done b) (full ∙ sym room_is) (record { reply = ap (λ (x : Outcome). x.reply) is; changes = ap (λ (x : Outcome). x.changes) is; book = refl })

  pub reset_done : {E : Type 0} (result : Result Outcome E) (after : Book) → None ≡ no_room_for_reset (length b.publications) offsets_after
      → IfOk result (λ o. o ≡ record { reply = Replies.Reset (length b.publications); changes = true }) → OnOk result (after ≡ after_reset source stream os b) → IfOk result (λ o. IsDone o after (reset_step b source stream os))
  reset_done (Err e) after fits is left = tt
  reset_done (Ok o) after fits is left =
      subst (λ r. outcome_by r o after) (fits ∙ sym room_is) (record { reply = ap (λ (x : Outcome). x.reply) is; changes = ap (λ (x : Outcome). x.changes) is; book = left })
