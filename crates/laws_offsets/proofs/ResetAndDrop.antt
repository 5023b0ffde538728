-- A reset that changes the book stores its offsets in place of those of the stream; a drop leaves them.
use Rattle.std.proofs.Common.{◌≡◌, ℕ, Bool, true, false, cond, List, [], ◌∷◌, map, length, refl, inl, inr}
use Rattle.iv_span.specs.Extent.{Extent}
use Rattle.book_rows.specs.Outcome.{Outcome, fitted, repeated}
use Rattle.book_rows.specs.PublishSteps.{after_reset, dropped, offsets_reset, reads_stream, reset_step, sequences_dropped}
use Rattle.book_rows.specs.Rewrite.{after_drop, drop_fault}
use Rattle.book_rows.specs.Sequences.{dropped_sequence, supervisor_of, tasks_dropped}
use Rattle.book_rows.specs.declared.kinds.Table.TheVariants as Tables
use Rattle.book_rows.specs.declared.replies.Reply.{Reply}
use Rattle.book_rows.specs.declared.replies.Reply.TheVariants as Replies
use Rattle.book_rows.specs.declared.rows.Book.{Book}
use Rattle.book_rows.specs.declared.rows.Offset.{Offset}
use Rattle.laws_offsets.specs.Effects.{AreUntouched, DropLeavesOffsets, IsDropped, IsReset, ResetReplaces}
use Rattle.laws_offsets.proofs.Outcomes.{fitted_is, has_room, unless_is}
use Rattle.laws_offsets.proofs.Untouched.{all_failed_leave}

-- the sequences of the source fail, or stay
sequences_leave : (reads : Bool) (source : List ℕ) (b : Book) → AreUntouched b (cond reads (sequences_dropped source b) b)
sequences_leave true source b =
    let w = all_failed_leave (tasks_dropped source b.sequences) (record b { sequences = map (dropped_sequence source) b.sequences }) in
    record { publications = w.publications; offsets = w.offsets }
sequences_leave false source b = record { publications = refl; offsets = refl }

module _ (b : Book) (source stream : List ℕ) (offsets : List Offset) where
  abbrev Resets : Outcome → Type 0
  Resets o = o.changes ≡ true → IsReset b o.book source stream offsets

  reset_still : (r : Reply) → Resets (repeated b r)
  reset_still r e = cc

  reset_goes : Resets (reset_step b source stream offsets)
  reset_goes =
      let reads = reads_stream (supervisor_of source b.supervisors) stream in
      let w = sequences_leave reads source (offsets_reset source stream offsets b) in
      fitted_is b Resets reset_still (Tables.Publications ∷ Tables.Offsets ∷ []) (after_reset source stream offsets b) (Replies.Reset (length b.publications)) (λ room e. record {
        stored = w.offsets;
        room = has_room Tables.Offsets (Tables.Publications ∷ Tables.Offsets ∷ []) (after_reset source stream offsets b) room (inr (inl refl));
        publications = w.publications;
      })

pub reset_replaces : ResetReplaces
reset_replaces b source stream offsets changed = reset_goes b source stream offsets changed

module _ (b : Book) (source : List ℕ) (span : Extent) where
  abbrev Drops : Outcome → Type 0
  Drops o = o.changes ≡ true → IsDropped b o.book source span

  drop_still : (r : Reply) → Drops (repeated b r)
  drop_still r e = cc

  drop_goes : Drops (dropped b source span)
  drop_goes =
      let after : Book = after_drop source span b in
      let reply : Reply = Replies.Drop (length b.publications) in
      unless_is b Drops drop_still (drop_fault b.posses b.segments source span) (fitted (Tables.Publications ∷ []) b after reply)
      (λ none. fitted_is b Drops drop_still (Tables.Publications ∷ []) after reply (λ room e. record { offsets = refl; publications = refl; tasks = refl; supervisors = refl }))

pub drop_leaves_offsets : DropLeavesOffsets
drop_leaves_offsets b source span changed = drop_goes b source span changed
