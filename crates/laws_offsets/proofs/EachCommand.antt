-- What holds after any command, by what it makes of the publications and of the stored offsets.
use Rattle.std.proofs.Common.{◌≡◌, ℕ, true, List, Some, refl, sym, subst, inl, inr}
use Rattle.std.proofs.lemmas.Bool.{cases_Bool}
use Rattle.iv_span.specs.Extent.{Extent}
use Rattle.book_rows.specs.Answer.{changes, next}
use Rattle.book_rows.specs.declared.commands.Command.{Command}
use Rattle.book_rows.specs.declared.commands.Command.TheVariants as Commands
use Rattle.book_rows.specs.declared.rows.Book.{Book}
use Rattle.book_rows.specs.declared.rows.Offset.{Offset}
use Rattle.book_rows.proofs.StepLaws.{stays_where_unchanged}
use Rattle.laws_offsets.specs.Effects.{AreUntouched, IsDropped, IsPublished, IsReset, TaskRanges, publish_of}
use Rattle.laws_offsets.proofs.Publishes.{publish_goes_on}
use Rattle.laws_offsets.proofs.ResetAndDrop.{drop_leaves_offsets, reset_replaces}
use Rattle.laws_offsets.proofs.Untouched.{others_leave_offsets}

-- a fact of the book before that each kind of change keeps
pub record IsKept (P : Book → Type 0) (b : Book) (c : Command) : Type 0 where
  pub published : (p : TaskRanges) → publish_of c ≡ Some p → IsPublished b (next b c) p → P (next b c)
  pub dropped : (source : List ℕ) (span : Extent) → IsDropped b (next b c) source span → P (next b c)
  pub reset : (source stream : List ℕ) (offsets : List Offset) → c ≡ Commands.Reset source stream offsets → IsReset b (next b c) source stream offsets → P (next b c)
  pub others : AreUntouched b (next b c) → P (next b c)

module _ (P : Book → Type 0) (b : Book) where
  -- a command that changes nothing leaves the book
  pub unless_changed : (c : Command) → P b → (changes b c ≡ true → P (next b c)) → P (next b c)
  unless_changed c h f = elim (cases_Bool (changes b c)) [
    | inl on ↦ f on
    | inr off ↦ subst P (sym (stays_where_unchanged b c off)) h
  ]

  by_publish : (c : Command) (p : TaskRanges) → publish_of c ≡ Some p → P b → IsKept P b c → P (next b c)
  by_publish c p of h kept = unless_changed c h (λ on. kept.published p of (publish_goes_on b c p of on))

  pub each_command : (c : Command) → P b → IsKept P b c → P (next b c)
  each_command (Commands.Append task ids ranges) h kept = by_publish (Commands.Append task ids ranges) (record { task = task; ranges = ranges }) refl h kept
  each_command (Commands.Insert task spans ids tombstones ranges) h kept = by_publish (Commands.Insert task spans ids tombstones ranges) (record { task = task; ranges = ranges }) refl h kept
  each_command (Commands.Replace task spans ids tombstones ranges) h kept = by_publish (Commands.Replace task spans ids tombstones ranges) (record { task = task; ranges = ranges }) refl h kept
  each_command (Commands.Drop source span) h kept = unless_changed (Commands.Drop source span) h (λ on. kept.dropped source span (drop_leaves_offsets b source span on))
  each_command (Commands.Reset source stream offsets) h kept = unless_changed (Commands.Reset source stream offsets) h (λ on. kept.reset source stream offsets refl (reset_replaces b source stream offsets on))
  each_command (Commands.Submit task group source kind priority locks) h kept = kept.others (others_leave_offsets b (Commands.Submit task group source kind priority locks) refl)
  each_command (Commands.Manage now) h kept = kept.others (others_leave_offsets b (Commands.Manage now) refl)
  each_command (Commands.Lock task lock_kind span now) h kept = kept.others (others_leave_offsets b (Commands.Lock task lock_kind span now) refl)
  each_command (Commands.Unlock task lock) h kept = kept.others (others_leave_offsets b (Commands.Unlock task lock) refl)
  each_command (Commands.Allocate task lock_kind sequence previous at granularity now) h kept = kept.others (others_leave_offsets b (Commands.Allocate task lock_kind sequence previous at granularity now) refl)
  each_command (Commands.End task status) h kept = kept.others (others_leave_offsets b (Commands.End task status) refl)
  each_command (Commands.Supervise source stream partitions task_count replicas task_duration completion_timeout) h kept =
      kept.others (others_leave_offsets b (Commands.Supervise source stream partitions task_count replicas task_duration completion_timeout) refl)
  each_command (Commands.Tick now) h kept = kept.others (others_leave_offsets b (Commands.Tick now) refl)
  each_command (Commands.Paused task offsets) h kept = kept.others (others_leave_offsets b (Commands.Paused task offsets) refl)
  each_command (Commands.Checkpoint task offsets) h kept = kept.others (others_leave_offsets b (Commands.Checkpoint task offsets) refl)
  each_command (Commands.ToReplace task span) h kept = kept.others (others_leave_offsets b (Commands.ToReplace task span) refl)
  each_command (Commands.Show what) h kept = kept.others (others_leave_offsets b (Commands.Show what) refl)
