-- What is stored of a partition after a command.
use Rattle.std.specs.Prelude.{◌&&◌, ◌==◌, ◌∷◌, ◌≡◌, List, None, Option, Some, [], bytes_eq, cond, true, ℕ}
use Rattle.book_rows.specs.Answer.{changes, next}
use Rattle.book_rows.specs.Form.{KeepsForm}
use Rattle.book_rows.specs.Lists.{or_else}
use Rattle.book_rows.specs.Offsets.{stored}
use Rattle.book_rows.specs.Outcome.{task_of}
use Rattle.book_rows.specs.Tiles.{part_at}
use Rattle.book_rows.specs.declared.commands.Command.{Command}
use Rattle.book_rows.specs.declared.rows.Book.{Book}
use Rattle.book_rows.specs.declared.rows.Offset.{Offset}
use Rattle.book_rows.specs.declared.rows.Range.{Range}
use Rattle.book_rows.specs.declared.rows.Ranges.{Ranges}
use Rattle.book_rows.specs.declared.rows.TaskRow.{TaskRow}
use Rattle.book_rows.specs.declared.commands.Command.TheVariants as Commands
use Rattle.laws_offsets.specs.Effects.{TaskRanges, publish_of}

-- the offset that a list has for a partition
abbrev pub listed : ℕ → List Offset → Option ℕ
listed partition [] = None
listed partition (o ∷ os) = cond (o.partition == partition) (Some o.offset) (listed partition os)

abbrev pub end_in : Option Range → Option ℕ
end_in None = None
end_in (Some r) = Some r.end

-- of the stream that is published to, the end of the partition's range, where it has one; all else is as before
abbrev pub PublishStoresEnds : Type 0
PublishStoresEnds = (b : Book) (c : Command) (p : TaskRanges) (ranges : Ranges) (t : TaskRow) → KeepsForm c → publish_of c ≡ Some p → p.ranges ≡ Some ranges → task_of p.task b.tasks ≡ Some t → changes b c ≡ true
    → (source stream : List ℕ) (partition : ℕ) → stored (next b c).offsets source stream partition
    ≡ cond (bytes_eq t.source source && bytes_eq ranges.stream stream) (or_else (end_in (part_at partition ranges.parts)) (stored b.offsets source stream partition)) (stored b.offsets source stream partition)

-- of the stream that is reset, what the reset lists, and nothing else; other streams are as before
abbrev pub ResetStoresListed : Type 0
ResetStoresListed = (b : Book) (s t : List ℕ) (offsets : List Offset) → KeepsForm (Commands.Reset s t offsets) → changes b (Commands.Reset s t offsets) ≡ true
    → (source stream : List ℕ) (partition : ℕ) → stored (next b (Commands.Reset s t offsets)).offsets source stream partition
    ≡ cond (bytes_eq s source && bytes_eq t stream) (listed partition offsets) (stored b.offsets source stream partition)
