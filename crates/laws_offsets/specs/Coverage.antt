-- Each offset of a partition up to the stored one was published exactly once since the stream's last reset.
use Rattle.std.specs.Prelude.{◌&&◌, ◌++◌, ◌<◌, ◌∷◌, ◌≡◌, ◌≤◌, Bool, List, None, Option, Some, [], bytes_eq, cond, false, is_some, nat_le, nat_lt, not, true, ℕ}
use Rattle.std.specs.List.{list_all}
use Rattle.book_rows.specs.Answer.{book_after, empty_book}
use Rattle.book_rows.specs.Form.{keeps_form}
use Rattle.book_rows.specs.Lists.{count, gathered}
use Rattle.book_rows.specs.Offsets.{stored}
use Rattle.book_rows.specs.Tiles.{Run, as_list, is_reset, part_at, run_of, start_in}
use Rattle.book_rows.specs.declared.commands.Command.{Command}
use Rattle.book_rows.specs.declared.rows.Book.{Book}
use Rattle.book_rows.specs.declared.rows.Publication.{Publication}
use Rattle.book_rows.specs.declared.rows.Range.{Range}
use Rattle.book_rows.specs.declared.rows.Ranges.{Ranges}
use Rattle.laws_offsets.specs.Tiling.{Tiles}

-- ---- covered once

-- from the range's start up to its end, the end excluded
abbrev pub lies_in : ℕ → Range → Bool
lies_in at r = nat_le r.start at && nat_lt at r.end

abbrev pub position_by : Option ℕ → List Range → Option ℕ
position_by (Some z) rs = Some z
position_by None [] = None
position_by None (r ∷ rs) = Some r.start

-- where a partition begins: at the offset that the reset lists, or else at the start of the first range
abbrev pub position : Run → Option ℕ
position run = position_by run.from run.ranges

-- in how many of the ranges the offset lies
abbrev pub times : ℕ → Run → ℕ
times at run = count (lies_in at) run.ranges

-- an offset from the position up to the last one, which is excluded, lies in exactly one range, and any other in none; there is a
-- position where there is a last one, and only there
pub record CoversOnce (run : Run) (end : Option ℕ) : Type 0 where
  pub once : (first last at : ℕ) → position run ≡ Some first → end ≡ Some last → first ≤ at → at < last → times at run ≡ 1
  pub none_below : (first at : ℕ) → position run ≡ Some first → at < first → times at run ≡ 0
  pub none_from : (last at : ℕ) → end ≡ Some last → last ≤ at → times at run ≡ 0
  pub both : is_some (position run) ≡ is_some end

-- of each source, stream and partition, up to the stored offset
abbrev pub AreReadOnce : Book → Type 0
AreReadOnce b = (source stream : List ℕ) (partition : ℕ) → CoversOnce (run_of source stream partition b.publications) (stored b.offsets source stream partition)

abbrev pub TiledAreReadOnce : Type 0
TiledAreReadOnce = (b : Book) → Tiles b → AreReadOnce b

-- in the book that any commands that keep their form lead to from the empty one
abbrev pub ReachedAreReadOnce : Type 0
ReachedAreReadOnce = (cs : List Command) → list_all keeps_form cs ≡ true → AreReadOnce (book_after empty_book cs)

-- ---- which ranges these are: those of the stream's publications after its last reset

abbrev pub is_on : List ℕ → Option Ranges → Bool
is_on stream None = false
is_on stream (Some ranges) = bytes_eq ranges.stream stream

abbrev pub is_of : List ℕ → List ℕ → Publication → Bool
is_of source stream m = bytes_eq m.source source && is_on stream m.ranges

abbrev pub resets : List ℕ → List ℕ → Publication → Bool
resets source stream m = is_of source stream m && is_reset m.kind

abbrev pub part_in : ℕ → Option Ranges → Option Range
part_in partition None = None
part_in partition (Some ranges) = part_at partition ranges.parts

-- the partition's range in the publication, if that is of the stream and has one
abbrev pub range_of : List ℕ → List ℕ → ℕ → Publication → List Range
range_of source stream partition m = cond (is_of source stream m) (as_list (part_in partition m.ranges)) []

-- where no publication resets the stream, the run has all ranges of the partition, and begins at the first
abbrev pub RunWithoutReset : Type 0
RunWithoutReset = (source stream : List ℕ) (partition : ℕ) (ms : List Publication) → list_all (λ m. not (resets source stream m)) ms ≡ true
    → run_of source stream partition ms ≡ record { from = None; ranges = gathered (range_of source stream partition) ms }

-- after the last one that does, it has the ranges since, and begins where the reset says, if it lists the partition
abbrev pub RunSinceReset : Type 0
RunSinceReset = (source stream : List ℕ) (partition : ℕ) (ms : List Publication) (m : Publication) (since : List Publication) → resets source stream m ≡ true → list_all (λ n. not (resets source stream n)) since ≡ true
    → run_of source stream partition (ms ++ m ∷ since) ≡ record { from = start_in (part_in partition m.ranges); ranges = gathered (range_of source stream partition) since }
