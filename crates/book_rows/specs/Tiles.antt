-- The ranges of the publications tile each partition up to its stored offset.
use Rattle.std.specs.Prelude.{◌&&◌, ◌++◌, ◌==◌, ◌∷◌, ◌≡◌, Bool, List, None, Option, Some, [], bytes_eq, cond, false, find, nat_le, true, ℕ}
use Rattle.book_rows.specs.Offsets.{stored}
use Rattle.book_rows.specs.declared.kinds.PubKind.{PubKind}
use Rattle.book_rows.specs.declared.rows.OffsetRow.{OffsetRow}
use Rattle.book_rows.specs.declared.rows.Publication.{Publication}
use Rattle.book_rows.specs.declared.rows.Range.{Range}
use Rattle.book_rows.specs.declared.rows.Ranges.{Ranges}
use Rattle.book_rows.specs.declared.kinds.PubKind.TheVariants as PubKinds

abbrev pub is_reset : PubKind → Bool
is_reset PubKinds.Reset = true
is_reset _ = false

abbrev pub part_at : ℕ → List Range → Option Range
part_at partition parts = find (λ r. r.partition == partition) parts

abbrev pub as_list : Option Range → List Range
as_list None = []
as_list (Some r) = r ∷ []

abbrev pub start_in : Option Range → Option ℕ
start_in None = None
start_in (Some r) = Some r.start

-- the offset that the stream's last reset lists for the partition, and the partition's ranges after it
pub record Run : Type 0 where
  pub from : Option ℕ
  pub ranges : List Range

abbrev pub run_by : Bool → ℕ → List Range → Run → Run
run_by true partition parts run = record { from = start_in (part_at partition parts); ranges = [] }
run_by false partition parts run = record { from = run.from; ranges = run.ranges ++ as_list (part_at partition parts) }

abbrev pub run_on : List ℕ → ℕ → PubKind → Option Ranges → Run → Run
run_on stream partition kind None run = run
run_on stream partition kind (Some ranges) run = cond (bytes_eq ranges.stream stream) (run_by (is_reset kind) partition ranges.parts run) run

abbrev pub run_after : List ℕ → List ℕ → ℕ → Publication → Run → Run
run_after source stream partition m run = cond (bytes_eq m.source source) (run_on stream partition m.kind m.ranges run) run

abbrev pub run_from : List ℕ → List ℕ → ℕ → Run → List Publication → Run
run_from source stream partition run [] = run
run_from source stream partition run (m ∷ ms) = run_from source stream partition (run_after source stream partition m run) ms

abbrev pub no_run : Run
no_run = record { from = None; ranges = [] }

abbrev pub run_of : List ℕ → List ℕ → ℕ → List Publication → Run
run_of source stream partition ms = run_from source stream partition no_run ms

-- a range that starts here goes on from this offset, or from none
abbrev pub goes_on : Option ℕ → ℕ → Bool
goes_on None start = true
goes_on (Some z) start = z == start

-- where ranges end that go on from one another: nothing where they don't
abbrev pub ends_with : Option ℕ → List Range → Option (Option ℕ)
ends_with z [] = Some z
ends_with z (r ∷ rs) = cond (nat_le r.start r.end && goes_on z r.start) (ends_with (Some r.end) rs) None

-- each range starts where the one before it ends, the first at the reset's offset, and the last ends at the stored one
abbrev pub IsTiled : List Publication → List OffsetRow → Type 0
IsTiled ms rows = (source stream : List ℕ) (partition : ℕ) → ends_with (run_of source stream partition ms).from (run_of source stream partition ms).ranges ≡ Some (stored rows source stream partition)
