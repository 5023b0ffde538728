-- The commands that neither publish nor drop nor reset leave publications and stored offsets; so do tasks that fail.
use Rattle.std.proofs.Common.{◌≡◌, List, None, Option, ℕ, refl}
use Rattle.book_rows.specs.TaskSteps.{all_failed}
use Rattle.book_rows.specs.declared.rows.Book.{Book}
use Rattle.laws_offsets.specs.Effects.{AreUntouched, OthersLeaveOffsets}
use Rattle.laws_offsets.proofs.Others.{Fact, IsKeptBy, all_failed_keep, new_source, others_keep}

-- publications and offsets are those of the book
abbrev of_book : Book → Fact
of_book b ms os ts ss = (ms ≡ b.publications) × (os ≡ b.offsets)

-- they are, whatever becomes of tasks and supervisors
always : (b : Book) (new : Option (List ℕ)) → IsKeptBy (of_book b) new
always b new = record {
  status = λ task status ms os ts ss h. h;
  submitted = λ t ms os ts ss is h. h;
  supervised = λ s ms os ts ss is h. h;
  opened = λ rows ms os ts ss are h. h;
}

pub all_failed_leave : (tasks : List (List ℕ)) (b : Book) → AreUntouched b (all_failed tasks b)
all_failed_leave tasks b = let w = all_failed_keep (of_book b) None (always b None) tasks b (refl, refl) in record { publications = w.0; offsets = w.1 }

pub others_leave_offsets : OthersLeaveOffsets
others_leave_offsets b c is = let w = others_keep (of_book b) b c (always b (new_source c)) is (refl, refl) in record { publications = w.0; offsets = w.1 }
