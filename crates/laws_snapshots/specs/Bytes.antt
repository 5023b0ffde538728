-- Books that can be kept as snapshots.
use Rattle.std.specs.Prelude.{◌≡◌, List, Ok}
use Rattle.std.specs.List.{AllByRecursion}
use Rattle.book_rows.specs.Answer.{next, reached}
use Rattle.book_rows.specs.Form.{AllKeepForm, KeepsForm}
use Rattle.book_rows.specs.Sound.{Sound}
use Rattle.book_rows.specs.declared.commands.Command.{Command}
use Rattle.book_rows.specs.declared.rows.Book.{Book}
use Rattle.book_rows.specs.declared.rows.ChunkRow.{ChunkRow}
use Rattle.snap_codec.specs.Fits.{FitsShort, IsSpelled}
use Rattle.snap_codec.specs.Rows.{book_field}
use Rattle.snap_codec.specs.Snapshots.{book_of}

-- the core of each chunk fits its field
abbrev pub HaveShortCores : List ChunkRow → Type 0
HaveShortCores = AllByRecursion (λ c. FitsShort c.core)

-- of a sound book the cores alone are in question
abbrev pub SoundBooksHaveBytes : Type 0
SoundBooksHaveBytes = (b : Book) → Sound b → HaveShortCores b.chunks → IsSpelled b

-- whichever the command
abbrev pub EveryCommandKeepsBytes : Type 0
EveryCommandKeepsBytes = (b : Book) (c : Command) → KeepsForm c → Sound b → IsSpelled b → IsSpelled (next b c)

-- so from the empty book on
abbrev pub ReachedBooksHaveBytes : Type 0
ReachedBooksHaveBytes = (cs : List Command) → AllKeepForm cs → IsSpelled (reached cs)

abbrev pub ReachedBooksReadAgain : Type 0
ReachedBooksReadAgain = (cs : List Command) → AllKeepForm cs → book_of (book_field (reached cs)) ≡ Ok (reached cs)
