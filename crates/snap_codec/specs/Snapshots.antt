-- The book of a snapshot.
use Rattle.std.specs.Prelude.{◌≡◌, ◌-◌, ⊤, ℕ, List, length, Result, Ok, Err, if◌then◌else◌}
use Rattle.book_rows.specs.Lists.{on_ok, is_empty}
use Rattle.book_rows.specs.declared.rows.Book.{Book}
use Rattle.snap_codec.specs.Rows.{book_field}
use Rattle.snap_codec.specs.Fits.{IsSpelled}
use Rattle.snap_codec.specs.Readers.{Reader}
use Rattle.snap_codec.specs.Grammar.{book_at}
use Rattle.snap_codec.specs.declared.fault.SnapFault.{SnapFault}
use Rattle.snap_codec.specs.declared.fault.SnapFault.TheVariants.{BadSnapshot, OutOfMemory}

-- a value to the end of the bytes, or how many are left from where they don't read
unfoldable pub whole : {A : Type 0} → Reader A → List ℕ → Result A ℕ
whole read bytes = on_ok (read bytes) (λ a. if is_empty a.1 then Ok a.0 else Err (length a.1))

abbrev pub placed : {A : Type 0} → ℕ → Result A ℕ → Result A ℕ
placed count (Ok a) = Ok a
placed count (Err left) = Err (count - left)

-- The book of a snapshot. Else the place of the first field that doesn't read, or of the first byte after the book.
abbrev pub book_of : List ℕ → Result Book ℕ
book_of bytes = placed (length bytes) (whole book_at bytes)

-- no book has these bytes
abbrev pub IsNoSnapshot : List ℕ → Type 0
IsNoSnapshot bytes = (b : Book) → IsSpelled b → bytes ≡ book_field b → ⊥

-- What bytes read as: the book that they are the bytes of, or the place at which they don't read.
abbrev pub ReadsSnapshot : List ℕ → Result Book SnapFault → Type 0
ReadsSnapshot bytes (Ok b) = (book_of bytes ≡ Ok b) × (bytes ≡ book_field b) × IsSpelled b
ReadsSnapshot bytes (Err (BadSnapshot at)) = (book_of bytes ≡ Err at) × IsNoSnapshot bytes
ReadsSnapshot bytes (Err OutOfMemory) = ⊤

-- What was written of a book: its bytes, which read as the book.
pub record WritesBook (b : Book) (bytes : List ℕ) : Type 0 where
  pub bytes_are : bytes ≡ book_field b
  pub is_spelled : IsSpelled b
  pub reads : book_of bytes ≡ Ok b
