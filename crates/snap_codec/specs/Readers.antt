-- Readers of fields, and how they follow one another.
use Rattle.std.specs.Prelude.{ℕ, zero, suc, Bool, true, false, List, [], ◌∷◌, length, Option, Some, None, Result, Ok, Err, ◌==◌, if◌then◌else◌}
use Rattle.std.specs.Int.{w32, w64}
use Rattle.wire_fields.specs.Fields.{byte_at, number_at}
use Rattle.book_rows.specs.Lists.{on_ok}

-- A reader gives a value and the bytes after it, or how many bytes are left from the first field on that doesn't read.
abbrev pub Reader : Type 0 → Type 0
Reader A = List ℕ → Result (A × List ℕ) ℕ

abbrev pub field_by : {A : Type 0} → List ℕ → Option (A × List ℕ) → Result (A × List ℕ) ℕ
field_by bytes (Some x) = Ok x
field_by bytes None = Err (length bytes)

-- one field: a number, or a text with its length
unfoldable pub field_at : {A : Type 0} → (List ℕ → Option (A × List ℕ)) → Reader A
field_at read bytes = field_by bytes (read bytes)

abbrev pub short_at : Reader ℕ
short_at = field_at (number_at w32)

abbrev pub long_at : Reader ℕ
long_at = field_at (number_at w64)

abbrev pub known_by : {A : Type 0} → List ℕ → List ℕ → Option A → Result (A × List ℕ) ℕ
known_by bytes rest (Some a) = Ok (a, rest)
known_by bytes rest None = Err (length bytes)

-- a value that has a code of one byte
unfoldable pub code_at : {A : Type 0} → (ℕ → Option A) → Reader A
code_at value_of bytes = on_ok (field_at byte_at bytes) (λ code. known_by bytes code.1 (value_of code.0))

-- a value that passes a test; else it doesn't read at its first byte
unfoldable pub checked_at : {A : Type 0} → (A → Bool) → Reader A → Reader A
checked_at test read bytes = on_ok (read bytes) (λ a. if test a.0 then Ok a else Err (length bytes))

abbrev pub bool_of : ℕ → Option Bool
bool_of code = if code == 0 then Some false else (if code == 1 then Some true else None)

-- a value, and one whose reader the first one chooses
unfoldable pub chosen_at : {A B : Type 0} → Reader A → (A → Reader B) → Reader (A × B)
chosen_at first second bytes = on_ok (first bytes) (λ a. on_ok (second a.0 a.1) (λ b. Ok ((a.0, b.0), b.1)))

-- two values, one after the other
abbrev pub both_at : {A B : Type 0} → Reader A → Reader B → Reader (A × B)
both_at first second = chosen_at first (λ a. second)

-- what is made of a value
unfoldable pub made_at : {A Z : Type 0} → Reader A → (A → Z) → Reader Z
made_at read make bytes = on_ok (read bytes) (λ a. Ok (make a.0, a.1))

-- so many values, one after another
unfoldable pub each_at : {A : Type 0} → Reader A → ℕ → Reader (List A)
each_at read zero bytes = Ok ([], bytes)
each_at read (suc n) bytes = on_ok (read bytes) (λ first. on_ok (each_at read n first.1) (λ others. Ok (first.0 ∷ others.0, others.1)))

-- a count of four bytes, and so many values
unfoldable pub list_at : {A : Type 0} → Reader A → Reader (List A)
list_at read bytes = on_ok (short_at bytes) (λ count. each_at read count.0 count.1)

abbrev pub option_by : {A : Type 0} → Reader A → Bool → Reader (Option A)
option_by read true bytes = made_at read Some bytes
option_by read false bytes = Ok (None, bytes)

-- a byte that says whether there is a value, and the value
unfoldable pub option_at : {A : Type 0} → Reader A → Reader (Option A)
option_at read bytes = on_ok (code_at bool_of bytes) (λ there. option_by read there.0 there.1)
