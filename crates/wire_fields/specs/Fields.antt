-- Fields of numbers and texts. Numbers are big-endian, and a text has its length in one byte before it.
use Rattle.std.specs.Prelude.{◌≡◌, ℕ, ℤ, ◌+◌, ◌<◌, List, [], ◌∷◌, ◌++◌, length, take, drop, slice_index, Option, Some, None, Result, Ok, Err, nat_lt, if◌then◌else◌}
use Rattle.std.specs.Int.{Width, w64, byte_len, from_be_bytes, to_be_bytes, cast_signed, cast_unsigned}

-- what a cursor has left, and how many bytes it has passed
pub record Left : Type 0 where
  pub place : ℕ
  pub rest : List ℕ

-- each of them is a byte
abbrev pub AreBytes : List ℕ → Type 0
AreBytes bytes = (i : ℕ) → slice_index bytes i < 256

infixl 10 ◌>>=◌
abbrev pub ◌>>=◌ : {A B : Type 0} → Option A → (A → Option B) → Option B
(Some x) >>= f = f x
None >>= f = None

-- Readers give what stands at the front and the bytes after it, or None where fewer bytes are left.

unfoldable pub byte_at : List ℕ → Option (ℕ × List ℕ)
byte_at [] = None
byte_at (x ∷ rest) = Some (x, rest)

-- so many bytes
abbrev pub bytes_at : ℕ → List ℕ → Option (List ℕ × List ℕ)
bytes_at count bytes = if nat_lt (length bytes) count then None else Some (take count bytes, drop count bytes)

-- a number of that many bits
abbrev pub number_at : Width → List ℕ → Option (ℕ × List ℕ)
number_at w bytes = if nat_lt (length bytes) (byte_len w) then None else Some (from_be_bytes w (take (byte_len w) bytes), drop (byte_len w) bytes)

-- a signed number of eight bytes, in two's complement
unfoldable pub signed_at : List ℕ → Option (ℤ × List ℕ)
signed_at bytes = do
  n ← number_at w64 bytes
  Some (cast_signed w64 n.0, n.1)

-- a text, after its length
unfoldable pub text_at : List ℕ → Option (List ℕ × List ℕ)
text_at bytes = do
  n ← byte_at bytes
  bytes_at n.0 n.1

-- the field of a signed number
abbrev pub signed_field : ℤ → List ℕ
signed_field z = to_be_bytes w64 (cast_unsigned w64 z)

-- the field of a text
abbrev pub text_field : List ℕ → List ℕ
text_field text = length text ∷ text

-- the cursor went on from old to new, over bytes of the same whole
abbrev pub Passes : Left → Left → Type 0
Passes old new = new.place + length new.rest ≡ old.place + length old.rest

-- what a call of a cursor answered is what reading gives, and where it fails the cursor stays
abbrev pub ReadsBy : {X Y E : Type 0} → (X → Y) → Option (Y × List ℕ) → Result X E → Left → Left → Type 0
ReadsBy view read (Ok x) old new = (read ≡ Some (view x, new.rest)) × Passes old new
ReadsBy view read (Err e) old new = (read ≡ None) × (new ≡ old)

abbrev pub Reads : {X E : Type 0} → Option (X × List ℕ) → Result X E → Left → Left → Type 0
Reads = ReadsBy (λ x. x)

-- a field that is put is read back, whatever follows it
abbrev pub IsReadBack : {A : Type 0} → (A → Type 0) → (A → List ℕ) → (List ℕ → Option (A × List ℕ)) → Type 0
IsReadBack {A} Fits field read = (value : A) (rest : List ℕ) → Fits value → read (field value ++ rest) ≡ Some (value, rest)

-- bytes from which a value is read begin with its field, so it has no other
abbrev pub HasOneField : {A : Type 0} → (A → Type 0) → (A → List ℕ) → (List ℕ → Option (A × List ℕ)) → Type 0
HasOneField {A} Fits field read = (bytes : List ℕ) (value : A) (rest : List ℕ) → AreBytes bytes → read bytes ≡ Some (value, rest) → (bytes ≡ field value ++ rest) × Fits value
