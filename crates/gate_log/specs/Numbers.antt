-- Numbers in a file, as fields: the high byte first.
use Rattle.std.specs.Prelude.{ℕ, List}
use Rattle.std.specs.Int.{w32, w64, to_be_bytes, from_be_bytes}

-- the 4 bytes of a number
unfoldable pub bytes_32 : ℕ → List ℕ
bytes_32 n = to_be_bytes w32 n

-- the 8 bytes of a number
unfoldable pub bytes_64 : ℕ → List ℕ
bytes_64 n = to_be_bytes w64 n

-- the number in 4 bytes
unfoldable pub number_32 : List ℕ → ℕ
number_32 bytes = from_be_bytes w32 bytes

-- the number in 8 bytes
unfoldable pub number_64 : List ℕ → ℕ
number_64 bytes = from_be_bytes w64 bytes
