-- Numbers: decimal digits without a sign or leading zero.
use Rattle.std.specs.Prelude.{◌&&◌, Bool, None, Option, Some, bytes_eq, decimal, if◌then◌else◌, nat_le, nat_lt, option_and_then, ℕ}
use Rattle.std.specs.Str.Parse.{digits_value}
use Rattle.clap.specs.Words.{Text}
use Rattle.load_gen.specs.declared.generator.TheConstants.{BLOCK_LIMIT}

-- the number has 64 bits, and the word is it in decimal
abbrev pub is_number : ℕ → Text → Bool
is_number number word = nat_lt number 18446744073709551616 && bytes_eq (decimal number) word

-- the number that the word is
unfoldable pub number_of : Text → Option ℕ
number_of word = if is_number (digits_value 10 word) word then Some (digits_value 10 word) else None

-- a load has from 1 to 50,000 blocks
abbrev pub is_blocks : ℕ → Bool
is_blocks number = nat_le 1 number && nat_le number BLOCK_LIMIT

abbrev pub blocks_in : ℕ → Option ℕ
blocks_in number = if is_blocks number then Some number else None

-- the number of blocks that the word is
abbrev pub blocks_of : Text → Option ℕ
blocks_of word = option_and_then blocks_in (number_of word)
