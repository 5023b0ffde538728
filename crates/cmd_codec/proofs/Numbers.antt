-- Numbers and texts read as they are written.
use Rattle.std.proofs.Common.{◌≡◌, ℕ, ℤ, pos, negsuc, neg_ℤ, ◌≤ℤ◌, ◌^◌, ◌<◌, ◌≤◌, Bool, true, List, [], ◌∷◌, length, refl, arith, nat_le}
use Rattle.std.specs.Prelude.{int_le}
use Rattle.std.specs.Int.{w16, w32, w64, to_be_bytes}
use Rattle.std.specs.Int.RustNames.{FitsSigned}
use Rattle.std.proofs.lemmas.Int.{ints}
use Rattle.std.proofs.lemmas.Bool.Decides.{nat_tests}
use Rattle.iv_time.specs.Range.{is_instant}
use Rattle.seg_names.specs.Names.{is_name, is_task_id}
use Rattle.wire_fields.specs.Fields.{byte_at, number_at, signed_at, text_field}
use Rattle.wire_fields.proofs.FieldsAgain.{again16, again32, again64, signed_again, text_again}
use Rattle.wire_fields.proofs.FieldsTaken.{byte_taken, taken16, taken32, taken64, signed_taken, text_taken}
use Rattle.iv_time.specs.Durations.{is_duration}
use Rattle.cmd_codec.specs.Fields.{short, signed}
use Rattle.cmd_codec.specs.Reading.{name_at, task_at}
use Rattle.cmd_codec.proofs.FieldLists.{Field}
use Rattle.cmd_codec.proofs.Readers.{and_true, any, Spells, checked_again, checked_takes}

abbrev pub fits16 : ℕ → Bool
fits16 n = nat_le n 65535

abbrev pub fits32 : ℕ → Bool
fits32 n = nat_le n 4294967295

abbrev pub fits64 : ℕ → Bool
fits64 n = nat_le n 18446744073709551615

-- one byte
pub byte : Spells (λ n. n ∷ []) any any byte_at
unfolding byte_at
byte = record {
  again = λ n rest h. refl;
  takes = λ bytes n rest fits e. ((byte_taken bytes n rest fits e).0, refl);
}

pub number16 : Spells (to_be_bytes w16) fits16 any (number_at w16)
number16 = record {
  again = λ n rest h. let lt : n < 2 ^ 16 = grind (arith, nat_tests) in again16 n rest lt;
  takes = λ bytes n rest fits e. ((taken16 bytes n rest fits e).0, refl);
}

pub number32 : Spells (to_be_bytes w32) fits32 fits32 (number_at w32)
number32 = record {
  again = λ n rest h. let lt : n < 2 ^ 32 = grind (arith, nat_tests) in again32 n rest lt;
  takes = λ bytes n rest fits e. let t = taken32 bytes n rest fits e in let lt : n < 2 ^ 32 = t.1 in let le : nat_le n 4294967295 ≡ true = grind (arith, nat_tests) in (t.0, le);
}

pub number64 : Spells (to_be_bytes w64) fits64 any (number_at w64)
number64 = record {
  again = λ n rest h. let lt : n < 2 ^ 64 = grind (arith, nat_tests) in again64 n rest lt;
  takes = λ bytes n rest fits e. ((taken64 bytes n rest fits e).0, refl);
}

-- a signed number that fits eight bytes, by a test of the caller's
signed_by : (good : ℤ → Bool) → ((z : ℤ) → good z ≡ true → FitsSigned w64 z) → Spells signed good any signed_at
unfolding signed
signed_by good fits = record {
  again = λ z rest h. signed_again z rest (fits z h);
  takes = λ bytes z rest fits e. ((signed_taken bytes z rest fits e).0, refl);
}

at_most : (a b : ℤ) → int_le a b ≡ true → a ≤ℤ b
at_most a b h = grind (arith, ints)

instant_fits : (z : ℤ) → is_instant z ≡ true → FitsSigned w64 z
instant_fits z h =
    let both = and_true _ _ h in
    let low : neg_ℤ (pos 62167219200000) ≤ℤ z = at_most _ z both.0 in
    let high : z ≤ℤ pos 253402300799999 = at_most z _ both.1 in
    omega (arith, ints)

pub instant : Spells signed is_instant any signed_at
instant = signed_by is_instant instant_fits

duration_fits : (z : ℤ) → is_duration z ≡ true → FitsSigned w64 z
duration_fits (pos n) h = let le : n ≤ 36609996339000 = grind (arith, nat_tests) in omega (arith, ints)
duration_fits (negsuc n) h = absurd cc

pub duration : Spells signed is_duration any signed_at
duration = signed_by is_duration duration_fits

pub name : Spells text_field is_name any name_at
unfolding name_at
name = record {
  again = λ text rest h. let few : length text < 2 ^ 8 = grind (arith, nat_tests) in checked_again _ is_name text rest (text_again text rest few) h;
  takes = λ bytes text rest fits e. ((text_taken bytes text rest fits (checked_takes _ is_name (text, rest) e)).0, refl);
}

pub task : Spells text_field is_task_id any task_at
unfolding task_at
task = record {
  again = λ text rest h. let few : length text < 2 ^ 8 = grind (arith, nat_tests) in checked_again _ is_task_id text rest (text_again text rest few) h;
  takes = λ bytes text rest fits e. ((text_taken bytes text rest fits (checked_takes _ is_task_id (text, rest) e)).0, refl);
}

pub count : Spells short fits32 fits32 (number_at w32)
unfolding short
count = record { again = number32.again; takes = number32.takes }

abbrev pub a_count : Field ℕ
a_count = record { put = short; good = fits32; sure = fits32; read = number_at w32; spells = count }

abbrev pub short_number : Field ℕ
short_number = record { put = to_be_bytes w32; good = fits32; sure = fits32; read = number_at w32; spells = number32 }

abbrev pub long_number : Field ℕ
long_number = record { put = to_be_bytes w64; good = fits64; sure = any; read = number_at w64; spells = number64 }

abbrev pub an_instant : Field ℤ
an_instant = record { put = signed; good = is_instant; sure = any; read = signed_at; spells = instant }

abbrev pub a_duration : Field ℤ
a_duration = record { put = signed; good = is_duration; sure = any; read = signed_at; spells = duration }

abbrev pub a_name : Field (List ℕ)
a_name = record { put = text_field; good = is_name; sure = any; read = name_at; spells = name }

abbrev pub a_task : Field (List ℕ)
a_task = record { put = text_field; good = is_task_id; sure = any; read = task_at; spells = task }
