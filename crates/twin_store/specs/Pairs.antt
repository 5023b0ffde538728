-- What the bytes of two files say together: a store, or a fault in one of them.
use Rattle.std.specs.Prelude.{ℕ, zero, suc, ◌+◌, ◌*◌, List, [], ◌∷◌, ◌++◌, nat_lt, ◌==◌, if◌then◌else◌}
use Rattle.gate_log.specs.Format.{Opening, absent, corrupt, opened, opening_of, LogSays, is_absent, is_corrupt, is_log, says}

-- the files of a pair, by their numbers on the host
abbrev pub first_file : ℕ → ℕ
first_file pair = 2 * pair

abbrev pub second_file : ℕ → ℕ
second_file pair = 2 * pair + 1

-- the other file of a file's pair
abbrev pub other_of : ℕ → ℕ
other_of zero = 1
other_of (suc zero) = 0
other_of (suc (suc file)) = suc (suc (other_of file))

-- whether a file is the first of its pair, 0, or the second, 1
abbrev pub side_of : ℕ → ℕ
side_of zero = 0
side_of (suc zero) = 1
side_of (suc (suc file)) = side_of file

-- which of two files has the log that is current
pub data Choice : Type 0 where
  neither : Choice
  the_first : Choice
  the_second : Choice
  -- the file of this side is wrong at this place
  wrong : (side at : ℕ) → Choice

-- Of two logs that of the greater generation. Equal generations are a fault of the second file, where its own stands.
abbrev pub newer : ℕ → ℕ → Choice
newer first second = if first == second then wrong 1 10 else if nat_lt first second then the_second else the_first

-- by the headers of both; the first file is asked first
abbrev pub choice : Opening → Opening → Choice
choice (corrupt at) second = wrong 0 at
choice absent absent = neither
choice absent (corrupt at) = wrong 1 at
choice absent (opened generation size) = the_second
choice (opened generation size) absent = the_first
choice (opened generation size) (corrupt at) = wrong 1 at
choice (opened first size) (opened second length) = newer first second

-- what two files say
pub data StoreSays : Type 0 where
  is_store : (generation : ℕ) (snapshot : List ℕ) (bodies : List (List ℕ)) → StoreSays
  is_bad : (side at : ℕ) → StoreSays

-- what a new store says, and two files without a log
abbrev pub new_store : StoreSays
new_store = is_store 1 [] []

-- what the log of a file says
abbrev pub in_log : ℕ → LogSays → StoreSays
in_log side is_absent = new_store
in_log side (is_corrupt at) = is_bad side at
in_log side (is_log generation snapshot bodies place) = is_store generation snapshot bodies

-- what the chosen one says; the records of the other aren't looked at
abbrev pub says_by : Choice → List ℕ → List ℕ → StoreSays
says_by neither first second = new_store
says_by the_first first second = in_log 0 (says first)
says_by the_second first second = in_log 1 (says second)
says_by (wrong side at) first second = is_bad side at

-- what the bytes of two files say
unfoldable pub store_says : List ℕ → List ℕ → StoreSays
store_says first second = says_by (choice (opening_of first) (opening_of second)) first second

-- the same with one body more
abbrev pub with_body : StoreSays → List ℕ → StoreSays
with_body (is_store generation snapshot bodies) body = is_store generation snapshot (bodies ++ body ∷ [])
with_body (is_bad side at) body = is_bad side at

-- of the files of a pair
abbrev pub choice_in : ℕ → (ℕ → List ℕ) → Choice
choice_in pair files = choice (opening_of (files (first_file pair))) (opening_of (files (second_file pair)))

abbrev pub store_in : ℕ → (ℕ → List ℕ) → StoreSays
store_in pair files = store_says (files (first_file pair)) (files (second_file pair))
