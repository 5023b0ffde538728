-- What the bytes of one file say: nothing, a fault at a place, or a log.
use Rattle.std.specs.Prelude.{◌≡◌, ℕ, ◌+◌, zero, suc, Bool, true, false, not, ◌&&◌, ◌||◌, List, [], ◌∷◌, ◌++◌, length, take, drop, get_or, nat_lt, nat_le, ◌==◌, if◌then◌else◌}
use Rattle.std.specs.Str.{bytes_eq}
use Rattle.gate_log.specs.Numbers.{number_32, number_64, bytes_32, bytes_64}

-- `OVERLORD`, which stands in bytes 1 to 8 of each log
abbrev pub magic : List ℕ
magic = 79 ∷ 86 ∷ 69 ∷ 82 ∷ 76 ∷ 79 ∷ 82 ∷ 68 ∷ []

-- whether it stands there
abbrev pub has_magic : List ℕ → Bool
has_magic bytes = bytes_eq (take 8 (drop 1 bytes)) magic

-- the records from a gate on: their bodies, and the closed gate's place, or the place of one that isn't whole
pub record Records : Type 0 where
  pub bodies : List (List ℕ)
  pub is_whole : Bool
  pub place : ℕ

-- behind an open gate there are a length of at least 1, that many bytes, and one gate more
abbrev pub is_whole_frame : List ℕ → Bool
is_whole_frame rest = nat_lt 0 (number_32 (take 4 rest)) && nat_lt (4 + number_32 (take 4 rest)) (length rest)

-- what bytes say that stand at a place, where the first `skipped` of them belong to the record before
abbrev pub records_from : ℕ → ℕ → List ℕ → Records
records_from at (suc skipped) (byte ∷ rest) = records_from (at + 1) skipped rest
records_from at zero (gate ∷ rest) =
    if gate == 1
    then (if is_whole_frame rest
    then (let more = records_from (at + 1) (4 + number_32 (take 4 rest)) rest in record { bodies = take (number_32 (take 4 rest)) (drop 4 rest) ∷ more.bodies; is_whole = more.is_whole; place = more.place })
    else record { bodies = []; is_whole = false; place = at })
    else record { bodies = []; is_whole = true; place = at }
records_from at skipped [] = record { bodies = []; is_whole = false; place = at }

-- the records from a place of a file on
abbrev pub records_at : List ℕ → ℕ → Records
records_at bytes place = records_from place 0 (drop place bytes)

-- no record more, and the log ends at this place
abbrev pub ends_here : ℕ → Records
ends_here place = record { bodies = []; is_whole = true; place = place }

-- the record at this place isn't whole
abbrev pub is_torn_here : ℕ → Records
is_torn_here place = record { bodies = []; is_whole = false; place = place }

-- these bodies, and then those records
abbrev pub joined : List (List ℕ) → Records → Records
joined bodies more = record { bodies = bodies ++ more.bodies; is_whole = more.is_whole; place = more.place }

-- what a header says: no log, a fault at a place, or a log with a snapshot of this length
pub data Opening : Type 0 where
  absent : Opening
  corrupt : (at : ℕ) → Opening
  opened : (generation snapshot_length : ℕ) → Opening

-- what a header says, by its 26 bytes and the file's length
abbrev pub opening : List ℕ → ℕ → Opening
opening head size =
    if nat_le size 1 || (get_or head 0 0 == 0) then absent
    else if not (get_or head 0 0 == 1) then (if has_magic head then absent else corrupt 0)
    else if not (has_magic head) then corrupt 1
    else if not (get_or head 9 0 == 1) then corrupt 9
    else if nat_le size (26 + number_64 (take 8 (drop 18 head))) then corrupt 18
    else opened (number_64 (take 8 (drop 10 head))) (number_64 (take 8 (drop 18 head)))

-- what a file's header says
abbrev pub opening_of : List ℕ → Opening
opening_of bytes = opening (take 26 bytes) (length bytes)

-- what a whole file says: no log, a fault at a place, or a log whose closed gate is at the place
pub data LogSays : Type 0 where
  is_absent : LogSays
  is_corrupt : (at : ℕ) → LogSays
  is_log : (generation : ℕ) (snapshot : List ℕ) (bodies : List (List ℕ)) (place : ℕ) → LogSays

-- a log of these records, if they are whole
abbrev pub log_of : ℕ → List ℕ → Records → LogSays
log_of generation snapshot records = if records.is_whole then is_log generation snapshot records.bodies records.place else is_corrupt records.place

-- what a file says whose header says this
abbrev pub says_after : Opening → List ℕ → LogSays
says_after absent bytes = is_absent
says_after (corrupt at) bytes = is_corrupt at
says_after (opened generation size) bytes = log_of generation (take size (drop 26 bytes)) (records_at bytes (26 + size))

-- what a file's bytes say
abbrev pub says : List ℕ → LogSays
says bytes = says_after (opening_of bytes) bytes

-- the same with one body more
abbrev pub with_body : LogSays → List ℕ → LogSays
with_body is_absent body = is_absent
with_body (is_corrupt at) body = is_corrupt at
with_body (is_log generation snapshot bodies place) body = is_log generation snapshot (bodies ++ body ∷ []) (place + 5 + length body)

-- the bytes are a log whose closed gate is at this place
pub record EndsAt (bytes : List ℕ) (place : ℕ) : Type 0 where
  pub generation : ℕ
  pub snapshot : List ℕ
  pub bodies : List (List ℕ)
  pub is : says bytes ≡ is_log generation snapshot bodies place

-- a record without its gate, and the next gate, which is closed
abbrev pub frame_of : List ℕ → List ℕ
frame_of body = bytes_32 (length body) ++ body ++ 0 ∷ []

-- the file of a log without records, from byte 1 on
abbrev pub new_rest : ℕ → List ℕ → List ℕ
new_rest generation snapshot = magic ++ 1 ∷ bytes_64 generation ++ bytes_64 (length snapshot) ++ snapshot ++ 0 ∷ []

-- the file of a log without records
abbrev pub new_file : ℕ → List ℕ → List ℕ
new_file generation snapshot = 1 ∷ new_rest generation snapshot
