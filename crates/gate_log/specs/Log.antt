-- A log as a value, and what it has to do with the bytes of its file.
use Rattle.std.specs.Prelude.{◌≡◌, ◌⊎◌, ℕ, ◌+◌, ◌<◌, ◌≤◌, max, List, [], ◌∷◌, ◌++◌, length, take, drop}
use Rattle.gate_log.specs.Format.{opened, opening_of, LogSays, says, with_body, is_log, is_corrupt, log_of, joined, records_at, ends_here, is_torn_here, frame_of}

-- a log that was opened: where it stands, and how far it was read
pub record Mark : Type 0 where
  -- the number of its file on the host
  pub file : ℕ
  pub generation : ℕ
  pub snapshot_length : ℕ
  -- where the next record to be read or written begins
  pub place : ℕ
  -- the file's length, as the host told it at opening, or as the log has made it since
  pub file_length : ℕ
  -- the length above which no record is added
  pub limit : ℕ

-- a new log in a file, with a snapshot of this length
abbrev pub new_log : ℕ → ℕ → ℕ → ℕ → Mark
new_log file generation size limit = record { file = file; generation = generation; snapshot_length = size; place = 26 + size; file_length = 27 + size; limit = limit }

-- the log behind a record with a body of this length that was added at its place
abbrev pub grown : Mark → ℕ → Mark
grown log size = record log { place = log.place + 5 + size; file_length = max log.file_length (log.place + 6 + size) }

-- The place lies behind the snapshot and within the file.
pub record IsWithin (snapshot_length place file_length : ℕ) : Type 0 where
  pub behind : 26 + snapshot_length ≤ place
  pub inside : place < file_length

-- The log describes these bytes: their header, their length, and a place among them.
pub record Describes (log : Mark) (bytes : List ℕ) : Type 0 where
  pub header : opening_of bytes ≡ opened log.generation log.snapshot_length
  pub length_is : log.file_length ≡ length bytes
  pub there : log.place < length bytes

-- the snapshot of a log in these bytes
abbrev pub snapshot_in : Mark → List ℕ → List ℕ
snapshot_in log bytes = take log.snapshot_length (drop 26 bytes)

-- The log was read up to its place: what the bytes say is these bodies, and then what stands there.
pub record ReadUpTo (bytes : List ℕ) (log : Mark) (bodies : List (List ℕ)) : Type 0 where
  pub describes : Describes log bytes
  pub is : says bytes ≡ log_of log.generation (snapshot_in log bytes) (joined bodies (records_at bytes log.place))

-- The body was read at the old place: it comes first there, and the rest stands at the new place.
pub record HasNext (bytes : List ℕ) (old new : Mark) (body : List ℕ) : Type 0 where
  pub here : records_at bytes old.place ≡ joined (body ∷ []) (records_at bytes new.place)
  -- behind the body's gate, its length and its bytes
  pub place_is : new.place ≡ old.place + 5 + length body
  pub describes : Describes new bytes
  pub read : (bodies : List (List ℕ)) → ReadUpTo bytes old bodies → ReadUpTo bytes new (bodies ++ body ∷ [])

-- The gate at the place isn't open: the bodies read so far are all.
pub record HasEnded (bytes : List ℕ) (log : Mark) : Type 0 where
  pub here : records_at bytes log.place ≡ ends_here log.place
  pub read : (bodies : List (List ℕ)) → ReadUpTo bytes log bodies → says bytes ≡ is_log log.generation (snapshot_in log bytes) bodies log.place

-- The gate at the place is open, and the record behind it isn't whole.
pub record IsTorn (bytes : List ℕ) (log : Mark) : Type 0 where
  pub here : records_at bytes log.place ≡ is_torn_here log.place
  pub read : (bodies : List (List ℕ)) → ReadUpTo bytes log bodies → says bytes ≡ is_corrupt log.place

-- The reading goes on, and stays within the file. So it ends, whatever the host tells.
pub record GoesOn (old new : Mark) : Type 0 where
  pub further : old.place < new.place
  pub inside : new.place < old.file_length

-- a file that says what it said, or that with one body more
abbrev pub IsWithOrWithout : LogSays → List ℕ → List ℕ → Type 0
IsWithOrWithout before body bytes = (says bytes ≡ before) ⊎ (says bytes ≡ with_body before body)

-- The bytes of a file in which a record was added at this place: the gate there is open, the record and the next gate,
-- which is closed, stand behind it, and all else is as it was.
abbrev pub with_record_at : ℕ → List ℕ → List ℕ → List ℕ
with_record_at place body file = take place file ++ 1 ∷ frame_of body ++ drop (place + 6 + length body) file

-- A record was added at the closed gate of the old file.
pub record HasRecord (old : List ℕ) (place : ℕ) (body new : List ℕ) : Type 0 where
  pub bytes_is : new ≡ with_record_at place body old
  pub says_is : says new ≡ with_body (says old) body
  pub header : opening_of new ≡ opening_of old
  pub length_is : length new ≡ max (length old) (place + 6 + length body)
