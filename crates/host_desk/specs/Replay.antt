-- A disk that keeps what it had at first and each call, and replays them.
use Rattle.std.specs.Prelude.{◌≡◌, ◌<◌, ◌≤◌, ◌+◌, ℕ, List, [], ◌∷◌, ◌++◌, length, take, drop, set, get_or, map, nat_le, ◌==◌, ◌&&◌, if◌then◌else◌, MatchBool, Vec, Option, Some, None, replicate, ◌-◌}
use Rattle.std.specs.declared.alloc.Global.{Global}
use Rattle.host_desk.specs.Desk.{Torn, Cut}
use Rattle.host_desk.specs.declared.call.Call.{Call}
use Rattle.host_desk.specs.declared.call.Call.TheVariants.{Write, Cut as CutCall, Sync, Say, Look}

-- What a read gives of each file, the bytes said, and which bytes a stop may leave of each file.
pub record Disk : Type 1 where
  pub seen : List (List ℕ)
  pub said : List ℕ
  pub left : ℕ → List ℕ → Type 0

-- The bytes of a file, none for a number that is no file's.
abbrev pub file_of : List (List ℕ) → ℕ → List ℕ
file_of files i = get_or files i []

-- The files in memory, as the bytes of each.
abbrev pub items_of : List (Vec ℕ Global) → List (List ℕ)
items_of files = map (λ v. v.items) files

-- The disk before the first call: a stop leaves these files and nothing else.
abbrev pub start : List (List ℕ) → Disk
start files = record { seen = files; said = []; left = λ i c. c ≡ file_of files i }

-- A file with bytes put in at a place and past its end, and as it was for a place past the end.
abbrev pub written : ℕ → List ℕ → List ℕ → List ℕ
written at bytes old = if nat_le at (length old) then take at old ++ bytes ++ drop (at + length bytes) old else old

-- What a read gives after a call.
abbrev pub seen_step : List (List ℕ) → Call → List (List ℕ)
seen_step files (Write file at bytes done) = if done then set files file (written at bytes.items (file_of files file)) else files
seen_step files (CutCall file len done) = if done then set files file (take len (file_of files file)) else files
seen_step files (Sync file done) = files
seen_step files (Say bytes) = files
seen_step files Look = files

-- Each outcome of one file goes on by a step, and those of the others stay.
abbrev pub goes_by : (List ℕ → List ℕ → Type 0) → ℕ → (ℕ → List ℕ → Type 0) → ℕ → List ℕ → Type 0
goes_by step file left i c = MatchBool (i == file) ((d : List ℕ) × left file d × step d c) (left i c)

-- What a stop may leave after a call: a write or a cut, done or failed, may leave any part of it, and a sync that was
-- done leaves what a read gives.
abbrev pub left_step : List (List ℕ) → (ℕ → List ℕ → Type 0) → Call → ℕ → List ℕ → Type 0
left_step files left (Write file at bytes done) = goes_by (Torn at (length bytes.items)) file left
left_step files left (CutCall file len done) = goes_by (Cut len) file left
left_step files left (Sync file done) = λ i c. MatchBool (done && (i == file)) (c ≡ file_of files file) (left i c)
left_step files left (Say bytes) = left
left_step files left Look = left

-- The bytes said after a call.
abbrev pub said_step : List ℕ → Call → List ℕ
said_step said (Write file at bytes done) = said
said_step said (CutCall file len done) = said
said_step said (Sync file done) = said
said_step said (Say bytes) = said ++ bytes.items
said_step said Look = said

-- The disk after a call, and after a list of calls.
abbrev pub step : Disk → Call → Disk
step d call = record { seen = seen_step d.seen call; said = said_step d.said call; left = left_step d.seen d.left call }

abbrev pub run : Disk → List Call → Disk
run d [] = d
run d (call ∷ calls) = run (step d call) calls

-- What a stop within a call leaves of bytes that no sync has made stable: none of them, so that what stood there is
-- left, or each as this byte, at the greatest length.
abbrev pub torn : Option ℕ → List (List ℕ) → Call → List (List ℕ)
torn None left call = left
torn (Some byte) left (Write file at bytes done) = set left file (written at (replicate (length bytes.items) byte) (file_of left file))
torn (Some byte) left (CutCall file len done) = set left file (written len (replicate (length (file_of left file) - len) byte) (file_of left file))
torn (Some byte) left (Sync file done) = left
torn (Some byte) left (Say bytes) = left
torn (Some byte) left Look = left

-- The same after a call: a sync that was done leaves what a read gives.
abbrev pub left_by : Option ℕ → List (List ℕ) → List (List ℕ) → Call → List (List ℕ)
left_by fill seen left (Write file at bytes done) = torn fill left (Write file at bytes done)
left_by fill seen left (CutCall file len done) = torn fill left (CutCall file len done)
left_by fill seen left (Sync file done) = if done then set left file (file_of seen file) else left
left_by fill seen left (Say bytes) = left
left_by fill seen left Look = left

-- The same after some calls.
abbrev pub left_after : Option ℕ → Disk → List (List ℕ) → List Call → List (List ℕ)
left_after fill d left [] = left
left_after fill d left (call ∷ calls) = left_after fill (step d call) (left_by fill d.seen left call) calls

-- What a disk leaves: the bytes said, and an outcome of each file.
pub record IsLeft (d : Disk) (said : List ℕ) (files : ℕ → List ℕ) : Type 0 where
  pub told : said ≡ d.said
  pub each : (i : ℕ) → i < 4 → d.left i (files i)

-- The disk at some moment from t on leaves it, where a moment is the number of calls made by then.
abbrev pub WasLeft : List (List ℕ) → List Call → ℕ → List ℕ → (ℕ → List ℕ) → Type 0
WasLeft first calls t said files = (k : ℕ) × (t ≤ k) × (k ≤ length calls) × IsLeft (run (start first) (take k calls)) said files

-- There is one call more, which put out these bytes.
pub record AddsSay (piece : List ℕ) (calls later : List Call) : Type 0 where
  pub bytes : Vec ℕ Global
  pub piece_is : bytes.items ≡ piece
  pub kept : later ≡ calls ++ Say bytes ∷ []
