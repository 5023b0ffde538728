-- What a store holds, and what it stands for.
use Rattle.std.specs.Prelude.{◌≡◌, ◌≢◌, ℕ, zero, suc, ◌+◌, ◌≤◌, ◌<◌, Bool, true, false, List, [], ◌∷◌, ◌++◌, length, take, drop, Option, Some, None, if◌then◌else◌}
use Rattle.gate_log.specs.Format.{Opening, absent, corrupt, opened, opening_of, Records, records_at, LogSays, is_absent, is_corrupt, is_log, says, new_file}
use Rattle.gate_log.specs.Log.{with_record_at}
use Rattle.machine_run.specs.Rules.{Rules, weight}

-- what a store holds: the generation, the snapshot's bytes and the bodies of the records after it
pub record Content : Type 0 where
  pub generation : ℕ
  pub snapshot : List ℕ
  pub bodies : List (List ℕ)

-- what a new store holds
abbrev pub new_content : Content
new_content = record { generation = 1; snapshot = []; bodies = [] }

-- with more bodies
abbrev pub with_bodies : Content → List (List ℕ) → Content
with_bodies c bodies = record { generation = c.generation; snapshot = c.snapshot; bodies = c.bodies ++ bodies }

-- with one body more
abbrev pub with_body : Content → List ℕ → Content
with_body c body = with_bodies c (body ∷ [])

-- the same, or with one body more
abbrev pub with_record : Content → Option (List ℕ) → Content
with_record c None = c
with_record c (Some body) = with_body c body

-- the length of the log that holds this, up to its closed gate and with it
abbrev pub length_of : Content → ℕ
length_of c = 27 + length c.snapshot + weight c.bodies

-- a log of at most this length has room for the record, if there is one
abbrev pub HasRoom : ℕ → Content → Option (List ℕ) → Type 0
HasRoom limit c body = (b : List ℕ) → body ≡ Some b → length_of c + 5 + length b ≤ limit

-- it has none, and so many bytes are the log's length
abbrev pub HasNoRoom : ℕ → Content → Option (List ℕ) → ℕ → Type 0
HasNoRoom limit c None n = ⊥
HasNoRoom limit c (Some body) n = (n ≡ length_of c) × (limit < length_of c + 5 + length body)

-- go on with a state, if there is one
abbrev pub then_on : {State : Type 0} → Option State → (State → Option State) → Option State
then_on None more = None
then_on (Some s) more = more s

-- the state after these bodies, or none
abbrev pub replayed : {State Item : Type 0} → Rules State Item → State → List (List ℕ) → Option State
replayed m s [] = Some s
replayed m s (body ∷ bodies) = then_on (m.restore s body) (λ t. replayed m t bodies)

-- the state that the content stands for
abbrev pub state_in : {State Item : Type 0} → Rules State Item → Content → Option State
state_in m c = then_on (m.load c.snapshot) (λ s. replayed m s c.bodies)

-- the header says that there is no log
abbrev pub no_log : Opening → Bool
no_log absent = true
no_log (corrupt at) = false
no_log (opened generation size) = false

-- what one file holds; a file without a log holds what a new one does
abbrev pub in_log : LogSays → Option Content
in_log is_absent = Some new_content
in_log (is_corrupt at) = None
in_log (is_log generation snapshot bodies place) = Some (record { generation = generation; snapshot = snapshot; bodies = bodies })

-- what the two files hold, if they are whole: the log of the first, and no log in the second
unfoldable pub content_of : List ℕ → List ℕ → Option Content
content_of first second = if no_log (opening_of second) then in_log (says first) else None

-- a state, or a fault in one of the files at a place
pub data Opened (State : Type 0) : Type 0 where
  is_state : (state : State) → Opened State
  is_bad : (file at : ℕ) → Opened State

-- go on with the state behind a record, or there is none: a fault at the record's gate
abbrev pub behind : {State : Type 0} → Option State → (State → Opened State) → ℕ → Opened State
behind None more at = is_bad 0 at
behind (Some next) more at = more next

-- The state after records, the first of which stands at the place: each is to be a record of a change in the state
-- before it. The first that isn't, or isn't whole, is the fault.
abbrev pub restored : {State Item : Type 0} → Rules State Item → ℕ → State → List (List ℕ) → Bool → ℕ → Opened State
restored m at state [] whole place = if whole then is_state state else is_bad 0 place
restored m at state (body ∷ bodies) whole place = behind (m.restore state body) (λ next. restored m (at + 5 + length body) next bodies whole place) at

-- the same, with the records as they are read from there on
abbrev pub restored_by : {State Item : Type 0} → Rules State Item → ℕ → State → Records → Opened State
restored_by m at state records = restored m at state records.bodies records.is_whole records.place

-- what a log whose snapshot is loaded stands for, where the second file is absent
abbrev pub store_alone : {State Item : Type 0} → Rules State Item → Bool → ℕ → State → List ℕ → Opened State
store_alone m second_is_absent at state first = if second_is_absent then restored_by m at state (records_at first at) else is_bad 1 0

-- A store by the headers of its two files and the bytes of the first. The second is to be absent; a snapshot that stands
-- for no state is a fault at its length.
abbrev pub store_by : {State Item : Type 0} → Rules State Item → Opening → Bool → List ℕ → Opened State
store_by m absent second_is_absent first = if second_is_absent then is_state m.first else is_bad 1 0
store_by m (corrupt at) second_is_absent first = is_bad 0 at
store_by m (opened generation size) second_is_absent first = behind (m.load (take size (drop 26 first))) (λ s. store_alone m second_is_absent (26 + size) s first) 18

-- What the bytes of the two files stand for. A new store stands for the first state.
unfoldable pub store_of : {State Item : Type 0} → Rules State Item → List ℕ → List ℕ → Opened State
store_of m first second = store_by m (opening_of first) (no_log (opening_of second)) first

-- The bytes of the first file once the store is open: those that it had, or a new log where it had none.
abbrev pub opened_file : List ℕ → List ℕ
opened_file file = if no_log (opening_of file) then new_file 1 [] else file

-- the files once the store is open
abbrev pub opened_files : (ℕ → List ℕ) → ℕ → List ℕ
opened_files files zero = opened_file (files 0)
opened_files files (suc file) = files (suc file)

-- The bytes of a file with these records, the first of them at this place, each other at the gate behind the one before.
abbrev pub with_records_at : ℕ → List (List ℕ) → List ℕ → List ℕ
with_records_at place [] file = file
with_records_at place (body ∷ bodies) file = with_records_at (place + 5 + length body) bodies (with_record_at place body file)

-- These records were added to the first file at this place, and no other byte of a file was changed.
pub record AreAdded (place : ℕ) (bodies : List (List ℕ)) (old new : ℕ → List ℕ) : Type 0 where
  pub first : new 0 ≡ with_records_at place bodies (old 0)
  pub others : (file : ℕ) → file ≢ 0 → new file ≡ old file

-- To the byte, the files of the later content are those of the earlier one with the records that it has more, added
-- behind its log.
pub record AreKept (earlier later : Content) (old new : ℕ → List ℕ) : Type 0 where
  pub bodies : List (List ℕ)
  pub bodies_are : later ≡ with_bodies earlier bodies
  -- where the log's closed gate was, its last byte
  pub place : ℕ
  pub length_is : length_of earlier ≡ place + 1
  pub added : AreAdded place bodies old new
