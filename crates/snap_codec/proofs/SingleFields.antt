-- Single fields read as they are written.
use Rattle.std.proofs.Common.{◌≡◌, ℕ, Bool, true, false, List, [], ◌∷◌, length, ◌<◌, ◌^◌, Option, Some, None, Ok, refl, ap, ap₂, ◌∙◌, arith}
use Rattle.std.specs.Int.{w32, w64, to_be_bytes}
use Rattle.std.proofs.lemmas.Bool.Decides.{nat_tests}
use Rattle.seg_names.specs.Names.{is_name, is_task_id}
use Rattle.wire_fields.specs.Fields.{byte_at, text_at, text_field}
use Rattle.wire_fields.proofs.FieldsAgain.{again32, again64, signed_again, text_again}
use Rattle.wire_fields.proofs.FieldsTaken.{byte_taken, taken32, taken64, signed_taken, text_taken}
use Rattle.book_rows.specs.declared.kinds.TaskKind.{TaskKind}
use Rattle.book_rows.specs.declared.kinds.TaskKind.TheVariants.{Realtime, Batch, Compaction, Other}
use Rattle.book_rows.specs.declared.kinds.LockKind.{LockKind}
use Rattle.book_rows.specs.declared.kinds.LockKind.TheVariants as lock_kind
use Rattle.book_rows.specs.declared.kinds.TaskStatus.{TaskStatus}
use Rattle.book_rows.specs.declared.kinds.TaskStatus.TheVariants.{Waiting, Running, Success, Failed}
use Rattle.book_rows.specs.declared.kinds.SeqState.{SeqState}
use Rattle.book_rows.specs.declared.kinds.SeqState.TheVariants.{Reading, Paused, Closed, Published, Abandoned}
use Rattle.cmd_codec.specs.Fields.{kind_code, lock_kind_code, status_code, short, signed}
use Rattle.cmd_codec.specs.Reading.{kind_of, lock_kind_of, status_of}
use Rattle.cmd_codec.proofs.FieldBytes.{code_of, pick, no_more}
use Rattle.snap_codec.specs.Fields.{long, bool_code, state_code}
use Rattle.snap_codec.specs.Fits.{FitsShort, FitsLong, FitsInt, IsName, IsTask, Always}
use Rattle.snap_codec.specs.Readers.{field_at, short_at, long_at, known_by, code_at, bool_of}
use Rattle.snap_codec.specs.Grammar.{name_at, task_at, int_at, state_of}
use Rattle.snap_codec.proofs.Spells.{Spells, field, checked, said, step, ok_is}

-- ---- numbers

pub number_32 : Spells (to_be_bytes w32) FitsShort short_at
number_32 = field again32 taken32

pub number_64 : Spells (to_be_bytes w64) FitsLong long_at
number_64 = field again64 taken64

pub a_short : Spells short FitsShort short_at
unfolding short
a_short = field again32 taken32

pub a_long : Spells long FitsLong long_at
unfolding long
a_long = field again64 taken64

pub an_int : Spells signed FitsInt int_at
unfolding signed
an_int = field signed_again signed_taken

-- ---- texts

a_text : Spells text_field (λ text. length text < 2 ^ 8) (field_at text_at)
a_text = field text_again text_taken

pub a_name : Spells text_field IsName name_at
a_name = said IsName (λ text h. let few : length text < 2 ^ 8 = grind (arith, nat_tests) in (few, h)) (λ text h. h.1) (checked is_name a_text)

pub a_task : Spells text_field IsTask task_at
a_task = said IsTask (λ text h. let few : length text < 2 ^ 8 = grind (arith, nat_tests) in (few, h)) (λ text h. h.1) (checked is_task_id a_text)

-- ---- codes

a_byte : Spells (λ n. n ∷ []) Always (field_at byte_at)
unfolding byte_at
a_byte = field (λ n rest h. refl) (λ bytes n rest are e. ((byte_taken bytes n rest are e).0, tt))

known : {A : Type 0} (bytes rest : List ℕ) (o : Option A) (x : A × List ℕ) → known_by bytes rest o ≡ Ok x → (o ≡ Some x.0) × (rest ≡ x.1)
known bytes rest (Some a) x e = let is : (a, rest) ≡ x = ok_is (a, rest) x e in (ap (λ (y : _ × List ℕ). Some y.0) is, ap (λ (y : _ × List ℕ). y.1) is)
known bytes rest None x e = absurd cc

-- a value by its code
pub coded : {A : Type 0} (Fits : A → Type 0) (code : A → ℕ) (value_of : ℕ → Option A) → ((a : A) → Fits a → value_of (code a) ≡ Some a) → ((n : ℕ) (a : A) → value_of n ≡ Some a → (n ≡ code a) × Fits a) → Spells (code_of code) Fits (code_at value_of)
unfolding code_at
coded {A = A} Fits code value_of there back = record {
  again = λ a rest h. rw (a_byte.again (code a) rest tt, there a h) refl;
  takes = λ bytes a rest are e.
      let k = step a_byte bytes are (λ (c : ℕ × List ℕ). known_by bytes c.1 (value_of c.0)) (a, rest) e in
      let o = known bytes k.rest (value_of k.value) (a, rest) k.more in
      let b = back k.value a o.0 in
      (k.parts ∙ ap₂ (λ (n : ℕ) (r : List ℕ). n ∷ r) b.0 o.1, b.1);
}

kind_there : (x : TaskKind) → kind_of (kind_code x) ≡ Some x
kind_there Realtime = refl
kind_there Batch = refl
kind_there Compaction = refl
kind_there Other = refl

kind_back : (n : ℕ) (a : TaskKind) → kind_of n ≡ Some a → n ≡ kind_code a
kind_back n a e0 =
    pick kind_code n 1 Realtime a _ refl e0 (λ e1.
    pick kind_code n 2 Batch a _ refl e1 (λ e2.
    pick kind_code n 3 Compaction a _ refl e2 (λ e3.
    pick kind_code n 4 Other a _ refl e3 (λ e4.
    no_more a (n ≡ kind_code a) e4))))

pub a_kind : Spells (code_of kind_code) Always (code_at kind_of)
a_kind = coded Always kind_code kind_of (λ a h. kind_there a) (λ n a e. (kind_back n a e, tt))

lock_kind_there : (x : LockKind) → lock_kind_of (lock_kind_code x) ≡ Some x
lock_kind_there lock_kind.Exclusive = refl
lock_kind_there lock_kind.Shared = refl
lock_kind_there lock_kind.Append = refl
lock_kind_there lock_kind.Replace = refl

lock_kind_back : (n : ℕ) (a : LockKind) → lock_kind_of n ≡ Some a → n ≡ lock_kind_code a
lock_kind_back n a e0 =
    pick lock_kind_code n 1 lock_kind.Exclusive a _ refl e0 (λ e1.
    pick lock_kind_code n 2 lock_kind.Shared a _ refl e1 (λ e2.
    pick lock_kind_code n 3 lock_kind.Append a _ refl e2 (λ e3.
    pick lock_kind_code n 4 lock_kind.Replace a _ refl e3 (λ e4.
    no_more a (n ≡ lock_kind_code a) e4))))

pub a_lock_kind : Spells (code_of lock_kind_code) Always (code_at lock_kind_of)
a_lock_kind = coded Always lock_kind_code lock_kind_of (λ a h. lock_kind_there a) (λ n a e. (lock_kind_back n a e, tt))

status_there : (x : TaskStatus) → status_of (status_code x) ≡ Some x
status_there Waiting = refl
status_there Running = refl
status_there Success = refl
status_there Failed = refl

status_back : (n : ℕ) (a : TaskStatus) → status_of n ≡ Some a → n ≡ status_code a
status_back n a e0 =
    pick status_code n 1 Waiting a _ refl e0 (λ e1.
    pick status_code n 2 Running a _ refl e1 (λ e2.
    pick status_code n 3 Success a _ refl e2 (λ e3.
    pick status_code n 4 Failed a _ refl e3 (λ e4.
    no_more a (n ≡ status_code a) e4))))

pub a_status : Spells (code_of status_code) Always (code_at status_of)
a_status = coded Always status_code status_of (λ a h. status_there a) (λ n a e. (status_back n a e, tt))

state_there : (x : SeqState) → state_of (state_code x) ≡ Some x
state_there Reading = refl
state_there Paused = refl
state_there Closed = refl
state_there Published = refl
state_there Abandoned = refl

state_back : (n : ℕ) (a : SeqState) → state_of n ≡ Some a → n ≡ state_code a
state_back n a e0 =
    pick state_code n 1 Reading a _ refl e0 (λ e1.
    pick state_code n 2 Paused a _ refl e1 (λ e2.
    pick state_code n 3 Closed a _ refl e2 (λ e3.
    pick state_code n 4 Published a _ refl e3 (λ e4.
    pick state_code n 5 Abandoned a _ refl e4 (λ e5.
    no_more a (n ≡ state_code a) e5)))))

pub a_state : Spells (code_of state_code) Always (code_at state_of)
a_state = coded Always state_code state_of (λ a h. state_there a) (λ n a e. (state_back n a e, tt))

bool_there : (x : Bool) → bool_of (bool_code x) ≡ Some x
bool_there false = refl
bool_there true = refl

bool_back : (n : ℕ) (a : Bool) → bool_of n ≡ Some a → n ≡ bool_code a
bool_back n a e0 =
    pick bool_code n 0 false a _ refl e0 (λ e1.
    pick bool_code n 1 true a _ refl e1 (λ e2.
    no_more a (n ≡ bool_code a) e2))

pub a_bool : Spells (code_of bool_code) Always (code_at bool_of)
a_bool = coded Always bool_code bool_of (λ a h. bool_there a) (λ n a e. (bool_back n a e, tt))
