-- The values of a command's keys, as JSON gives them.
use Rattle.std.specs.Prelude.{ℕ, ℤ, ◌+◌, ◌==◌, List, [], ◌∷◌, Bool, false, Option, Some, None, take, drop, position, option_and_then, if◌then◌else◌, codes, nat_le, int_lt, bytes_eq}
use Rattle.std.specs.List.{list_all, list_any}
use Rattle.serde_json.specs.Data.{Num, Data, null, boolean, number, string, array, object, Members, no_members, member}
use Rattle.serde_json.specs.Find.{get, as_number, as_str, as_i64, as_u64}
use Rattle.iv_time.specs.Durations.{duration_of}
use Rattle.iv_time.specs.Range.{is_instant}
use Rattle.iv_time.specs.declared.granularity.Granularity.{Granularity}
use Rattle.iv_time.specs.declared.granularity.Granularity.TheVariants as granularity
use Rattle.iv_time.specs.Texts.{◌>>=◌, instant_of}
use Rattle.iv_span.specs.Extent.{Extent}
use Rattle.seg_names.specs.IdTexts.{id_of}
use Rattle.seg_names.specs.Names.{is_name, is_task_id}
use Rattle.seg_names.specs.declared.seg_id.SegId.{SegId}
use Rattle.book_rows.specs.declared.kinds.TaskKind.{TaskKind}
use Rattle.book_rows.specs.declared.kinds.TaskKind.TheVariants.{Realtime, Batch, Compaction, Other}
use Rattle.book_rows.specs.declared.kinds.LockKind.{LockKind}
use Rattle.book_rows.specs.declared.kinds.LockKind.TheVariants as lock_kind
use Rattle.book_rows.specs.declared.kinds.TaskStatus.{TaskStatus}
use Rattle.book_rows.specs.declared.kinds.TaskStatus.TheVariants.{Success, Failed}

abbrev pub keys_of : Members → List (List ℕ)
keys_of no_members = []
keys_of (member k d ms) = k ∷ keys_of ms

-- an object with no key but those
abbrev pub has_only : List (List ℕ) → Data → Bool
has_only known null = false
has_only known (boolean b) = false
has_only known (number n) = false
has_only known (string s) = false
has_only known (array ds) = false
has_only known (object ms) = list_all (λ k. list_any (λ x. bytes_eq x k) known) (keys_of ms)

-- what was found, where the object has no key but those
abbrev pub if_only : {A : Type 0} → List (List ℕ) → Data → Option A → Option A
if_only known d found = if has_only known d then found else None

-- the text of a key
abbrev pub text_at : List ℕ → Data → Option (List ℕ)
text_at key d = option_and_then as_str (get key d)

unfoldable pub name_at : List ℕ → Data → Option (List ℕ)
name_at key d = do
  text ← text_at key d
  if is_name text then Some text else None

unfoldable pub task_at : List ℕ → Data → Option (List ℕ)
task_at key d = do
  text ← text_at key d
  if is_task_id text then Some text else None

-- a task id, which a text is
unfoldable pub task_in : Data → Option (List ℕ)
task_in d = do
  text ← as_str d
  if is_task_id text then Some text else None

-- what a key's value gives, or the default where the key is left out
abbrev pub optional_of : {A : Type 0} → A → (Data → Option A) → Option Data → Option A
optional_of default f (Some v) = f v
optional_of default f None = Some default

abbrev pub kind_of : List ℕ → Option TaskKind
kind_of text = if bytes_eq text (codes "realtime") then Some Realtime else (if bytes_eq text (codes "batch") then Some Batch else (if bytes_eq text (codes "compaction") then Some Compaction else (if bytes_eq text (codes "other") then Some Other else None)))

unfoldable pub kind_at : List ℕ → Data → Option TaskKind
kind_at key d = do
  text ← text_at key d
  kind_of text

abbrev pub lock_kind_of : List ℕ → Option LockKind
lock_kind_of text = if bytes_eq text (codes "EXCLUSIVE") then Some lock_kind.Exclusive else (if bytes_eq text (codes "SHARED") then Some lock_kind.Shared else (if bytes_eq text (codes "APPEND") then Some lock_kind.Append else (if bytes_eq text (codes "REPLACE") then Some lock_kind.Replace else None)))

unfoldable pub lock_kind_at : List ℕ → Data → Option LockKind
lock_kind_at key d = do
  text ← text_at key d
  lock_kind_of text

abbrev pub granularity_of : List ℕ → Option Granularity
granularity_of text = if bytes_eq text (codes "MINUTE") then Some granularity.Minute else (if bytes_eq text (codes "FIFTEEN_MINUTE") then Some granularity.FifteenMinute else (if bytes_eq text (codes "HOUR") then Some granularity.Hour else (if bytes_eq text (codes "DAY") then Some granularity.Day else (if bytes_eq text (codes "WEEK") then Some granularity.Week else (if bytes_eq text (codes "MONTH") then Some granularity.Month else (if bytes_eq text (codes "YEAR") then Some granularity.Year else None))))))

unfoldable pub granularity_at : List ℕ → Data → Option Granularity
granularity_at key d = do
  text ← text_at key d
  granularity_of text

-- a segment id, which a text is
unfoldable pub id_in : Data → Option SegId
id_in d = do
  text ← as_str d
  id_of text

-- the value of a key that isn't left out
unfoldable pub some_in : {A : Type 0} → (Data → Option A) → Data → Option (Option A)
some_in f d = do
  x ← f d
  Some (Some x)

-- an instant's number of milliseconds, where there is such an instant
unfoldable pub milliseconds_of : Num → Option ℤ
milliseconds_of n = do
  ms ← as_i64 n
  if is_instant ms then Some ms else None

-- an instant, which a text or a whole number is
abbrev pub instant_in : Data → Option ℤ
instant_in null = None
instant_in (boolean b) = None
instant_in (number n) = milliseconds_of n
instant_in (string s) = instant_of s
instant_in (array ds) = None
instant_in (object ms) = None

unfoldable pub instant_at : List ℕ → Data → Option ℤ
instant_at key d = do
  v ← get key d
  instant_in v

-- the span of two ends
abbrev pub span_from : ℤ → ℤ → Option Extent
span_from start end = if int_lt start end then Some (record { start = start; end = end }) else None

-- two texts of instants with a `/` between, the first instant below the second
unfoldable pub span_of : List ℕ → Option Extent
span_of text = do
  place ← position (λ byte. byte == 47) text
  start ← instant_of (take place text)
  end ← instant_of (drop (place + 1) text)
  span_from start end

-- a span, which a text is
unfoldable pub span_in : Data → Option Extent
span_in d = do
  text ← as_str d
  span_of text

unfoldable pub span_at : List ℕ → Data → Option Extent
span_at key d = do
  text ← text_at key d
  span_of text

abbrev pub end_status_of : List ℕ → Option TaskStatus
end_status_of text = if bytes_eq text (codes "SUCCESS") then Some Success else (if bytes_eq text (codes "FAILED") then Some Failed else None)

unfoldable pub end_status_at : List ℕ → Data → Option TaskStatus
end_status_at key d = do
  text ← text_at key d
  end_status_of text

-- a whole number from 0 to the most
unfoldable pub whole_of : ℕ → Data → Option ℕ
whole_of most d = do
  n ← as_number d
  u ← as_u64 n
  if nat_le u most then Some u else None

unfoldable pub whole_at : ℕ → List ℕ → Data → Option ℕ
whole_at most key d = do
  v ← get key d
  whole_of most v

-- a duration, which a text is
unfoldable pub duration_in : Data → Option ℤ
duration_in d = do
  text ← as_str d
  duration_of text
