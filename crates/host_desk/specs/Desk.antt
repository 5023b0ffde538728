-- What is known of a host at one moment, and what its calls do to it.
use Rattle.std.specs.Option.{IsSome}
use Rattle.std.specs.Prelude.{◌≡◌, ◌≢◌, ◌<◌, ◌≤◌, ◌+◌, ◌-◌, ◌/◌, ◌⊎◌, ◌↔◌, ℕ, Bool, max, List, ◌++◌, length, take, drop, [], Option, None}

-- A host as it stands: four files, named by number, the bytes said, and what a stop may leave of all of these.
pub record Desk : Type 1 where
  -- the name under which each pair was opened; none for a pair that wasn't
  pub opened : ℕ → Option (List ℕ)
  -- what a read gives of each file
  pub seen : ℕ → List ℕ
  -- the bytes that were said
  pub said : List ℕ
  -- what a stop now may leave of each file
  pub left : ℕ → List ℕ → Type 0
  -- Whether a sync of this file that answers settles it. After a sync, a write or a cut that failed nothing is known: bytes
  -- that it didn't make stable may read as they were written, and a later sync may answer without them.
  pub trusted : ℕ → Bool
  -- the moments so far
  pub moment : ℕ
  -- what a stop at some moment from that one on may have left: bytes said, bytes of the files
  pub observed : ℕ → List ℕ → (ℕ → List ℕ) → Type 0
  -- how often a call that isn't `say` has failed
  pub store_faults : ℕ
  -- how often `say` has failed
  pub say_faults : ℕ

-- The file is one of the four, and its pair is opened: files 0 and 1 are pair 0, files 2 and 3 pair 1.
pub record IsOpen (desk : Desk) (file : ℕ) : Type 0 where
  pub number : file < 4
  pub pair : IsSome (desk.opened (file / 2))

-- The count is greater than before, or stands at 2^64 - 1, the last value of a counter that can't wrap.
abbrev pub Rose : ℕ → ℕ → Type 0
Rose before now = (before < now) ⊎ (now ≡ 18446744073709551615)

-- Neither count of faults falls.
pub record KeepsCounts (old new : Desk) : Type 0 where
  pub store : old.store_faults ≤ new.store_faults
  pub say : old.say_faults ≤ new.say_faults

-- A stop now may leave this: the bytes said so far, and of each file one of its outcomes.
pub record IsNow (desk : Desk) (said : List ℕ) (files : ℕ → List ℕ) : Type 0 where
  pub told : said ≡ desk.said
  pub each : (i : ℕ) → i < 4 → desk.left i (files i)

-- Time goes on: what may have been left since t was possible before, or is what this call may leave.
pub record Elapses (old new : Desk) (during : List ℕ → (ℕ → List ℕ) → Type 0) : Type 0 where
  pub later : old.moment ≤ new.moment
  pub nothing_else : (t : ℕ) (said : List ℕ) (files : ℕ → List ℕ) → t ≤ old.moment → new.observed t said files → old.observed t said files ⊎ during said files
  pub keeps : (t : ℕ) (said : List ℕ) (files : ℕ → List ℕ) → t ≤ old.moment → old.observed t said files → new.observed t said files

-- One file changes: each of its outcomes comes from an earlier one by the step. The others stay, and nothing is said.
pub record Changes (step : List ℕ → List ℕ → Type 0) (file : ℕ) (old new : Desk) : Type 0 where
  pub this : (c : List ℕ) → new.left file c → (d : List ℕ) × old.left file d × step d c
  pub others_seen : (i : ℕ) → i ≢ file → new.seen i ≡ old.seen i
  pub others_left : (i : ℕ) (c : List ℕ) → i ≢ file → new.left i c ↔ old.left i c
  pub others_trusted : (i : ℕ) → i ≢ file → new.trusted i ≡ old.trusted i
  pub said : new.said ≡ old.said
  pub time : Elapses old new (IsNow new)

-- Each file stays, and so does what a stop leaves of it. Nothing is said.
pub record Stays (old new : Desk) : Type 0 where
  pub seen : new.seen ≡ old.seen
  pub left : (i : ℕ) (c : List ℕ) → new.left i c ↔ old.left i c
  pub trusted : new.trusted ≡ old.trusted
  pub said : new.said ≡ old.said
  pub time : Elapses old new (IsNow new)

-- The first n of these bytes were put out, and the files stay. A stop meanwhile may have left fewer of the bytes.
pub record Says (bytes : List ℕ) (n : ℕ) (old new : Desk) : Type 0 where
  pub said : new.said ≡ old.said ++ take n bytes
  pub seen : new.seen ≡ old.seen
  pub left : (i : ℕ) (c : List ℕ) → new.left i c ↔ old.left i c
  pub trusted : new.trusted ≡ old.trusted
  pub time : Elapses old new (λ said files. (k : ℕ) × (k ≤ n) × (said ≡ old.said ++ take k bytes) × ((i : ℕ) → i < 4 → old.left i (files i)))

-- Some first part of the bytes was put out.
pub record SaysSome (bytes : List ℕ) (old new : Desk) : Type 0 where
  pub count : ℕ
  pub within : count ≤ length bytes
  pub says : Says bytes count old new

-- The new file is the old one with these bytes at this place, longer where they reach past its end.
abbrev pub Holds : List ℕ → ℕ → List ℕ → List ℕ → Type 0
Holds old at bytes new = new ≡ take at old ++ bytes ++ drop (at + length bytes) old

-- What may be left of a write of n bytes that no sync has followed: any bytes in its range, a length from the old
-- one to that of the write done, and the same bytes elsewhere.
pub record Torn (at n : ℕ) (old new : List ℕ) : Type 0 where
  pub before : take at new ≡ take at old
  pub after : drop (at + n) new ≡ drop (at + n) old
  pub no_shorter : length old ≤ length new
  pub no_longer : length new ≤ max (length old) (at + n)

-- What may be left of a cut to n bytes that no sync has followed: any length from n to the old one, and any bytes
-- in the range that was cut.
pub record Cut (n : ℕ) (old new : List ℕ) : Type 0 where
  pub before : take n new ≡ take n old
  pub no_longer : length new ≤ length old

-- The file stays as it was: a sync, done or failed, adds no outcome.
abbrev pub Same : List ℕ → List ℕ → Type 0
Same old new = new ≡ old

-- A stop leaves these bytes and no others.
abbrev pub Only : List ℕ → (List ℕ → Type 0) → Type 0
Only file outcomes = (c : List ℕ) → outcomes c → c ≡ file

-- A read at a place put the next n bytes of the file at the front of the piece. It may be short; for a piece that
-- isn't empty n is 0 only at the end of the file.
pub record Fills (bytes : List ℕ) (at : ℕ) (old new : List ℕ) (n : ℕ) : Type 0 where
  pub filled : new ≡ take n (drop at bytes) ++ drop n old
  pub within : n ≤ length bytes - at
  pub end : n ≡ 0 → 0 < length old → length bytes ≤ at

-- A read of what is left put its first n bytes at the front of the piece, and the rest is left. It may be short; for a
-- piece that isn't empty n is 0 only where nothing was left.
pub record Reads (left before after : List ℕ) (n : ℕ) (rest : List ℕ) : Type 0 where
  pub filled : after ≡ take n left ++ drop n before
  pub within : n ≤ length left
  pub moved : rest ≡ drop n left
  pub end : n ≡ 0 → 0 < length before → left ≡ []

-- Nothing that is known of the host has changed.
pub record SameDesk (old new : Desk) : Type 0 where
  pub opened : new.opened ≡ old.opened
  pub seen : new.seen ≡ old.seen
  pub said : new.said ≡ old.said
  pub left : (i : ℕ) (c : List ℕ) → new.left i c ↔ old.left i c
  pub trusted : new.trusted ≡ old.trusted
  pub moment : new.moment ≡ old.moment
  pub observed : (t : ℕ) (said : List ℕ) (files : ℕ → List ℕ) → new.observed t said files ↔ old.observed t said files
  pub store_faults : new.store_faults ≡ old.store_faults
  pub say_faults : new.say_faults ≡ old.say_faults

-- A host of which no call was made: no pair is opened, nothing was said, nothing has failed, and a stop leaves these
-- files and nothing else.
pub record IsFresh (files : ℕ → List ℕ) (desk : Desk) : Type 0 where
  pub opened : (pair : ℕ) → desk.opened pair ≡ None
  pub seen : desk.seen ≡ files
  pub said : desk.said ≡ []
  pub settled : (i : ℕ) → Only (files i) (desk.left i)
  pub moment : desk.moment ≡ 0
  pub observed : (said : List ℕ) (left : ℕ → List ℕ) → desk.observed 0 said left ↔ ((said ≡ []) × ((i : ℕ) → i < 4 → left i ≡ files i))
  pub store_faults : desk.store_faults ≡ 0
  pub say_faults : desk.say_faults ≡ 0
