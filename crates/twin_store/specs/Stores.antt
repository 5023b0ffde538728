-- A store as a value, and what it has to do with the bytes of its files.
use Rattle.std.specs.Prelude.{◌≡◌, ◌≢◌, ◌⊎◌, ℕ, ◌+◌, ◌<◌, ◌/◌, List, []}
use Rattle.host_desk.specs.Desk.{Desk}
use Rattle.gate_log.specs.Format.{Opening, absent, corrupt, opened, opening_of, new_file, is_absent, says}
use Rattle.gate_log.specs.Log.{Mark, Describes, ReadUpTo, HasEnded, IsTorn, snapshot_in}
use Rattle.twin_store.specs.Pairs.{StoreSays, is_store, is_bad, with_body, neither, first_file, other_of, side_of, choice_in, store_in}
use Rattle.twin_store.specs.Moments.{IsPairSettled}

-- a header that says no log, or one of a lower generation
abbrev pub IsBehind : ℕ → Opening → Type 0
IsBehind generation absent = Unit {0}
IsBehind generation (corrupt at) = ⊥
IsBehind generation (opened older size) = older < generation

-- The log is that of a store: it describes its file, and the other file of the pair is behind.
pub record IsCurrent (log : Mark) (files : ℕ → List ℕ) : Type 0 where
  pub describes : Describes log (files log.file)
  pub behind : IsBehind log.generation (opening_of (files (other_of log.file)))

-- A store that was opened: none of its records is read yet.
pub record IsOpened (pair limit : ℕ) (log : Mark) : Type 0 where
  pub number : log.file < 4
  pub pair_is : log.file / 2 ≡ pair
  pub limit_is : log.limit ≡ limit
  pub place_is : log.place ≡ 26 + log.snapshot_length

-- It stands for what the files say.
pub record Stands (log : Mark) (desk : Desk) : Type 0 where
  pub current : IsCurrent log desk.seen
  pub read : ReadUpTo (desk.seen log.file) log []
  pub settled : IsPairSettled log.file desk

-- The first file of a pair that is opened, as it reads: as it did; or, where neither file had a log, with none still or
-- with a new one.
abbrev pub IsSameOrNew : ℕ → (ℕ → List ℕ) → List ℕ → Type 0
IsSameOrNew pair before file = (file ≡ before (first_file pair)) ⊎ ((choice_in pair before ≡ neither) × ((says file ≡ is_absent) ⊎ (file ≡ new_file 1 [])))

-- The files of a pair that is opened, as they read, say what they said. Nothing else was said, and no other file touched.
pub record AreKept (pair : ℕ) (old new : Desk) : Type 0 where
  pub says_is : store_in pair new.seen ≡ store_in pair old.seen
  pub first : IsSameOrNew pair old.seen (new.seen (first_file pair))
  pub others : (i : ℕ) → i ≢ first_file pair → new.seen i ≡ old.seen i
  pub said : new.said ≡ old.said

-- what has been said all along
abbrev pub Still : StoreSays → StoreSays → Type 0
Still before now = now ≡ before

-- what was said, or that with one body more
abbrev pub WithOrWithout : StoreSays → List ℕ → StoreSays → Type 0
WithOrWithout before body now = (now ≡ before) ⊎ (now ≡ with_body before body)

-- what was said, or a snapshot of the next generation
abbrev pub IsTurning : StoreSays → ℕ → List ℕ → StoreSays → Type 0
IsTurning before generation snapshot now = (now ≡ before) ⊎ (now ≡ is_store (generation + 1) snapshot [])

-- All bodies are read: these are all that the store has.
pub record HasAll (log : Mark) (files : ℕ → List ℕ) : Type 0 where
  pub ended : HasEnded (files log.file) log
  pub all : (bodies : List (List ℕ)) → ReadUpTo (files log.file) log bodies → store_in (log.file / 2) files ≡ is_store log.generation (snapshot_in log (files log.file)) bodies

-- The record at the store's place isn't whole.
pub record IsWrongHere (log : Mark) (files : ℕ → List ℕ) : Type 0 where
  pub torn : IsTorn (files log.file) log
  pub bad : (bodies : List (List ℕ)) → ReadUpTo (files log.file) log bodies → store_in (log.file / 2) files ≡ is_bad (side_of log.file) log.place
