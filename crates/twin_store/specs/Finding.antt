-- What was found in the files of a pair.
use Rattle.std.specs.Prelude.{◌≡◌, ℕ, ◌+◌, Bool, IsTrue, List, [], Option, Some, None}
use Rattle.gate_log.specs.Format.{Opening, absent, opened, opening_of}
use Rattle.gate_log.specs.Log.{Mark, ReadUpTo}
use Rattle.twin_store.specs.Pairs.{Choice, neither, the_first, the_second, wrong, choice_in}
use Rattle.twin_store.specs.Stores.{IsCurrent, IsOpened}

-- the log in a file, none of whose records is read yet
pub record IsFound (tells : Bool) (file limit : ℕ) (bytes : List ℕ) (log : Mark) : Type 0 where
  pub file_is : log.file ≡ file
  pub limit_is : log.limit ≡ limit
  pub place_is : log.place ≡ 26 + log.snapshot_length
  pub read : IsTrue tells → ReadUpTo bytes log []

-- a log, or none
abbrev pub Finds : Bool → ℕ → ℕ → List ℕ → Option Mark → Type 0
Finds tells file limit bytes None = IsTrue tells → opening_of bytes ≡ absent
Finds tells file limit bytes (Some log) = IsFound tells file limit bytes log

-- what the header of a log says
abbrev pub header_of : Option Mark → Opening
header_of None = absent
header_of (Some log) = opened log.generation log.snapshot_length

-- the chosen one of two logs
abbrev pub IsChosen : Choice → Option Mark → Option Mark → Option Mark → Type 0
IsChosen neither first second log = log ≡ None
IsChosen the_first first second log = log ≡ first
IsChosen the_second first second log = log ≡ second
IsChosen (wrong side at) first second log = ⊥

-- the log that is current in the pair
pub record IsFoundCurrent (tells : Bool) (pair limit : ℕ) (files : ℕ → List ℕ) (log : Mark) : Type 0 where
  pub is_opened : IsOpened pair limit log
  pub current : IsTrue tells → IsCurrent log files
  pub read : IsTrue tells → ReadUpTo (files log.file) log []

-- it, or none
abbrev pub FindsCurrent : Bool → ℕ → ℕ → (ℕ → List ℕ) → Option Mark → Type 0
FindsCurrent tells pair limit files None = IsTrue tells → choice_in pair files ≡ neither
FindsCurrent tells pair limit files (Some log) = IsFoundCurrent tells pair limit files log
