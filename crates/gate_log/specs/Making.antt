-- How a file is made a log, in three steps: shut, filled behind its gate, opened.
use Rattle.std.specs.Prelude.{◌≡◌, ◌⊎◌, ℕ, ◌<◌, ◌≤◌, true, List, length, drop, get_or}
use Rattle.gate_log.specs.Format.{says, is_absent, has_magic}

-- a log may be made here
abbrev pub CanBeMade : List ℕ → Type 0
CanBeMade bytes = (says bytes ≡ is_absent) ⊎ (has_magic bytes ≡ true)

-- with its first bytes kept, 1 or 9 of them, a file is absent whatever follows
pub record IsKept (kept : ℕ) (bytes : List ℕ) : Type 0 where
  pub there : kept ≤ length bytes
  pub front : ((kept ≡ 1) × (get_or bytes 0 0 ≡ 0)) ⊎ ((kept ≡ 9) × (get_or bytes 0 0 ≡ 1 → ⊥) × (has_magic bytes ≡ true))

-- what is kept of a file that is left as it stands, or 0 where its gate is to be shut first
pub record KeepsFront (bytes : List ℕ) (kept : ℕ) : Type 0 where
  pub none : kept ≡ 0 → (length bytes ≤ 1) ⊎ (get_or bytes 0 0 ≡ 1)
  pub one : kept ≡ 1 → (1 ≤ length bytes) × (get_or bytes 0 0 ≡ 0)
  pub nine : kept ≡ 9 → (1 < length bytes) × (get_or bytes 0 0 ≡ 0 → ⊥) × (get_or bytes 0 0 ≡ 1 → ⊥)

-- as it was, or absent
abbrev pub IsSameOrAbsent : List ℕ → List ℕ → Type 0
IsSameOrAbsent before bytes = (bytes ≡ before) ⊎ (says bytes ≡ is_absent)

-- no log
abbrev pub IsAbsent : List ℕ → Type 0
IsAbsent bytes = says bytes ≡ is_absent

-- absent, or this file
abbrev pub IsAbsentOr : List ℕ → List ℕ → Type 0
IsAbsentOr made bytes = (says bytes ≡ is_absent) ⊎ (bytes ≡ made)

-- as it was, or absent, or this file
abbrev pub IsBeingMade : List ℕ → List ℕ → List ℕ → Type 0
IsBeingMade before made bytes = (bytes ≡ before) ⊎ ((says bytes ≡ is_absent) ⊎ (bytes ≡ made))

-- all of a new file but its gate
pub record IsFilled (bytes : List ℕ) : Type 0 where
  pub some : 0 < length bytes
  pub named : has_magic bytes ≡ true

-- the same, with these bytes behind the gate
pub record IsFilledWith (rest bytes : List ℕ) : Type 0 where
  pub filled : IsFilled bytes
  pub behind : drop 1 bytes ≡ rest
