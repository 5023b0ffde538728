use Rattle.std.specs.Prelude.{◌≡◌, ◌⊎◌, ℕ, ℤ, pos, ◌%◌, List, Bool, true, false, slice_index_or, ⊤}
use Rattle.row_index.specs.Index.{IsKey}

-- what contracts see of an index: its keys in their order
pub record KeySet : Type 0 where
  pub entries : List (((ℕ × ℤ) × ℕ) × ⊤)

-- the group of a digest, of eight
abbrev pub group_of : ℕ → ℕ
group_of digest = digest % 8

-- the group is marked
abbrev pub IsMarked : List Bool → ℕ → Type 0
IsMarked marks group = slice_index_or marks group false ≡ true

-- each key lies at place 0, or its group is marked
abbrev pub AreMarked : List Bool → List (((ℕ × ℤ) × ℕ) × ⊤) → Type 0
AreMarked marks ks = (k : (ℕ × ℤ) × ℕ) → IsKey ks k → (k.0.1 ≡ pos 0) ⊎ IsMarked marks (group_of k.0.0)
