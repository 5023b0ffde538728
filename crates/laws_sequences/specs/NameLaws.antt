-- What the names of sequences and of their replicas tell.
use Rattle.std.specs.Prelude.{◌<◌, ◌^◌, ◌≡◌, List, true, ℕ}
use Rattle.seg_names.specs.Names.{is_name}
use Rattle.book_rows.specs.Names.{replica_name, sequence_name}

-- a source that is a name, and numbers of 64 bits
pub record IsKey (source : List ℕ) (group index : ℕ) : Type 0 where
  pub source_is : is_name source ≡ true
  pub group_fits : group < 2 ^ 64
  pub index_fits : index < 2 ^ 64

-- two sequences of one name have one source, one group and one index
abbrev pub SequenceNamesTell : Type 0
SequenceNamesTell = (s t : List ℕ) (g h i j : ℕ) → IsKey s g i → IsKey t h j → sequence_name s g i ≡ sequence_name t h j → (s ≡ t) × (g ≡ h) × (i ≡ j)

-- and two replicas of one id are of one sequence and have one number
abbrev pub ReplicaNamesTell : Type 0
ReplicaNamesTell = (s t : List ℕ) (g h i j k l : ℕ) → IsKey s g i → IsKey t h j → k < 2 ^ 64 → l < 2 ^ 64 → replica_name (sequence_name s g i) k ≡ replica_name (sequence_name t h j) l → (s ≡ t) × (g ≡ h) × (i ≡ j) × (k ≡ l)
