-- The names of sequences and of their replicas, and of compactions.
use Rattle.std.specs.Prelude.{◌&&◌, ◌++◌, ◌==◌, ◌∷◌, Bool, List, [], decimal, false, true, ℕ}

-- `sup:`
abbrev pub sup_prefix : List ℕ
sup_prefix = 115 ∷ 117 ∷ 112 ∷ 58 ∷ []

-- `compact:`
abbrev pub compact_prefix : List ℕ
compact_prefix = 99 ∷ 111 ∷ 109 ∷ 112 ∷ 97 ∷ 99 ∷ 116 ∷ 58 ∷ []

-- `sup:SOURCE:GROUP:INDEX`
abbrev pub sequence_name : List ℕ → ℕ → ℕ → List ℕ
sequence_name source group index = sup_prefix ++ (source ++ 58 ∷ (decimal group ++ 58 ∷ decimal index))

-- the sequence's name, `:` and the replica's number
abbrev pub replica_name : List ℕ → ℕ → List ℕ
replica_name name k = name ++ 58 ∷ decimal k

-- `compact:SOURCE:K`
abbrev pub compact_name : List ℕ → ℕ → List ℕ
compact_name source k = compact_prefix ++ (source ++ 58 ∷ decimal k)

-- the group of a publication that no task made: `-`
abbrev pub no_group : List ℕ
no_group = 45 ∷ []

abbrev pub begins_with : List ℕ → List ℕ → Bool
begins_with [] text = true
begins_with (x ∷ xs) [] = false
begins_with (x ∷ xs) (y ∷ ys) = (x == y) && begins_with xs ys
