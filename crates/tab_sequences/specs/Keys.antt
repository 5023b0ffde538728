-- The keys by which sequences are found. No contract of a public call of the table names them.
use Rattle.std.specs.Prelude.{◌+◌, ◌∷◌, List, cond, fold, map, nat_lt, pos, ℕ, ℤ}
use Rattle.book_rows.specs.Kinds.{is_unpublished}
use Rattle.book_rows.specs.Sequences.{name_of}
use Rattle.book_rows.specs.declared.rows.SequenceRow.{SequenceRow}
use Rattle.row_index.specs.Digests.{mix}
use Rattle.row_index.specs.Index.{digest_key}

abbrev pub name_digest : List ℕ → ℕ
name_digest name = fold mix 1 name

abbrev pub source_digest : List ℕ → ℕ
source_digest source = fold mix 2 source

abbrev pub live_digest : List ℕ → ℕ
live_digest task = fold mix 3 task

-- the places among the keys of one source end here
abbrev pub place_limit : ℕ
place_limit = 4294967296

abbrev pub group_place : ℕ → ℕ
group_place group = cond (nat_lt group place_limit) group place_limit

abbrev pub group_key : List ℕ → ℕ → ℕ × ℤ
group_key source group = (source_digest source, pos (group_place group))

abbrev pub name_key : List ℕ → ℕ × ℤ
name_key name = digest_key (name_digest name)

-- an unpublished sequence is found by its group; any other has the key of its name once more
abbrev pub open_key : SequenceRow → ℕ × ℤ
open_key u = cond (is_unpublished u.state) (group_key u.source u.group) (name_key (name_of u))

abbrev pub live_keys : List (List ℕ) → List (ℕ × ℤ)
live_keys live = map (λ task. digest_key (live_digest task)) live

-- a sequence is found by its name, by its group, and by each live replica
abbrev pub sequence_keys : SequenceRow → List (ℕ × ℤ)
sequence_keys u = name_key (name_of u) ∷ open_key u ∷ live_keys u.live

abbrev pub group_range : List ℕ → ℕ → (ℕ × ℤ) × ℤ
group_range source group = (group_key source group, pos (group_place group + 1))

abbrev pub source_range : List ℕ → (ℕ × ℤ) × ℤ
source_range source = ((source_digest source, pos 0), pos (place_limit + 1))
