use Rattle.std.specs.Prelude.{ℕ, ℤ, ◌+◌, ◌%◌, ◌==◌, Bool, false, List, [], ◌∷◌, Option, Some, None}
use Rattle.row_index.specs.Index.{digest_key}
use Rattle.span_keys.specs.Classes.{span_key}
use Rattle.tests_rows.specs.declared.marks.Mark.{Mark}

-- digests that collide
abbrev pub name_digest : ℕ → ℕ
name_digest name = name % 2

abbrev pub group_digest : ℕ → ℕ
group_digest group = 2 + group % 2

abbrev pub group_key : ℕ → ℕ × ℤ
group_key group = digest_key (group_digest group)

abbrev pub group_keys : Option ℕ → List (ℕ × ℤ)
group_keys None = []
group_keys (Some group) = group_key group ∷ []

-- a row is found by its name, by its span, and by its group
abbrev pub mark_keys : Mark → List (ℕ × ℤ)
mark_keys r = digest_key (name_digest r.name) ∷ span_key 4 r.span ∷ group_keys r.group

abbrev pub is_in : ℕ → Option ℕ → Bool
is_in group None = false
is_in group (Some own) = own == group

abbrev pub left : Mark → Mark
left r = record r { group = None }

abbrev pub joined : ℕ → Mark → Mark
joined group r = record r { group = Some group }
