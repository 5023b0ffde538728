-- What the look-ups and changes promise of the keys.
use Rattle.std.specs.Prelude.{◌≡◌, ℕ, ◌==◌, true, [], ◌∷◌, Option, Some, None, refl}
use Rattle.std.proofs.Common.{inl, inr}
use Rattle.std.proofs.lemmas.Bool.{eqb-true}
use Rattle.iv_span.specs.Extent.{Extent, overlap}
use Rattle.row_index.specs.Index.{In, IsReached, digest_range}
use Rattle.row_index.proofs.IndexLemmas.{digest_reached}
use Rattle.row_table.specs.Table.{BringsOnly, HasNoNewKeys}
use Rattle.span_keys.specs.Classes.{span_ranges}
use Rattle.span_keys.proofs.SpanLemmas.{span_reached}
use Rattle.tests_rows.specs.Marks.{group_digest, group_key, group_keys, is_in, joined, left, mark_keys, name_digest}
use Rattle.tests_rows.specs.declared.marks.Mark.{Mark}

pub name_covers : (name : ℕ) (r : Mark) → (r.name == name) ≡ true → IsReached (digest_range (name_digest name) ∷ []) (mark_keys r)
name_covers name r on = let same : r.name ≡ name = eqb-true r.name name on in digest_reached (name_digest name) (mark_keys r) (inl (rw same refl))

pub span_covers : (span : Extent) (r : Mark) → overlap r.span span ≡ true → IsReached (span_ranges 4 span) (mark_keys r)
span_covers span r on = span_reached 4 r.span span on (mark_keys r) (inr (inl refl))

group_in : (group : ℕ) (o : Option ℕ) → is_in group o ≡ true → In (group_key group) (group_keys o)
group_in group None on = cc
group_in group (Some own) on = let same : own ≡ group = eqb-true own group on in inl (rw same refl)

pub group_covers : (group : ℕ) (r : Mark) → is_in group r.group ≡ true → IsReached (digest_range (group_digest group) ∷ []) (mark_keys r)
group_covers group r on = digest_reached (group_digest group) (mark_keys r) (inr (inr (group_in group r.group on)))

pub left_keeps : (r : Mark) → HasNoNewKeys (mark_keys r) (mark_keys (left r))
left_keeps r k there = elim there [ inl e ↦ inl e | inr (inl e) ↦ inr (inl e) | inr (inr none) ↦ absurd none ]

pub joined_brings : (group : ℕ) (r : Mark) → BringsOnly (mark_keys r) (mark_keys (joined group r)) (group_key group ∷ [])
joined_brings group r k there = elim there [ inl e ↦ inl (inl e) | inr (inl e) ↦ inl (inr (inl e)) | inr (inr new) ↦ inr new ]
