-- The parts of the ids and tombstones of a filled span.
use Rattle.std.proofs.Common.{List, [], ap, arith, filter, inl, inr, length, not, sym, true, ◌&&◌, ◌<◌, ◌∙◌, ◌∷◌, ◌≡◌, ◌⊎◌}
use Rattle.std.proofs.lemmas.Bool.{and_parts}
use Rattle.std.specs.List.{range_with_len}
use Rattle.iv_span.specs.Extent.{Extent}
use Rattle.seg_names.specs.declared.seg_id.SegId.{SegId}
use Rattle.book_rows.specs.Ids.{is_of_span}
use Rattle.book_rows.specs.Lists.{In, is_empty, same_numbers}
use Rattle.book_rows.specs.Over.{is_filled, is_whole_set, parts_of}
use Rattle.book_rows.specs.Rewrite.{core_by, core_of}
use Rattle.laws_chunks.proofs.CheckedSpans.{core_is, length_parts, none_length, off_is, or_cases, some_length}
use Rattle.laws_chunks.proofs.IdOrder.{same_numbers_means}
use Rattle.laws_chunks.proofs.WholeParts.{parts_low}

-- no element stands in a list without length
none_in : {X : Type 0} (xs : List X) → length xs ≡ 0 → (x : X) → In x xs → ⊥
none_in [] h x i = i
none_in (y ∷ ys) h x i = absurd (omega (arith, h))

module _ (ids tombs : List SegId) (span : Extent) (h : is_filled ids tombs span ≡ true) where
  -- its ids have the parts from 0 on, and no tombstone is there, or one tombstone of part 0, and no id
  by_ids_or_tomb : ((is_whole_set (parts_of span ids) && is_empty (parts_of span tombs)) ≡ true) ⊎ ((is_empty (parts_of span ids) && same_numbers (parts_of span tombs) (0 ∷ [])) ≡ true)
  by_ids_or_tomb = or_cases (is_whole_set (parts_of span ids) && is_empty (parts_of span tombs)) (is_empty (parts_of span ids) && same_numbers (parts_of span tombs) (0 ∷ [])) h

  no_ids : (list : List SegId) → is_empty (parts_of span list) ≡ true → (a : SegId) → In a (filter (is_of_span span) list) → ⊥
  no_ids list none a i = none_in (filter (is_of_span span) list) (sym (length_parts span list) ∙ none_length (parts_of span list) none) a i

  pub own_low : (a : SegId) → In a (filter (is_of_span span) ids) → a.part < core_of ids span
  own_low a i = elim by_ids_or_tomb [
    | inl on ↦
        let both = and_parts (is_whole_set (parts_of span ids)) (is_empty (parts_of span tombs)) on in
        let whole = and_parts (not (is_empty (parts_of span ids))) (same_numbers (parts_of span ids) (range_with_len 0 (length (parts_of span ids)))) both.0 in
        let some : 0 < length (parts_of span ids) = some_length (parts_of span ids) (off_is (is_empty (parts_of span ids)) whole.0) in
        let as_long : length (parts_of span ids) ≡ length (filter (is_of_span span) ids) = length_parts span ids in
        let core : core_by (length (filter (is_of_span span) ids)) ≡ length (filter (is_of_span span) ids) = core_is (length (filter (is_of_span span) ids)) (omega (arith, some, as_long)) in
        let low : a.part < length (parts_of span ids) = parts_low span ids (length (parts_of span ids)) (same_numbers_means (parts_of span ids) (range_with_len 0 (length (parts_of span ids))) whole.1) a i in
        omega (arith, low, as_long, core)
    | inr on ↦ absurd (no_ids ids (and_parts (is_empty (parts_of span ids)) (same_numbers (parts_of span tombs) (0 ∷ [])) on).0 a i)
  ]

  pub tomb_is : (a : SegId) → In a (filter (is_of_span span) tombs) → (a.part ≡ 0) × (core_of ids span ≡ 1)
  tomb_is a i = elim by_ids_or_tomb [
    | inl on ↦ absurd (no_ids tombs (and_parts (is_whole_set (parts_of span ids)) (is_empty (parts_of span tombs)) on).1 a i)
    | inr on ↦
        let both = and_parts (is_empty (parts_of span ids)) (same_numbers (parts_of span tombs) (0 ∷ [])) on in
        let low : a.part < 1 = parts_low span tombs 1 (same_numbers_means (parts_of span tombs) (0 ∷ []) both.1) a i in
        let none : length (filter (is_of_span span) ids) ≡ 0 = sym (length_parts span ids) ∙ none_length (parts_of span ids) both.0 in
        (omega (arith, low), ap core_by none)
  ]

  pub not_both : (a c : SegId) → In a (filter (is_of_span span) ids) → In c (filter (is_of_span span) tombs) → ⊥
  not_both a c i j = elim by_ids_or_tomb [
    | inl on ↦ no_ids tombs (and_parts (is_whole_set (parts_of span ids)) (is_empty (parts_of span tombs)) on).1 c j
    | inr on ↦ no_ids ids (and_parts (is_empty (parts_of span ids)) (same_numbers (parts_of span tombs) (0 ∷ [])) on).0 a i
  ]
