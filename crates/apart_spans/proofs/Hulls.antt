-- A span that has all of a list.
use Rattle.std.proofs.Common.{List, [], arith, inl, inr, true, ℤ, ◌++◌, ◌<ℤ◌, ◌∷◌, ◌≡◌, ◌≤ℤ◌}
use Rattle.std.specs.Int.{int_max, int_min}
use Rattle.std.specs.List.{list_any}
use Rattle.std.specs.Prelude.{int_lt}
use Rattle.std.proofs.lemmas.Bool.{and_from, and_parts, cases_Bool}
use Rattle.std.proofs.lemmas.Int.{ints}
use Rattle.iv_span.specs.Extent.{Extent, overlap}
use Rattle.apart_spans.specs.Apart.{Bounds, joined}
use Rattle.apart_spans.proofs.SpanPlaces.{lt_true, true_lt}

pub min_left : (a b : ℤ) → int_min a b ≤ℤ a
min_left a b = grind (arith, ints)

pub min_right : (a b : ℤ) → int_min a b ≤ℤ b
min_right a b = grind (arith, ints)

pub max_left : (a b : ℤ) → a ≤ℤ int_max a b
max_left a b = grind (arith, ints)

pub max_right : (a b : ℤ) → b ≤ℤ int_max a b
max_right a b = grind (arith, ints)

pub stays_real : (a b : Extent) → a.start <ℤ a.end → int_min a.start b.start <ℤ int_max a.end b.end
stays_real a b real = grind (arith, ints)

-- joined to one more, it has all of the list with that
wider : (h b : Extent) (spans : List Extent) → Bounds h spans → Bounds (joined h b) spans
wider h b [] all = tt
wider h b (s ∷ ss) all =
    let start : int_min h.start b.start ≤ℤ h.start = min_left h.start b.start in
    let end' : h.end ≤ℤ int_max h.end b.end = max_left h.end b.end in
    let own_start : h.start ≤ℤ s.start = all.0.0 in
    let own_end : s.end ≤ℤ h.end = all.0.1 in
    ((omega (arith, ints), omega (arith, ints)), wider h b ss all.1)

push : (h b : Extent) (spans : List Extent) → Bounds h spans → h.start ≤ℤ b.start → b.end ≤ℤ h.end → Bounds h (spans ++ b ∷ [])
push h b [] all start end' = ((start, end'), tt)
push h b (s ∷ ss) all start end' = (all.0, push h b ss all.1 start end')

pub one_more : (h b : Extent) (spans : List Extent) → Bounds h spans → Bounds (joined h b) (spans ++ b ∷ [])
one_more h b spans all = push (joined h b) b spans (wider h b spans all) (min_right h.start b.start) (max_right h.end b.end)

-- what overlaps one of the spans overlaps the span that has them all
pub meets_hull : (h s : Extent) (spans : List Extent) → Bounds h spans → list_any (λ x. overlap x s) spans ≡ true → overlap s h ≡ true
meets_hull h s [] all on = cc
meets_hull h s (x ∷ xs) all on =
    elim (cases_Bool (overlap x s)) [
      | inl here ↦
          let both = and_parts (int_lt x.start s.end) (int_lt s.start x.end) here in
          let left : x.start <ℤ s.end = true_lt x.start s.end both.0 in
          let right : s.start <ℤ x.end = true_lt s.start x.end both.1 in
          let own_start : h.start ≤ℤ x.start = all.0.0 in
          let own_end : x.end ≤ℤ h.end = all.0.1 in
          and_from (int_lt s.start h.end) (int_lt h.start s.end) (lt_true s.start h.end (omega (arith, ints))) (lt_true h.start s.end (omega (arith, ints)))
      | inr apart ↦ meets_hull h s xs all.1 (rw apart at on)
    ]
