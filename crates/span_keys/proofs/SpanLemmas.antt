-- A span that overlaps has its key in one of the ranges.
use Rattle.std.proofs.Common.{◌≡◌, ℕ, ℤ, pos, ◌-ℤ◌, ◌≤ℤ◌, ◌<ℤ◌, ◌+ℤ◌, true, List, arith, inl, inr, refl}
use Rattle.std.specs.Prelude.{int_le}
use Rattle.std.specs.Int.{int_max}
use Rattle.std.proofs.lemmas.Bool.{cases_Bool}
use Rattle.std.proofs.lemmas.Int.{ints}
use Rattle.iv_span.specs.Extent.{Extent, overlap}
use Rattle.row_index.specs.Index.{In, Lies, IsReached}
use Rattle.span_keys.specs.Classes.{floor, class_digest, span_key, range_up_to, range_beyond, span_ranges}

pub max_low : (x y z : ℤ) → x ≤ℤ y → int_max x z ≤ℤ int_max y z
max_low x y z le = grind (arith, ints)

pub max_high : (x y : ℤ) → x <ℤ y → int_max x floor <ℤ int_max y (floor +ℤ pos 1)
max_high x y lt = grind (arith, ints)

pub floor_low : (x : ℤ) → floor ≤ℤ int_max x floor
floor_low x = grind (arith, ints)

pub starts_after : (s asked : Extent) (long : ℤ) → overlap s asked ≡ true → int_le (s.end -ℤ s.start) long ≡ true → (asked.start -ℤ (long -ℤ pos 1)) ≤ℤ s.start
starts_after s asked long on short = grind (arith, ints)

pub starts_before : (s asked : Extent) → overlap s asked ≡ true → s.start <ℤ asked.end
starts_before s asked on = grind (arith, ints)

module _ (digest : ℕ) (s asked : Extent) (on : overlap s asked ≡ true) where
  lies_up_to : (class : ℕ) (long : ℤ) → int_le (s.end -ℤ s.start) long ≡ true → Lies (range_up_to digest asked class long) (class_digest digest class, int_max s.start floor)
  lies_up_to class long short = (refl, max_low (asked.start -ℤ (long -ℤ pos 1)) s.start floor (starts_after s asked long on short), max_high s.start asked.end (starts_before s asked on))

  lies_beyond : Lies (range_beyond digest asked) (class_digest digest 7, int_max s.start floor)
  lies_beyond = (refl, floor_low s.start, max_high s.start asked.end (starts_before s asked on))

  -- a row that has the key of a span that overlaps has a key in one of the ranges
  pub span_reached : (own : List (ℕ × ℤ)) → In (span_key digest s) own → IsReached (span_ranges digest asked) own
  span_reached own there =
      elim (cases_Bool (int_le (s.end -ℤ s.start) (pos 60000))) [
        | inl c0 ↦ (range_up_to digest asked 0 (pos 60000), span_key digest s, inl refl, there, rw (c0) (lies_up_to 0 (pos 60000) c0))
        | inr c0 ↦
            elim (cases_Bool (int_le (s.end -ℤ s.start) (pos 900000))) [
              | inl c1 ↦ (range_up_to digest asked 1 (pos 900000), span_key digest s, inr (inl refl), there, rw (c0, c1) (lies_up_to 1 (pos 900000) c1))
              | inr c1 ↦
                  elim (cases_Bool (int_le (s.end -ℤ s.start) (pos 3600000))) [
                    | inl c2 ↦ (range_up_to digest asked 2 (pos 3600000), span_key digest s, inr (inr (inl refl)), there, rw (c0, c1, c2) (lies_up_to 2 (pos 3600000) c2))
                    | inr c2 ↦
                        elim (cases_Bool (int_le (s.end -ℤ s.start) (pos 86400000))) [
                          | inl c3 ↦ (range_up_to digest asked 3 (pos 86400000), span_key digest s, inr (inr (inr (inl refl))), there, rw (c0, c1, c2, c3) (lies_up_to 3 (pos 86400000) c3))
                          | inr c3 ↦
                              elim (cases_Bool (int_le (s.end -ℤ s.start) (pos 604800000))) [
                                | inl c4 ↦ (range_up_to digest asked 4 (pos 604800000), span_key digest s, inr (inr (inr (inr (inl refl)))), there, rw (c0, c1, c2, c3, c4) (lies_up_to 4 (pos 604800000) c4))
                                | inr c4 ↦
                                    elim (cases_Bool (int_le (s.end -ℤ s.start) (pos 2678400000))) [
                                      | inl c5 ↦ (range_up_to digest asked 5 (pos 2678400000), span_key digest s, inr (inr (inr (inr (inr (inl refl))))), there, rw (c0, c1, c2, c3, c4, c5) (lies_up_to 5 (pos 2678400000) c5))
                                      | inr c5 ↦
                                          elim (cases_Bool (int_le (s.end -ℤ s.start) (pos 31622400000))) [
                                            | inl c6 ↦ (range_up_to digest asked 6 (pos 31622400000), span_key digest s, inr (inr (inr (inr (inr (inr (inl refl)))))), there, rw (c0, c1, c2, c3, c4, c5, c6) (lies_up_to 6 (pos 31622400000) c6))
                                            | inr c6 ↦ (range_beyond digest asked, span_key digest s, inr (inr (inr (inr (inr (inr (inr (inl refl))))))), there, rw (c0, c1, c2, c3, c4, c5, c6) lies_beyond)
                                          ]
                                    ]
                              ]
                        ]
                  ]
            ]
      ]
