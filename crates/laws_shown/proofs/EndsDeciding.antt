-- The start of a span and the ends within it decide what holds at its instants.
use Rattle.std.proofs.Common.{List, false, inl, inr, int_le, int_lt, refl, sym, true, ℤ, ◌∙◌, ◌≡◌}
use Rattle.std.proofs.lemmas.Bool.{and_from, and_parts, false≢true}
use Rattle.std.specs.List.{list_all, list_any}
use Rattle.iv_span.specs.Extent.{Extent, has}
use Rattle.book_rows.specs.Lists.{In}
use Rattle.book_rows.specs.Spans.{cuts, put_cut}
use Rattle.laws_chunks.proofs.Members.{In-filter, all_pass, any_In, any_from_In, filter_In, list_all_In}
use Rattle.laws_shown.specs.Ends.{AreAlike, EndsDecide, EndsDecideAll, HoldsSomewhere, ends_within}
use Rattle.laws_shown.proofs.Cuts.{IsLastBefore, alike_between, last_before, put_here, put_kept, starts_In}
use Rattle.laws_chunks.proofs.Spans.{le_lt}

at_least : (a c t : ℤ) → int_le a t ≡ true → int_le a t ≡ int_le a c → int_le a c ≡ true
at_least a c t h e = sym e ∙ h

-- an instant of the span is alike to its start or to an end within it
pub alike_end : (span : Extent) (spans : List Extent) (t : ℤ) → has span t ≡ true → (c : ℤ) × In c (ends_within span spans) × AreAlike spans t c
alike_end span spans t h = elim (last_before (put_cut span.start (cuts spans)) t) [
  | inl none ↦ absurd (false≢true (sym (none span.start (put_here span.start (cuts spans))) ∙ (and_parts (int_le span.start t) (int_lt t span.end) h).0))
  | inr l ↦ (l.0, within l.0 l.1, alike_between spans (put_cut span.start (cuts spans)) t l.0 (λ x i. put_kept span.start x (cuts spans) i) l.1.none_between)
] where
  within : (c : ℤ) → IsLastBefore (put_cut span.start (cuts spans)) t c → In c (ends_within span spans)
  within c l =
      let both = and_parts (int_le span.start t) (int_lt t span.end) h in
      filter_In (has span) c (put_cut span.start (cuts spans)) l.among
      (and_from (int_le span.start c) (int_lt c span.end) (at_least span.start c t both.0 (l.none_between span.start (put_here span.start (cuts spans)))) (le_lt c t span.end l.before both.1))

in_span : (span : Extent) (spans : List Extent) (c : ℤ) → In c (ends_within span spans) → has span c ≡ true
in_span span spans c i = (In-filter (has span) c (put_cut span.start (cuts spans)) i).1

pub ends_decide : EndsDecide
ends_decide span spans test depends = record {
  throughout = (λ all t h. at_all all t h (alike_end span spans t h), λ holds. all_pass test (ends_within span spans) (λ c i. holds c (in_span span spans c i)));
  somewhere = (λ some. from_some (any_In test (ends_within span spans) some), λ w. any_end w (alike_end span spans w.0 w.1));
} where
  at_all : list_all test (ends_within span spans) ≡ true → (t : ℤ) → has span t ≡ true → (c : ℤ) × In c (ends_within span spans) × AreAlike spans t c → test t ≡ true
  at_all all t h e = depends t e.0 h (in_span span spans e.0 e.1) e.2 ∙ list_all_In test e.0 (ends_within span spans) e.1 all

  from_some : (c : ℤ) × In c (ends_within span spans) × (test c ≡ true) → HoldsSomewhere span test
  from_some w = (w.0, in_span span spans w.0 w.1, w.2)

  any_end : (w : HoldsSomewhere span test) → (c : ℤ) × In c (ends_within span spans) × AreAlike spans w.0 c → list_any test (ends_within span spans) ≡ true
  any_end w e = any_from_In test e.0 (ends_within span spans) e.1 (sym (depends w.0 e.0 w.1 (in_span span spans e.0 e.1) e.2) ∙ w.2)

-- ---- all instants

off_alike : (s : Extent) (t u : ℤ) → int_le s.start t ≡ false → int_le s.start u ≡ false → has s t ≡ has s u
off_alike s t u a b = rw (a, b) refl

pub ends_decide_all : EndsDecideAll
ends_decide_all spans test before depends first here = (λ all t. at_any all t, λ holds. all_pass test (cuts spans) (λ c i. holds c)) where
  at_any : list_all test (cuts spans) ≡ true → (t : ℤ) → test t ≡ true
  at_any all t = elim (last_before (cuts spans) t) [
    | inl none ↦ depends t before (λ s i. off_alike s t before (none s.start (starts_In s spans i)) (first s i)) ∙ here
    | inr l ↦ depends t l.0 (alike_between spans (cuts spans) t l.0 (λ x i. i) l.1.none_between) ∙ list_all_In test l.0 (cuts spans) l.1.among all
  ]
