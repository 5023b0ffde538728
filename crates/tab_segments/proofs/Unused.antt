-- Segments that become unused, place by place.
use Rattle.std.proofs.Common.{◌&&◌, ◌+◌, ◌<◌, ◌<ℤ◌, ◌∙◌, ◌∷◌, ◌≤◌, ◌≡◌, ◌⊎◌, Bool, List, None, Some, [], ap, arith, cond, false, get_or, inl, inr, length, map, not, refl, slice_get, slice_set, subst, suc, sym, true, zero, ℕ, ℤ}
use Rattle.std.specs.Prelude.{⊤}
use Rattle.std.proofs.lemmas.Bool.{and_parts, cases_Bool, cases_order}
use Rattle.iv_span.specs.Extent.{Extent}
use Rattle.row_index.specs.Index.{Comes, CountsOrComes, HasAll, In, IsIndexed, IsKey, IsLess, Lies, Shows}
use Rattle.row_index.proofs.IndexLemmas.{Entries, place_of}
use Rattle.span_keys.specs.Classes.{span_ranges}
use Rattle.book_rows.specs.Rewrite.{unused}
use Rattle.book_rows.specs.declared.rows.SegmentRow.{SegmentRow}
use Rattle.tab_segments.specs.Keys.{entry_keys, used_digest, used_keys}
use Rattle.tab_segments.specs.Laws.{taken_reached}
use Rattle.tab_segments.specs.Leading.{AreNoMore, HaveRealSpans, IsReal, changed_place, is_taken, lies_within, rows_in, unused_entry}
use Rattle.tab_segments.specs.declared.entries.Entry.{Entry}
use Rattle.tab_segments.proofs.Rows.{all_get, get_unmapped}

-- ---- one place

pub set_changed : (f : Entry → Entry) (es : List Entry) (n : ℕ) (d : Entry) → n < length es → d ≡ get_or es n d → slice_set es n (f d) ≡ changed_place n f es
set_changed f [] n d lt is = absurd (omega (arith, lt))
set_changed f (e ∷ es) zero d lt is = ap (λ x. f x ∷ es) is
set_changed f (e ∷ es) (suc n) d lt is = ap (λ l. e ∷ l) (set_changed f es n d (omega (arith, lt)) is)

pub none_changed : (f : Entry → Entry) (es : List Entry) (n : ℕ) → length es ≤ n → es ≡ changed_place n f es
none_changed f [] zero le = refl
none_changed f [] (suc n) le = refl
none_changed f (e ∷ es) zero le = absurd (omega (arith, le))
none_changed f (e ∷ es) (suc n) le = ap (λ l. e ∷ l) (none_changed f es n (omega (arith, le)))

map_changed : (f : Entry → Entry) → ((e : Entry) → f (f e) ≡ f e) → (es : List Entry) (n : ℕ) → map f (changed_place n f es) ≡ map f es
map_changed f twice [] zero = refl
map_changed f twice [] (suc n) = refl
map_changed f twice (e ∷ es) zero = ap (λ x. x ∷ map f es) (twice e)
map_changed f twice (e ∷ es) (suc n) = ap (λ l. f e ∷ l) (map_changed f twice es n)

-- ---- the change

bit_twice : (a l : Bool) → ((a && not l) && not l) ≡ (a && not l)
bit_twice true true = refl
bit_twice true false = refl
bit_twice false l = refl

bit_kept : (a l : Bool) → (a && l) ≡ false → (a && not l) ≡ a
bit_kept true true off = cc
bit_kept true false off = refl
bit_kept false l off = refl

bit_gone : (a l : Bool) → ((a && not l) && l) ≡ true → ⊥
bit_gone true true on = cc
bit_gone true false on = cc
bit_gone false l on = cc

module _ (source : List ℕ) (span : Extent) where
  pub unused_twice : (e : Entry) → unused_entry source span (unused_entry source span e) ≡ unused_entry source span e
  unused_twice e = ap (λ b. record e { row = record e.row { used = b } }) (bit_twice e.row.used (lies_within source span e.row))

  pub same_place : (es : List Entry) (n : ℕ) → map (unused_entry source span) (changed_place n (unused_entry source span) es) ≡ map (unused_entry source span) es
  same_place es n = map_changed (unused_entry source span) unused_twice es n

  not_taken : (d e : Entry) → unused_entry source span d ≡ e → is_taken source span e ≡ true → ⊥
  not_taken d e is on = bit_gone d.row.used (lies_within source span d.row) (subst (λ x. is_taken source span x ≡ true) (sym is) on)

  -- what is still to become unused stood there before
  pub fewer_place : (es : List Entry) (n : ℕ) → AreNoMore source span es (changed_place n (unused_entry source span) es)
  fewer_place [] zero s e got on = got
  fewer_place [] (suc n) s e got on = got
  fewer_place (d ∷ ds) zero zero e got on = (let is : unused_entry source span d ≡ e = cc in absurd (not_taken d e is on))
  fewer_place (d ∷ ds) zero (suc s) e got on = got
  fewer_place (d ∷ ds) (suc n) zero e got on = got
  fewer_place (d ∷ ds) (suc n) (suc s) e got on = fewer_place ds n s e got on

  gone_place : (es : List Entry) (n : ℕ) (e : Entry) → slice_get (changed_place n (unused_entry source span) es) n ≡ Some e → is_taken source span e ≡ true → ⊥
  gone_place [] zero e got on = cc
  gone_place [] (suc n) e got on = cc
  gone_place (d ∷ ds) zero e got on = (let is : unused_entry source span d ≡ e = cc in not_taken d e is on)
  gone_place (d ∷ ds) (suc n) e got on = gone_place ds n e got on

  pub rows_unused : (es : List Entry) → rows_in (map (unused_entry source span) es) ≡ map (unused source span) (rows_in es)
  rows_unused [] = refl
  rows_unused (e ∷ es) = ap (λ l. unused source span e.row ∷ l) (rows_unused es)

  -- ---- the walk

  -- each that is still to become unused, and has a key in the range, is still to come
  abbrev pub IsToCome : List Entry → (ℕ × ℤ) × ℤ → Entries → Entries → Type 0
  IsToCome es g ks left = CountsOrComes (λ s e. ⊥) (slice_get es) (is_taken source span) g ks left

  pub come_on : (es : List Entry) (g : (ℕ × ℤ) × ℤ) (ks : Entries) (k : ((ℕ × ℤ) × ℕ) × ⊤) (left : Entries) → IsToCome es g ks (k ∷ left) → IsToCome (changed_place k.0.1 (unused_entry source span) es) g ks left
  come_on es g ks k left old s e j got on lies there =
      elim (old s e j (fewer_place es k.0.1 s e got on) on lies there) [
        | inl none ↦ inl none
        | inr (inl here) ↦ absurd (gone_place es k.0.1 e (subst (λ n. slice_get (changed_place k.0.1 (unused_entry source span) es) n ≡ Some e) (sym here) got) on)
        | inr (inr later) ↦ inr later
      ]

  pub none_comes : (es : List Entry) (g : (ℕ × ℤ) × ℤ) (ks : Entries) → IsToCome es g ks [] → HasAll (λ s e. ⊥) (slice_get es) (is_taken source span) g ks
  none_comes es g ks old s e j got on lies there = elim (old s e j got on lies there) [ inl none ↦ none | inr none ↦ elim none [ ] ]

  -- ---- all ranges

  pub no_more_then : (a b c : List Entry) → AreNoMore source span a b → AreNoMore source span b c → AreNoMore source span a c
  no_more_then a b c first second s e got on = first s e (second s e got on) on

  pub none_then : (b c : List Entry) (g : (ℕ × ℤ) × ℤ) (ks : Entries) → AreNoMore source span b c → HasAll (λ s e. ⊥) (slice_get b) (is_taken source span) g ks → HasAll (λ s e. ⊥) (slice_get c) (is_taken source span) g ks
  none_then b c g ks fewer none s e j got on lies there = none s e j (fewer s e got on) on lies there

  none_taken : (es : List Entry) → ((s : ℕ) (e : Entry) → slice_get es s ≡ Some e → is_taken source span e ≡ true → ⊥) → map (unused_entry source span) es ≡ es
  none_taken [] none = refl
  none_taken (e ∷ es) none =
      elim (cases_Bool (is_taken source span e)) [
        | inl on ↦ absurd (none 0 e refl on)
        | inr off ↦
            (let kept : unused_entry source span e ≡ e = ap (λ b. record e { row = record e.row { used = b } }) (bit_kept e.row.used (lies_within source span e.row) off) in
            ap (λ x. x ∷ map (unused_entry source span) es) kept ∙ ap (λ l. e ∷ l) (none_taken es (λ s d got on. none (suc s) d got on)))
      ]

  -- where each range has none left, all are unused
  pub all_unused : (before after : List Entry) (ks : Entries) → IsIndexed entry_keys (slice_get before) ks → HaveRealSpans before → map (unused_entry source span) after ≡ map (unused_entry source span) before → AreNoMore source span before after
      → ((i : ℕ) (g : (ℕ × ℤ) × ℤ) → i < length (span_ranges (used_digest source) span) → slice_get (span_ranges (used_digest source) span) i ≡ Some g → HasAll (λ s e. ⊥) (slice_get after) (is_taken source span) g ks)
      → after ≡ map (unused_entry source span) before
  all_unused before after ks indexed filled same fewer none =
      sym (none_taken after (λ s e got on.
      let was = fewer s e got on in
      let some = all_get (λ d. IsReal d.row.id.span) before s e filled was in
      let own = taken_reached source span e some.0 on in
      let p = place_of own.0 (span_ranges (used_digest source) span) own.2 in
      none p.0 own.0 p.1 p.2 s e own.1 got on own.4 (indexed s e was own.1 own.3)))
      ∙ same

  -- ---- the index, and the spans

  fewer_keys : (a b : Bool) (own : List (ℕ × ℤ)) (k : ℕ × ℤ) → In k (cond (a && b) own []) → In k (cond a own [])
  fewer_keys true true own k there = there
  fewer_keys true false own k there = elim there [ ]
  fewer_keys false b own k there = there

  pub indexed_unused : (es : List Entry) (ks : Entries) → IsIndexed entry_keys (slice_get es) ks → IsIndexed entry_keys (slice_get (map (unused_entry source span) es)) ks
  indexed_unused es ks old s e got k there =
      let from = get_unmapped (unused_entry source span) es s e got in
      let there' : In k (entry_keys (unused_entry source span from.0)) = subst (λ x. In k (entry_keys x)) (sym from.2) there in
      old s from.0 from.1 k (fewer_keys from.0.row.used (not (lies_within source span from.0.row)) (used_keys from.0.leads from.0.row.id) k there')

-- ---- keys that a segment has lost

-- the index with fewer keys of one place, where the segment there keeps its own
pub index_less : (es : List Entry) (ks ks' : Entries) (n : ℕ) (e : Entry) → slice_get es n ≡ Some e → IsLess n ks ks' → (Shows (entry_keys e) n ks → Shows (entry_keys e) n ks')
    → IsIndexed entry_keys (slice_get es) ks → IsIndexed entry_keys (slice_get es) ks'
index_less es ks ks' n e got less own old s d here k there =
    elim (cases_order s n) [
      | inl same ↦
          (let here' : slice_get es n ≡ Some d = subst (λ m. slice_get es m ≡ Some d) same here in
          let both : Some d ≡ Some e = sym here' ∙ got in
          let e' : d ≡ e = cc in
          subst (λ m. IsKey ks' (k, m)) (sym same) (own (old n e got) k (subst (λ x. In k (entry_keys x)) e' there)))
      | inr (inl low) ↦ less (k, s) (λ same. omega (arith, low, same)) (old s d here k there)
      | inr (inr high) ↦ less (k, s) (λ same. omega (arith, high, same)) (old s d here k there)
    ]
