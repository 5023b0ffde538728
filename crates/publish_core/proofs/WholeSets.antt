-- Whether a span is filled, by its own ids and tombstones.
use Rattle.std.proofs.Common.{Bool, List, [], ap, arith, cond, false, filter, length, map, nat_le, refl, suc, sym, true, ℕ, ◌&&◌, ◌==◌, ◌||◌, ◌∙◌, ◌∷◌, ◌≡◌, ◌≤◌}
use Rattle.std.proofs.lemmas.Bool.{ne_eqb}
use Rattle.iv_span.specs.Extent.{Extent}
use Rattle.seg_names.specs.declared.seg_id.SegId.{SegId}
use Rattle.book_rows.specs.Ids.{is_of_span}
use Rattle.book_rows.specs.Lists.{ascending, inserted, is_empty, merged, same_numbers}
use Rattle.book_rows.specs.Over.{is_filled, is_whole_set}

and_true : (b : Bool) → (b && true) ≡ b
and_true true = refl
and_true false = refl

and_false : (b : Bool) → (b && false) ≡ false
and_false true = refl
and_false false = refl

or_false : (b : Bool) → (b || false) ≡ b
or_false true = refl
or_false false = refl

pub none_there : {X : Type 0} (xs : List X) → is_empty xs ≡ (length xs == 0)
none_there [] = refl
none_there (x ∷ xs) = sym (ne_eqb (suc (length xs)) 0 (λ e. omega (arith, e)))

-- ---- numbers in order

inserted_some : (n : ℕ) (ms : List ℕ) → is_empty (inserted n ms) ≡ false
inserted_some n [] = refl
inserted_some n (m ∷ ms) = go (nat_le n m) where
  go : (b : Bool) → is_empty (cond b (n ∷ m ∷ ms) (m ∷ inserted n ms)) ≡ false
  go true = refl
  go false = refl

abbrev parts : List SegId → List ℕ
parts ids = ascending (map (λ a. a.part) ids)

pub empty_parts : (ids : List SegId) → is_empty (parts ids) ≡ is_empty ids
empty_parts [] = refl
empty_parts (a ∷ ids) = inserted_some a.part (merged (map (λ a. a.part) ids) [])

-- more than one number isn't one number
two_differ : (n m : ℕ) (ms : List ℕ) → same_numbers (n ∷ m ∷ ms) (0 ∷ []) ≡ false
two_differ n m ms = and_false (n == 0)

inserted_two : (n m : ℕ) (ms : List ℕ) → same_numbers (inserted n (m ∷ ms)) (0 ∷ []) ≡ false
inserted_two n m ms = go (nat_le n m) (inserted n ms) (inserted_some n ms) where
  go : (b : Bool) (rest : List ℕ) → is_empty rest ≡ false → same_numbers (cond b (n ∷ m ∷ ms) (m ∷ rest)) (0 ∷ []) ≡ false
  go true rest some = two_differ n m ms
  go false [] some = cc
  go false (k ∷ ks) some = two_differ m k ks

pub several_differ : (a b : SegId) (ids : List SegId) → same_numbers (parts (a ∷ b ∷ ids)) (0 ∷ []) ≡ false
several_differ a b ids = go (merged (map (λ a. a.part) (b ∷ ids)) []) (inserted_some b.part (merged (map (λ a. a.part) ids) [])) where
  go : (ns : List ℕ) → is_empty ns ≡ false → same_numbers (inserted a.part ns) (0 ∷ []) ≡ false
  go [] some = cc
  go (m ∷ ms) some = inserted_two a.part m ms

pub more_differ : (ids : List SegId) → 2 ≤ length ids → false ≡ same_numbers (parts ids) (0 ∷ [])
more_differ [] h = absurd (omega (arith, h))
more_differ (a ∷ []) h = absurd (omega (arith, h))
more_differ (a ∷ b ∷ ids) h = sym (several_differ a b ids)

-- ---- a span

module _ (ids tombs : List SegId) (span : Extent) where
  abbrev own : List SegId
  own = filter (is_of_span span) ids

  abbrev covering : List SegId
  covering = filter (is_of_span span) tombs

  -- no tombstone
  pub filled_by_ids : is_empty covering ≡ true → is_filled ids tombs span ≡ is_whole_set (parts own)
  filled_by_ids none = go covering none where
    go : (ts : List SegId) → is_empty ts ≡ true → ((is_whole_set (parts own) && is_empty (parts ts)) || (is_empty (parts own) && same_numbers (parts ts) (0 ∷ []))) ≡ is_whole_set (parts own)
    go [] none = rw (and_true (is_whole_set (parts own)), and_false (is_empty (parts own)), or_false (is_whole_set (parts own))) refl
    go (t ∷ ts) none = cc

  -- a tombstone, or several
  pub filled_by_tombstone : is_empty covering ≡ false → is_filled ids tombs span ≡ (is_empty own && same_numbers (parts covering) (0 ∷ []))
  filled_by_tombstone some = go (is_empty (parts covering)) (empty_parts covering ∙ some) where
    go : (e : Bool) → e ≡ false → ((is_whole_set (parts own) && e) || (is_empty (parts own) && same_numbers (parts covering) (0 ∷ []))) ≡ (is_empty own && same_numbers (parts covering) (0 ∷ []))
    go true off = cc
    go false off = rw (and_false (is_whole_set (parts own)), empty_parts own) refl

  -- ids beside a tombstone
  pub not_filled : (ids' tombs' : List SegId) (none empty : Bool) → tombs' ≡ covering → none ≡ (length tombs' == 0) → none ≡ false → ids' ≡ own → empty ≡ (length ids' == 0) → empty ≡ false
      → empty ≡ is_filled ids tombs span
  not_filled ids' tombs' none empty covers none_is off owns empty_is some =
      let tombstone : is_empty covering ≡ false = none_there covering ∙ (ap (λ (ts : List SegId). length ts == 0) (sym covers) ∙ (sym none_is ∙ off)) in
      let id : is_empty own ≡ false = none_there own ∙ (ap (λ (as' : List SegId). length as' == 0) (sym owns) ∙ (sym empty_is ∙ some)) in
      some ∙ sym (filled_by_tombstone tombstone ∙ ap (λ (e : Bool). e && same_numbers (parts covering) (0 ∷ [])) id)
