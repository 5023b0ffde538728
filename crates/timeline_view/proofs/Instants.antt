-- The instants at which a span is looked at: its start, and the ends within it. Between two of them nothing changes.
use Rattle.std.proofs.Common.{Bool, List, [], ap, arith, cond, false, fold, inl, inr, int_le, int_lt, refl, true, ℤ, ◌&&◌, ◌∷◌, ◌≡◌, ◌⊎◌}
use Rattle.std.proofs.lemmas.Bool.{cases_Bool}
use Rattle.std.proofs.lemmas.Int.{ints}
use Rattle.std.specs.BTreeSet.{insert_key}
use Rattle.std.specs.Ordering.{int_cmp, is_eq, match_ordering}
use Rattle.std.specs.declared.cmp.Ordering.{Ordering}
use Rattle.std.specs.declared.cmp.Ordering.TheVariants as Orderings
use Rattle.iv_span.specs.Extent.{Extent, has}
use Rattle.book_rows.specs.Lists.{In}
use Rattle.book_rows.specs.declared.rows.SegmentRow.{SegmentRow}
use Rattle.row_index.proofs.IndexLemmas.{int_means}
use Rattle.timeline_view.specs.Looks.{ends_over, put_end, put_row_ends, row_ends}

-- ---- one instant

insert_here : (t : ℤ) (ts : List ℤ) → In t (insert_key int_cmp ts t)
insert_here t [] = inl refl
insert_here t (u ∷ ts) = go (int_cmp t u) refl (insert_here t ts) where
  go : (o : Ordering) → int_cmp t u ≡ o → In t (insert_key int_cmp ts t) → In t (match_ordering o (t ∷ u ∷ ts) (u ∷ ts) (u ∷ insert_key int_cmp ts t))
  go Orderings.Less e rest = inl refl
  go Orderings.Equal e rest = inl (int_means t u (ap is_eq e))
  go Orderings.Greater e rest = inr rest

insert_kept : (t x : ℤ) (ts : List ℤ) → In x ts → In x (insert_key int_cmp ts t)
insert_kept t x [] i = absurd i
insert_kept t x (u ∷ ts) i = go (int_cmp t u) i (insert_kept t x ts) where
  go : (o : Ordering) → In x (u ∷ ts) → (In x ts → In x (insert_key int_cmp ts t)) → In x (match_ordering o (t ∷ u ∷ ts) (u ∷ ts) (u ∷ insert_key int_cmp ts t))
  go Orderings.Less i rest = inr i
  go Orderings.Equal i rest = i
  go Orderings.Greater (inl e) rest = inl e
  go Orderings.Greater (inr i) rest = inr (rest i)

insert_back : (t x : ℤ) (ts : List ℤ) → In x (insert_key int_cmp ts t) → (x ≡ t) ⊎ In x ts
insert_back t x [] (inl e) = inl e
insert_back t x [] (inr i) = absurd i
insert_back t x (u ∷ ts) i = go (int_cmp t u) i (insert_back t x ts) where
  go : (o : Ordering) → In x (match_ordering o (t ∷ u ∷ ts) (u ∷ ts) (u ∷ insert_key int_cmp ts t)) → (In x (insert_key int_cmp ts t) → (x ≡ t) ⊎ In x ts) → (x ≡ t) ⊎ In x (u ∷ ts)
  go Orderings.Less (inl e) rest = inl e
  go Orderings.Less (inr i) rest = inr i
  go Orderings.Equal i rest = inr i
  go Orderings.Greater (inl e) rest = inr (inl e)
  go Orderings.Greater (inr i) rest = elim (rest i) [ inl e ↦ inl e | inr j ↦ inr (inr j) ]

-- ---- those of a span

-- all of them lie in it
abbrev pub LieIn : Extent → List ℤ → Type 0
LieIn span ts = (x : ℤ) → In x ts → has span x ≡ true

module _ (span : Extent) where
  put_has : (t : ℤ) (ts : List ℤ) → has span t ≡ true → In t (put_end span ts t)
  put_has t ts h = rw h (insert_here t ts)

  put_kept : (t x : ℤ) (ts : List ℤ) → In x ts → In x (put_end span ts t)
  put_kept t x ts i = elim (cases_Bool (has span t)) [ inl on ↦ rw on (insert_kept t x ts i) | inr off ↦ rw off i ]

  put_lies : (t : ℤ) (ts : List ℤ) → LieIn span ts → LieIn span (put_end span ts t)
  put_lies t ts lie x i = go (has span t) refl i where
    go : (b : Bool) → has span t ≡ b → In x (cond b (insert_key int_cmp ts t) ts) → has span x ≡ true
    go true e i = elim (insert_back t x ts i) [ inl same ↦ rw same e | inr j ↦ lie x j ]
    go false e i = lie x i

  ends_kept : (x : ℤ) (es ts : List ℤ) → In x ts → In x (fold (put_end span) ts es)
  ends_kept x [] ts i = i
  ends_kept x (e ∷ es) ts i = ends_kept x es (put_end span ts e) (put_kept e x ts i)

  ends_had : (x : ℤ) (es ts : List ℤ) → In x es → has span x ≡ true → In x (fold (put_end span) ts es)
  ends_had x [] ts i h = absurd i
  ends_had x (e ∷ es) ts (inl same) h = ends_kept x es (put_end span ts e) (rw (← same) (put_has x ts h))
  ends_had x (e ∷ es) ts (inr i) h = ends_had x es (put_end span ts e) i h

  ends_lie : (es ts : List ℤ) → LieIn span ts → LieIn span (fold (put_end span) ts es)
  ends_lie [] ts lie = lie
  ends_lie (e ∷ es) ts lie = ends_lie es (put_end span ts e) (put_lies e ts lie)

  rows_kept : (x : ℤ) (rs : List SegmentRow) (ts : List ℤ) → In x ts → In x (fold (put_row_ends span) ts rs)
  rows_kept x [] ts i = i
  rows_kept x (r ∷ rs) ts i = rows_kept x rs (put_row_ends span ts r) (ends_kept x (row_ends r) ts i)

  rows_had : (x : ℤ) (r : SegmentRow) (rs : List SegmentRow) (ts : List ℤ) → In r rs → In x (row_ends r) → has span x ≡ true → In x (fold (put_row_ends span) ts rs)
  rows_had x r [] ts i j h = absurd i
  rows_had x r (q ∷ rs) ts (inl same) j h = rows_kept x rs (put_row_ends span ts q) (rw (← same) (ends_had x (row_ends r) ts j h))
  rows_had x r (q ∷ rs) ts (inr i) j h = rows_had x r rs (put_row_ends span ts q) i j h

  rows_lie : (rs : List SegmentRow) (ts : List ℤ) → LieIn span ts → LieIn span (fold (put_row_ends span) ts rs)
  rows_lie [] ts lie = lie
  rows_lie (r ∷ rs) ts lie = rows_lie rs (put_row_ends span ts r) (ends_lie (row_ends r) ts lie)

  -- ---- all that are looked at

  -- an end of a row's span or of its root's is one of them
  pub ends_In : (x : ℤ) (r : SegmentRow) (rs : List SegmentRow) → In r rs → In x (row_ends r) → has span x ≡ true → In x (ends_over span rs)
  ends_In x r rs i j h = rows_had x r rs (put_end span [] span.start) i j h

  pub start_In : (rs : List SegmentRow) → has span span.start ≡ true → In span.start (ends_over span rs)
  start_In rs h = rows_kept span.start rs (put_end span [] span.start) (put_has span.start [] h)

  pub all_lie : (rs : List SegmentRow) → LieIn span (ends_over span rs)
  all_lie rs = rows_lie rs (put_end span [] span.start) (put_lies span.start [] (λ x i. absurd i))

-- ---- two instants of the span

starts : (s e t : ℤ) → (int_le s t && int_lt t e) ≡ true → (int_le s s && int_lt s e) ≡ true
starts s e t h = grind (arith, ints)

pub has_start : (span : Extent) (t : ℤ) → has span t ≡ true → has span span.start ≡ true
has_start span t h = starts span.start span.end t h

outside_both : (s e x t c : ℤ) → (int_le s x && int_lt x e) ≡ false → (int_le s t && int_lt t e) ≡ true → (int_le s c && int_lt c e) ≡ true → int_le x t ≡ int_le x c
outside_both s e x t c off h k = grind (arith, ints)

-- what lies outside the span is before both, or after both
pub outside : (span : Extent) (x t c : ℤ) → has span x ≡ false → has span t ≡ true → has span c ≡ true → int_le x t ≡ int_le x c
outside span x t c off h k = outside_both span.start span.end x t c off h k
