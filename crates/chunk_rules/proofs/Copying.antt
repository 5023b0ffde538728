-- Copies of pendings and chunks above others, as the rule says it.
use Rattle.std.proofs.Common.{Bool, List, Option, [], ap, arith, cond, false, inl, inr, map, nat_le, nat_lt, not, refl, suc, sym, true, zero, ℕ, ℤ, ◌&&◌, ◌++◌, ◌+◌, ◌<◌, ◌==◌, ◌∙◌, ◌∷◌, ◌≡◌, ◌≤◌, ◌||◌}
use Rattle.std.proofs.lemmas.Bool.{and_parts, cases_Bool}
use Rattle.std.proofs.lemmas.Bool.Decides.{Decides-int_eq, nat_tests}
use Rattle.std.proofs.lemmas.Slice.Eq.{bytes_eq-Decides}
use Rattle.std.specs.List.{list_all, list_any}
use Rattle.std.specs.Ordering.{int_eq}
use Rattle.std.specs.Prelude.{bytes_eq, int_lt}
use Rattle.iv_span.specs.Extent.{Extent, covers, overlap}
use Rattle.seg_names.specs.Ids.{same_extent, same_id}
use Rattle.seg_names.specs.declared.seg_id.SegId.{SegId}
use Rattle.book_rows.specs.Lists.{count}
use Rattle.book_rows.specs.declared.rows.Book.{Book}
use Rattle.book_rows.specs.declared.rows.ChunkRow.{ChunkRow}
use Rattle.book_rows.specs.declared.rows.PendingRow.{PendingRow}
use Rattle.book_rows.specs.declared.rows.SegmentRow.{SegmentRow}
use Rattle.laws_chunks.proofs.Spans.{same_extent_means, same_id_means}
use Rattle.laws_unsound.specs.ChunkRows.{copied_row, has_copies, has_copy, implies, is_live, is_root_in, lacks_copies, one_lacks}
use Rattle.laws_unsound.specs.Counts.{before_chunks}
use Rattle.laws_unsound.specs.Rows.{first_clashing}
use Rattle.book_rows.specs.Allocation.{is_of_chunk}
use Rattle.chunk_rules.specs.Copies.{CopyAt, RootChunk, are_alike, copies_after, has_copy_by, has_root_in, is_bare, is_copy_at, is_copy_in, is_lacking, is_one_bare, lacks_a_copy, root_chunk}
use Rattle.chunk_rules.specs.Lives.{ChunkAt, chunk_at}
use Rattle.row_search.proofs.Walking.{any_joined, any_same, clashing_map, clashing_same}

-- ---- pendings of one chunk and one root

abbrev is_of : List ℕ → Extent → ℤ → SegId → Bool
is_of source s version a = bytes_eq a.source source && same_extent a.span s && int_eq a.version version

-- what is like a copy is a copy
alike : (d : ChunkRow) (root : SegId) (p q : PendingRow) → is_copy_in d root p ≡ true → are_alike p q ≡ is_copy_in d root q
alike d root p q on =
    let both = and_parts (is_of_chunk d p.id) (same_id p.root root) on in
    let all = and_parts (bytes_eq p.id.source d.source && same_extent p.id.span d.span) (int_eq p.id.version d.version) both.0 in
    let two = and_parts (bytes_eq p.id.source d.source) (same_extent p.id.span d.span) all.0 in
    by p.id.source p.id.span p.id.version p.root ((bytes_eq-Decides p.id.source d.source).0 two.0) (same_extent_means p.id.span d.span two.1) ((Decides-int_eq p.id.version d.version).0 all.1) (same_id_means p.root root both.1) where
      by : (s : List ℕ) (e : Extent) (v : ℤ) (r : SegId) → s ≡ d.source → e ≡ d.span → v ≡ d.version → r ≡ root → (is_of s e v q.id && same_id q.root r) ≡ (is_of d.source d.span d.version q.id && same_id q.root root)
      by s e v r i j k l = rw (i, j, k, l) refl

lt_on : (n m : ℕ) → n < m → nat_lt n m ≡ true
lt_on n m lt = grind (arith, nat_tests)

eq_off : (n m : ℕ) → m < n → (n == m) ≡ false
eq_off n m lt = grind (arith, nat_tests)

one_more : (n : ℕ) → nat_lt 1 (1 + n) ≡ nat_lt 0 n
one_more zero = refl
one_more (suc n) = lt_on 1 (1 + suc n) (omega arith) ∙ sym (lt_on 0 (suc n) (omega arith))

only_one : (n : ℕ) → (nat_lt 0 n && not (nat_lt 1 n)) ≡ (n == 1)
only_one zero = refl
only_one (suc zero) = refl
only_one (suc (suc n)) = rw (lt_on 0 (suc (suc n)) (omega arith), lt_on 1 (suc (suc n)) (omega arith), eq_off (suc (suc n)) 1 (omega arith)) refl

none_after : (b : Bool) → (b && false) ≡ false
none_after true = refl
none_after false = refl

module _ (p : PendingRow → Bool) where
  each_listed : (before ps : List PendingRow) → list_any (λ x. p x.pending) (copies_after before ps) ≡ list_any p ps
  each_listed before [] = refl
  each_listed before (q ∷ ps) = ap (λ (b : Bool). p q || b) (each_listed (before ++ q ∷ []) ps)

  some_counted : (ps : List PendingRow) → list_any p ps ≡ nat_lt 0 (count p ps)
  some_counted [] = refl
  some_counted (q ∷ ps) = elim (cases_Bool (p q)) [ inl on ↦ rw on (sym (lt_on 0 (1 + count p ps) (omega arith))) | inr off ↦ rw off (some_counted ps) ]

  module _ (agrees : (q r : PendingRow) → p q ≡ true → are_alike q r ≡ p r) where
    -- one is there again where one was before, or there are two
    again_counted : (before ps : List PendingRow) → list_any (λ x. x.again && p x.pending) (copies_after before ps) ≡ cond (list_any p before) (list_any p ps) (nat_lt 1 (count p ps))
    again_counted before [] = elim (cases_Bool (list_any p before)) [ inl on ↦ rw on refl | inr off ↦ rw off refl ]
    again_counted before (q ∷ ps) = elim (cases_Bool (p q)) [
      | inl on ↦
          (ap (λ (b : Bool). (b && p q) || list_any (λ x. x.again && p x.pending) (copies_after (before ++ q ∷ []) ps)) (any_same (are_alike q) p before (λ r. agrees q r on))
          ∙ (ap (λ (b : Bool). (list_any p before && p q) || b) (again_counted (before ++ q ∷ []) ps ∙ ap (λ (b : Bool). cond b (list_any p ps) (nat_lt 1 (count p ps))) (any_joined p before q)) ∙ found on))
      | inr off ↦
          (ap (λ (b : Bool). (list_any (are_alike q) before && p q) || b) (again_counted (before ++ q ∷ []) ps ∙ ap (λ (b : Bool). cond b (list_any p ps) (nat_lt 1 (count p ps))) (any_joined p before q)) ∙ missed off)
    ] where
      found : p q ≡ true → ((list_any p before && p q) || cond (p q || list_any p before) (list_any p ps) (nat_lt 1 (count p ps))) ≡ cond (list_any p before) (p q || list_any p ps) (nat_lt 1 (cond (p q) (1 + count p ps) (count p ps)))
      found on = elim (cases_Bool (list_any p before)) [ inl there ↦ rw (on, there) refl | inr none ↦ rw (on, none) (some_counted ps ∙ sym (one_more (count p ps))) ]

      missed : p q ≡ false → ((list_any (are_alike q) before && p q) || cond (p q || list_any p before) (list_any p ps) (nat_lt 1 (count p ps))) ≡ cond (list_any p before) (p q || list_any p ps) (nat_lt 1 (cond (p q) (1 + count p ps) (count p ps)))
      missed off = rw (off, none_after (list_any (are_alike q) before)) refl

    counted_once : (ps : List PendingRow) → (list_any (λ x. p x.pending) (copies_after [] ps) && not (list_any (λ x. x.again && p x.pending) (copies_after [] ps))) ≡ (count p ps == 1)
    counted_once ps = by _ _ (each_listed [] ps ∙ some_counted ps) (again_counted [] ps) where
      by : (a b : Bool) → a ≡ nat_lt 0 (count p ps) → b ≡ nat_lt 1 (count p ps) → (a && not b) ≡ (count p ps == 1)
      by a b e f = rw (e, f) (only_one (count p ps))

copy_same : (ps : List PendingRow) (d : ChunkRow) (r : PendingRow) → has_copy_by (copies_after [] ps) d r ≡ has_copy ps d r
copy_same ps d r = ap (λ (b : Bool). covers d.span r.id.span && b) (counted_once (is_copy_in d r.id) (alike d r.id) ps)

-- ---- what an upper chunk lacks

not_both : (a b : Bool) → not (a && b) ≡ (not a || not b)
not_both true b = refl
not_both false b = refl

not_implied : (a b : Bool) → not (implies a b) ≡ (a && not b)
not_implied true b = refl
not_implied false b = refl

not_all : {X : Type 0} (p q : X → Bool) (xs : List X) → ((x : X) → not (p x) ≡ q x) → not (list_all p xs) ≡ list_any q xs
not_all p q [] e = refl
not_all p q (x ∷ xs) e = not_both (p x) (list_all p xs) ∙ (ap (λ (b : Bool). b || not (list_all p xs)) (e x) ∙ ap (λ (b : Bool). q x || b) (not_all p q xs e))

not_above : (n : ℕ) → not (nat_lt 0 n) ≡ (n == 0)
not_above zero = refl
not_above (suc n) = rw (lt_on 0 (suc n) (omega arith), eq_off (suc n) 0 (omega arith)) refl

lacks_same : (ps : List PendingRow) (c d : ChunkRow) → lacks_a_copy (copies_after [] ps) ps c d ≡ not (list_all (λ r. implies (is_root_in c r) (has_copy ps d r)) ps)
lacks_same ps c d =
    sym (not_all (λ r. implies (is_root_in c r) (has_copy ps d r)) (is_lacking (copies_after [] ps) c d) ps (λ r. not_implied (is_root_in c r) (has_copy ps d r) ∙ ap (λ (b : Bool). is_root_in c r && not b) (sym (copy_same ps d r))))

bare_same : (ps : List PendingRow) (c d : ChunkRow) → not (has_copies ps c d) ≡ ((d.core == 0) || lacks_a_copy (copies_after [] ps) ps c d)
bare_same ps c d =
    not_both (nat_lt 0 d.core) (list_all (λ r. implies (is_root_in c r) (has_copy ps d r)) ps)
    ∙ (ap (λ (b : Bool). b || not (list_all (λ r. implies (is_root_in c r) (has_copy ps d r)) ps)) (not_above d.core) ∙ ap (λ (b : Bool). (d.core == 0) || b) (sym (lacks_same ps c d)))

-- what is found of both is found of the first
found_first : {X : Type 0} (p q : X → Bool) (xs : List X) → (list_any p xs && list_any (λ x. p x && q x) xs) ≡ list_any (λ x. p x && q x) xs
found_first p q [] = refl
found_first p q (x ∷ xs) = elim (cases_Bool (p x)) [
  | inl on ↦ rw on refl
  | inr off ↦ rw off (found_first p q xs)
]

five : (a b c d e f g : Bool) → f ≡ g → (a && (b && (c && (d && (e && f))))) ≡ ((a && (b && (c && (d && e)))) && g)
five true true true true true f g s = s
five true true true true false f g s = refl
five true true true false e f g s = refl
five true true false d e f g s = refl
five true false c d e f g s = refl
five false b c d e f g s = refl

lacking_same : (rows : List SegmentRow) (ps : List PendingRow) (c d : ChunkRow) → is_bare (lacks_a_copy (copies_after [] ps) ps) (root_chunk ps (chunk_at rows ps c)) (root_chunk ps (chunk_at rows ps d)) ≡ lacks_copies rows ps c d
lacking_same rows ps c d =
    five (is_live rows ps c) (is_live rows ps d) (bytes_eq c.source d.source) (overlap c.span d.span) (int_lt c.version d.version)
    ((d.core == 0) || (has_root_in ps c && lacks_a_copy (copies_after [] ps) ps c d)) (not (has_copies ps c d))
    (ap (λ (b : Bool). (d.core == 0) || b) (found_first (is_root_in c) (λ r. not (has_copy_by (copies_after [] ps) d r)) ps) ∙ sym (bare_same ps c d))

both_same : (a b c d : Bool) → a ≡ c → b ≡ d → (a || b) ≡ (c || d)
both_same a b c d e f = rw (e, f) refl

copied_same : (k : ℕ) (rows : List SegmentRow) (ps : List PendingRow) (cs : List ChunkRow) → first_clashing k (is_one_bare (lacks_a_copy (copies_after [] ps) ps)) (map (root_chunk ps) (map (chunk_at rows ps) cs)) ≡ first_clashing k (one_lacks rows ps) cs
copied_same k rows ps cs =
    clashing_map k lacks (root_chunk ps) (map (chunk_at rows ps) cs)
    ∙ (clashing_map k (λ x y. lacks (root_chunk ps x) (root_chunk ps y)) (chunk_at rows ps) cs
    ∙ clashing_same k (λ c d. lacks (root_chunk ps (chunk_at rows ps c)) (root_chunk ps (chunk_at rows ps d))) (one_lacks rows ps) cs
    (λ c d. both_same _ _ _ _ (lacking_same rows ps c d) (lacking_same rows ps d c))) where
      lacks : RootChunk → RootChunk → Bool
      lacks = is_one_bare (lacks_a_copy (copies_after [] ps) ps)

-- what the walk finds is the rule's row
pub copied_found : (b : Book) (before : ℕ) (xs : List CopyAt) (own : List PendingRow) (ys : List ChunkAt) (row : Option ℕ) → before ≡ before_chunks b → xs ≡ copies_after [] b.pendings → own ≡ b.pendings
    → ys ≡ map (chunk_at b.segments b.pendings) b.chunks → row ≡ first_clashing before (is_one_bare (lacks_a_copy xs own)) (map (root_chunk own) ys) → row ≡ copied_row b
copied_found b before xs own ys row e f g h is = is ∙ rw (e, f, g, h) (copied_same (before_chunks b) b.segments b.pendings b.chunks)
