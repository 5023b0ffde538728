-- What look-ups promise of the keys: a publication that passes has one in the range.
use Rattle.std.specs.Prelude.{◌&&◌, ◌==◌, ◌∷◌, ◌≡◌, ◌≤◌, List, None, Option, Some, [], bytes_eq, cond, fold, nat_le, true, unsigned_abs, ℕ, ℤ}
use Rattle.std.specs.List.{list_any}
use Rattle.std.specs.Ordering.{int_eq}
use Rattle.std.proofs.Common.{ap, arith, inl, inr, refl, sym, ◌∙◌}
use Rattle.std.proofs.lemmas.Bool.{and_parts, cases_Bool, eqb-true, leb-true}
use Rattle.std.proofs.lemmas.Bool.Decides.{nat_tests}
use Rattle.std.proofs.lemmas.Int.{ints}
use Rattle.std.proofs.lemmas.Slice.Eq.{bytes_eq-Decides}
use Rattle.seg_names.specs.Ids.{same_extent, same_id}
use Rattle.seg_names.specs.declared.seg_id.SegId.{SegId}
use Rattle.book_rows.specs.Ids.{same_ids}
use Rattle.book_rows.specs.Kinds.{same_pub_kind}
use Rattle.book_rows.specs.Lists.{is_empty}
use Rattle.book_rows.specs.Publications.{forgets, is_like, is_of_same_stream, same_parts, same_range, same_ranges, spans_of}
use Rattle.book_rows.specs.Spans.{same_spans}
use Rattle.book_rows.specs.declared.kinds.PubKind.TheVariants as PubKinds
use Rattle.book_rows.specs.declared.rows.Publication.{Publication}
use Rattle.book_rows.specs.declared.rows.Range.{Range}
use Rattle.book_rows.specs.declared.rows.Ranges.{Ranges}
use Rattle.row_index.specs.Digests.{mix}
use Rattle.row_index.specs.Index.{In, IsReached}
use Rattle.tab_streams.specs.Keys.{added_keys, entry_keys, forgets_from, has_added, is_like_from, key_of, like_digest, mix_id, mix_range, mix_ranges, mix_stream, place_limit, place_of, range_from, reset_digest, stream_digest}
use Rattle.tab_streams.specs.declared.keys.Entry.{Entry}

same_text : (xs ys : List ℕ) → bytes_eq xs ys ≡ true → xs ≡ ys
same_text xs ys e = (bytes_eq-Decides xs ys).0 e

same_int : (x y : ℤ) → int_eq x y ≡ true → x ≡ y
same_int x y e = grind (arith, ints)

-- ---- places

place_mono : (from number : ℕ) → from ≤ number → place_of from ≤ place_of number
place_mono from number le = grind (arith, nat_tests)

place_low : (number : ℕ) → place_of number ≤ place_limit
place_low number = grind (arith, nat_tests)

reached_from : (digest from number : ℕ) (own : List (ℕ × ℤ)) → from ≤ number → In (key_of digest number) own → IsReached (range_from digest from ∷ []) own
reached_from digest from number own le there =
    let low : place_of from ≤ place_of number = place_mono from number le in
    let high : place_of number ≤ place_limit = place_low number in
    (range_from digest from, key_of digest number, inl refl, there, (refl, omega (arith, ints, low), omega (arith, ints, high)))

-- ---- digests of what is equal

id_mixes : (digest : ℕ) (a b : SegId) → same_id a b ≡ true → mix_id digest a ≡ mix_id digest b
id_mixes digest a b on =
    let all = and_parts (bytes_eq a.source b.source && same_extent a.span b.span && int_eq a.version b.version) (a.part == b.part) on in
    let three = and_parts (bytes_eq a.source b.source && same_extent a.span b.span) (int_eq a.version b.version) all.0 in
    let two = and_parts (bytes_eq a.source b.source) (same_extent a.span b.span) three.0 in
    let ends = and_parts (int_eq a.span.start b.span.start) (int_eq a.span.end b.span.end) two.1 in
    by a.source b.source a.span.start b.span.start a.version b.version a.part b.part (same_text a.source b.source two.0) (same_int a.span.start b.span.start ends.0) (same_int a.version b.version three.1)
    (eqb-true a.part b.part all.1) where
      by : (s z : List ℕ) (u v : ℤ) (x y : ℤ) (p q : ℕ) → s ≡ z → u ≡ v → x ≡ y → p ≡ q
          → mix (mix (fold mix (mix digest p) s) (unsigned_abs u)) (unsigned_abs x) ≡ mix (mix (fold mix (mix digest q) z) (unsigned_abs v)) (unsigned_abs y)
      by s z u v x y p q a b c d = rw (a, b, c, d) refl

ids_mix : (as' bs : List SegId) (digest : ℕ) → same_ids as' bs ≡ true → fold mix_id digest as' ≡ fold mix_id digest bs
ids_mix [] [] digest on = refl
ids_mix [] (b ∷ bs) digest on = cc
ids_mix (a ∷ as') [] digest on = cc
ids_mix (a ∷ as') (b ∷ bs) digest on =
    let both = and_parts (same_id a b) (same_ids as' bs) on in
    ap (λ d. fold mix_id d as') (id_mixes digest a b both.0) ∙ ids_mix as' bs (mix_id digest b) both.1

range_mixes : (digest : ℕ) (a b : Range) → same_range a b ≡ true → mix_range digest a ≡ mix_range digest b
range_mixes digest a b on =
    let all = and_parts ((a.partition == b.partition) && (a.start == b.start)) (a.end == b.end) on in
    let two = and_parts (a.partition == b.partition) (a.start == b.start) all.0 in
    by a.partition b.partition a.start b.start (eqb-true a.partition b.partition two.0) (eqb-true a.start b.start two.1) where
      by : (p q s t : ℕ) → p ≡ q → s ≡ t → mix (mix digest p) s ≡ mix (mix digest q) t
      by p q s t e f = rw (e, f) refl

parts_mix : (as' bs : List Range) (digest : ℕ) → same_parts as' bs ≡ true → fold mix_range digest as' ≡ fold mix_range digest bs
parts_mix [] [] digest on = refl
parts_mix [] (b ∷ bs) digest on = cc
parts_mix (a ∷ as') [] digest on = cc
parts_mix (a ∷ as') (b ∷ bs) digest on =
    let both = and_parts (same_range a b) (same_parts as' bs) on in
    ap (λ d. fold mix_range d as') (range_mixes digest a b both.0) ∙ parts_mix as' bs (mix_range digest b) both.1

ranges_mix : (a b : Option Ranges) (digest : ℕ) → same_ranges a b ≡ true → mix_ranges digest a ≡ mix_ranges digest b
ranges_mix None None digest on = refl
ranges_mix None (Some b) digest on = cc
ranges_mix (Some a) None digest on = cc
ranges_mix (Some a) (Some b) digest on =
    let both = and_parts (bytes_eq a.stream b.stream) (same_parts a.parts b.parts) on in
    ap (λ s. fold mix_range (fold mix digest s) a.parts) (same_text a.stream b.stream both.0) ∙ parts_mix a.parts b.parts (fold mix digest b.stream) both.1

stream_mixes : (a b : Option Ranges) (digest : ℕ) → is_of_same_stream a b ≡ true → mix_stream digest a ≡ mix_stream digest b
stream_mixes None None digest on = cc
stream_mixes None (Some b) digest on = cc
stream_mixes (Some a) None digest on = cc
stream_mixes (Some a) (Some b) digest on = ap (λ s. fold mix digest s) (same_text a.stream b.stream on)

like_mixes : (like m : Publication) → is_like like m ≡ true → like_digest m ≡ like_digest like
like_mixes like m on =
    let g = same_pub_kind m.kind like.kind && bytes_eq m.group like.group in
    let s = g && bytes_eq m.source like.source in
    let a = s && same_ids m.adds like.adds in
    let e = a && same_ids m.empties like.empties in
    let p = e && same_spans (spans_of m) (spans_of like) in
    let ranges = and_parts p (same_ranges m.ranges like.ranges) on in
    let spans = and_parts e (same_spans (spans_of m) (spans_of like)) ranges.0 in
    let empties = and_parts a (same_ids m.empties like.empties) spans.0 in
    let adds = and_parts s (same_ids m.adds like.adds) empties.0 in
    let source = and_parts g (bytes_eq m.source like.source) adds.0 in
    let group = and_parts (same_pub_kind m.kind like.kind) (bytes_eq m.group like.group) source.0 in
    ap (λ t. mix_ranges (fold mix_id (fold mix_id (fold mix (fold mix 2 t) m.source) m.adds) m.empties) m.ranges) (same_text m.group like.group group.1)
    ∙ (
    ap (λ t. mix_ranges (fold mix_id (fold mix_id (fold mix (fold mix 2 like.group) t) m.adds) m.empties) m.ranges) (same_text m.source like.source source.1)
    ∙ (
    ap (λ d. mix_ranges (fold mix_id d m.empties) m.ranges) (ids_mix m.adds like.adds (fold mix (fold mix 2 like.group) like.source) adds.1)
    ∙ (
    ap (λ d. mix_ranges d m.ranges) (ids_mix m.empties like.empties (fold mix_id (fold mix (fold mix 2 like.group) like.source) like.adds) empties.1)
    ∙ ranges_mix m.ranges like.ranges (fold mix_id (fold mix_id (fold mix (fold mix 2 like.group) like.source) like.adds) like.empties) ranges.1
    )
    )
    )

-- ---- what passes has a key in the range

added_in : (id : SegId) (number : ℕ) (ids : List SegId) → list_any (λ b. same_id b id) ids ≡ true → In (key_of (mix_id 1 id) number) (added_keys number ids)
added_in id number [] on = cc
added_in id number (a ∷ as') on =
    elim (cases_Bool (same_id a id)) [
      | inl here ↦ inl (ap (λ d. key_of d number) (sym (id_mixes 1 a id here)))
      | inr apart ↦ inr (added_in id number as' (rw apart at on))
    ]

pub added_covers : (id : SegId) (e : Entry) → has_added id e ≡ true → IsReached (range_from (mix_id 1 id) 0 ∷ []) (entry_keys e)
added_covers id e on = reached_from (mix_id 1 id) 0 e.number (entry_keys e) (omega arith) (inr (inr (added_in id e.number e.row.adds on)))

pub like_covers : (from : ℕ) (like : Publication) (e : Entry) → is_like_from from like e ≡ true → IsReached (range_from (like_digest like) from ∷ []) (entry_keys e)
like_covers from like e on =
    let both = and_parts (nat_le from e.number) (is_like like e.row) on in
    reached_from (like_digest like) from e.number (entry_keys e) (leb-true from e.number both.0) (inl (ap (λ d. key_of d e.number) (sym (like_mixes like e.row both.1))))

pub forgets_covers : (from : ℕ) (like : Publication) (e : Entry) → forgets_from from like e ≡ true → IsReached (range_from (stream_digest like) from ∷ []) (entry_keys e)
forgets_covers from like e on =
    let both = and_parts (nat_le from e.number) (forgets like e.row) on in
    let k = is_empty like.adds && is_empty like.empties && same_pub_kind e.row.kind PubKinds.Reset in
    let stream = and_parts (k && bytes_eq e.row.source like.source) (is_of_same_stream e.row.ranges like.ranges) both.1 in
    let source = and_parts k (bytes_eq e.row.source like.source) stream.0 in
    let kind = and_parts (is_empty like.adds && is_empty like.empties) (same_pub_kind e.row.kind PubKinds.Reset) source.0 in
    let own : reset_digest e.row ≡ stream_digest e.row = ap (λ b. cond b (stream_digest e.row) (like_digest e.row)) kind.1 in
    let same : stream_digest e.row ≡ stream_digest like =
    ap (λ s. mix_stream (fold mix 3 s) e.row.ranges) (same_text e.row.source like.source source.1) ∙ stream_mixes e.row.ranges like.ranges (fold mix 3 like.source) stream.1 in
    reached_from (stream_digest like) from e.number (entry_keys e) (leb-true from e.number both.0) (inr (inl (ap (λ d. key_of d e.number) (sym (own ∙ same)))))
