-- What look-ups promise of the keys: a row that passes has one in the ranges.
use Rattle.std.specs.Prelude.{◌&&◌, ◌++◌, ◌==◌, ◌∷◌, ◌≡◌, Bool, List, None, Option, Some, [], bytes_eq, cond, fold, true, unsigned_abs, ℕ, ℤ}
use Rattle.std.specs.Ordering.{int_eq}
use Rattle.std.proofs.Common.{ap, arith, inl, inr, int_lt, refl, sym, ◌∙◌}
use Rattle.std.proofs.lemmas.Bool.{and_parts, cases_Bool, eqb-true}
use Rattle.std.proofs.lemmas.Int.{ints}
use Rattle.std.proofs.lemmas.Slice.Eq.{bytes_eq-Decides}
use Rattle.iv_span.specs.Extent.{Extent, covers, overlap}
use Rattle.seg_names.specs.Ids.{same_extent, same_id}
use Rattle.seg_names.specs.declared.seg_id.SegId.{SegId}
use Rattle.book_rows.specs.Allocation.{is_known, is_pending_over, is_root}
use Rattle.book_rows.specs.Append.{is_root_of}
use Rattle.book_rows.specs.Ids.{same_previous}
use Rattle.book_rows.specs.Lists.{stands_in}
use Rattle.book_rows.specs.Over.{straddles_one}
use Rattle.book_rows.specs.Rewrite.{is_copied, is_taken_up}
use Rattle.book_rows.specs.Spans.{overlaps_one}
use Rattle.book_rows.specs.declared.rows.PendingRow.{PendingRow}
use Rattle.book_rows.specs.declared.rows.UpgradeRow.{UpgradeRow}
use Rattle.row_index.specs.Digests.{mix}
use Rattle.row_index.specs.Index.{In, IsReached, digest_key, digest_range}
use Rattle.row_index.proofs.IndexLemmas.{digest_reached}
use Rattle.span_keys.specs.Classes.{span_key, span_ranges}
use Rattle.span_keys.proofs.SpanLemmas.{span_reached}
use Rattle.tab_pending.specs.Keys.{carry_digest, carry_ranges, lock_digest, lock_ranges, mix_id, mix_previous, own_digest, pending_keys, ranges_over, request_digest, root_digest, source_digest, upgrade_keys}
use Rattle.tab_pending.specs.Searches.{MeetsAll, is_copied_over, is_of_one, is_over_one, is_root_across, is_root_over, is_taken_over, is_upgrade_across}

same_text : (xs ys : List ℕ) → bytes_eq xs ys ≡ true → xs ≡ ys
same_text xs ys e = (bytes_eq-Decides xs ys).0 e

same_int : (x y : ℤ) → int_eq x y ≡ true → x ≡ y
same_int x y e = grind (arith, ints)

-- ---- digests of what is equal

id_mixes : (digest : ℕ) (a b : SegId) → same_id a b ≡ true → mix_id digest a ≡ mix_id digest b
id_mixes digest a b on =
    let all = and_parts (bytes_eq a.source b.source && same_extent a.span b.span && int_eq a.version b.version) (a.part == b.part) on in
    let three = and_parts (bytes_eq a.source b.source && same_extent a.span b.span) (int_eq a.version b.version) all.0 in
    let two = and_parts (bytes_eq a.source b.source) (same_extent a.span b.span) three.0 in
    let ends = and_parts (int_eq a.span.start b.span.start) (int_eq a.span.end b.span.end) two.1 in
    by a.source b.source a.span.start b.span.start a.version b.version a.part b.part (same_text a.source b.source two.0) (same_int a.span.start b.span.start ends.0) (same_int a.version b.version three.1)
    (eqb-true a.part b.part all.1) where
      by : (s z : List ℕ) (u v : ℤ) (x y : ℤ) (p q : ℕ) → s ≡ z → u ≡ v → x ≡ y → p ≡ q
          → mix (mix (fold mix (mix digest p) s) (unsigned_abs u)) (unsigned_abs x) ≡ mix (mix (fold mix (mix digest q) z) (unsigned_abs v)) (unsigned_abs y)
      by s z u v x y p q a b c d = rw (a, b, c, d) refl

previous_mixes : (a b : Option SegId) (digest : ℕ) → same_previous a b ≡ true → mix_previous digest a ≡ mix_previous digest b
previous_mixes None None digest on = refl
previous_mixes None (Some b) digest on = cc
previous_mixes (Some a) None digest on = cc
previous_mixes (Some a) (Some b) digest on = id_mixes digest a b on

-- ---- one range, or one of several

in_front : {X : Type 0} (x : X) (xs ys : List X) → In x xs → In x (xs ++ ys)
in_front x [] ys there = absurd there
in_front x (y ∷ xs) ys there = elim there [ inl e ↦ inl e | inr later ↦ inr (in_front x xs ys later) ]

in_back : {X : Type 0} (x : X) (xs ys : List X) → In x ys → In x (xs ++ ys)
in_back x [] ys there = there
in_back x (y ∷ xs) ys there = inr (in_back x xs ys there)

reached_front : (gs hs : List ((ℕ × ℤ) × ℤ)) (own : List (ℕ × ℤ)) → IsReached gs own → IsReached (gs ++ hs) own
reached_front gs hs own r = (r.0, r.1, in_front r.0 gs hs r.2, r.3, r.4)

reached_back : (gs hs : List ((ℕ × ℤ) × ℤ)) (own : List (ℕ × ℤ)) → IsReached hs own → IsReached (gs ++ hs) own
reached_back gs hs own r = (r.0, r.1, in_back r.0 gs hs r.2, r.3, r.4)

turned : (a b : Extent) → overlap a b ≡ true → overlap b a ≡ true
turned a b on = let parts = and_parts (int_lt a.start b.end) (int_lt b.start a.end) on in rw (parts.1, parts.0) refl

-- a span that overlaps one of these has a key in one of their ranges
reached_over : (digest : ℕ) (s : Extent) (own : List (ℕ × ℤ)) → In (span_key digest s) own → (spans : List Extent) → overlaps_one spans s ≡ true → IsReached (ranges_over digest spans) own
reached_over digest s own there [] on = cc
reached_over digest s own there (x ∷ xs) on =
    elim (cases_Bool (overlap x s)) [
      | inl here ↦ reached_front (span_ranges digest x) (ranges_over digest xs) own (span_reached digest s x (turned x s here) own there)
      | inr apart ↦ reached_back (span_ranges digest x) (ranges_over digest xs) own (reached_over digest s own there xs (rw apart at on))
    ]

-- the number of one of these locks has a key in one of their ranges
reached_lock : (number : ℕ) (own : List (ℕ × ℤ)) → In (digest_key (lock_digest number)) own → (locks : List ℕ) → stands_in locks number ≡ true → IsReached (lock_ranges locks) own
reached_lock number own there [] on = cc
reached_lock number own there (m ∷ ms) on =
    elim (cases_Bool (m == number)) [
      | inl here ↦
          (let same : m ≡ number = eqb-true m number here in
          let there' : In (digest_key (lock_digest m)) own = rw same there in
          reached_front (digest_range (lock_digest m) ∷ []) (lock_ranges ms) own (digest_reached (lock_digest m) own there'))
      | inr apart ↦ reached_back (digest_range (lock_digest m) ∷ []) (lock_ranges ms) own (reached_lock number own there ms (rw apart at on))
    ]

straddles_meets : (spans : List Extent) (s : Extent) → straddles_one spans s ≡ true → overlaps_one spans s ≡ true
straddles_meets [] s on = on
straddles_meets (x ∷ xs) s on = elim (cases_Bool (overlap x s)) [ inl here ↦ rw here refl | inr apart ↦ rw apart (straddles_meets xs s (rw apart at on)) ]

-- ---- pendings

pub known_covers : (source sequence : List ℕ) (previous : Option SegId) (p : PendingRow) → is_known source sequence previous p ≡ true → IsReached (digest_range (request_digest source sequence previous) ∷ []) (pending_keys p)
known_covers source sequence previous p on =
    let all = and_parts (is_root p && bytes_eq p.id.source source && bytes_eq p.sequence sequence) (same_previous p.previous previous) on in
    let three = and_parts (is_root p && bytes_eq p.id.source source) (bytes_eq p.sequence sequence) all.0 in
    let two = and_parts (is_root p) (bytes_eq p.id.source source) three.0 in
    let own : own_digest p ≡ request_digest p.id.source p.sequence p.previous = ap (λ b. cond b (request_digest p.id.source p.sequence p.previous) (root_digest p.root)) two.0 in
    let same : request_digest p.id.source p.sequence p.previous ≡ request_digest source sequence previous =
    ap (λ s. mix_previous (fold mix (fold mix 2 s) p.sequence) p.previous) (same_text p.id.source source two.1)
    ∙ (
    ap (λ s. mix_previous (fold mix (fold mix 2 source) s) p.previous) (same_text p.sequence sequence three.1)
    ∙ previous_mixes p.previous previous (fold mix (fold mix 2 source) sequence) all.1
    ) in
    digest_reached (request_digest source sequence previous) (pending_keys p) (inr (inl (ap (λ d. digest_key d) (sym (own ∙ same)))))

-- a pending of the source has the key of its span
span_there : (source : List ℕ) (p : PendingRow) → bytes_eq p.id.source source ≡ true → In (span_key (source_digest source) p.id.span) (pending_keys p)
span_there source p on = let same : p.id.source ≡ source = same_text p.id.source source on in inl (rw same refl)

pub over_covers : (source : List ℕ) (span : Extent) (p : PendingRow) → is_pending_over source span p ≡ true → IsReached (span_ranges (source_digest source) span) (pending_keys p)
over_covers source span p on =
    let parts = and_parts (bytes_eq p.id.source source) (overlap p.id.span span) on in
    span_reached (source_digest source) p.id.span span parts.1 (pending_keys p) (span_there source p parts.0)

pub root_over_covers : (source : List ℕ) (span : Extent) (p : PendingRow) → is_root_over source span p ≡ true → IsReached (span_ranges (source_digest source) span) (pending_keys p)
root_over_covers source span p on = over_covers source span p (and_parts (is_root p) (is_pending_over source span p) on).1

pub over_one_covers : (source : List ℕ) (spans : List Extent) (p : PendingRow) → is_over_one source spans p ≡ true → IsReached (ranges_over (source_digest source) spans) (pending_keys p)
over_one_covers source spans p on =
    let parts = and_parts (bytes_eq p.id.source source) (overlaps_one spans p.id.span) on in
    reached_over (source_digest source) p.id.span (pending_keys p) (span_there source p parts.0) spans parts.1

pub root_across_covers : (source : List ℕ) (spans : List Extent) (p : PendingRow) → is_root_across source spans p ≡ true → IsReached (ranges_over (source_digest source) spans) (pending_keys p)
root_across_covers source spans p on =
    let parts = and_parts (is_root p && bytes_eq p.id.source source) (straddles_one spans p.id.span) on in
    let first = and_parts (is_root p) (bytes_eq p.id.source source) parts.0 in
    reached_over (source_digest source) p.id.span (pending_keys p) (span_there source p first.1) spans (straddles_meets spans p.id.span parts.1)

pub copied_covers : (source : List ℕ) (span : Extent) (p : PendingRow) → is_copied_over source span p ≡ true → IsReached (span_ranges (source_digest source) span) (pending_keys p)
copied_covers source span p on = over_covers source span p (and_parts (is_pending_over source span p) (is_copied source span p) on).0

pub root_covers : (root : SegId) (p : PendingRow) → same_id p.root root ≡ true → IsReached (digest_range (root_digest root) ∷ []) (pending_keys p)
root_covers root p on = digest_reached (root_digest root) (pending_keys p) (inr (inr (inl (ap (λ d. digest_key d) (sym (id_mixes 3 p.root root on))))))

pub root_of_covers : (id : SegId) (p : PendingRow) → is_root_of id p ≡ true → IsReached (digest_range (root_digest id) ∷ []) (pending_keys p)
root_of_covers id p on = root_covers id p (and_parts (same_id p.root id) (same_id p.id id) on).0

-- a root pending of the id has the id as its root, whatever else is asked of it
pub own_root_covers : (id : SegId) (p : PendingRow) (tested : Bool) → (is_root p && same_id p.id id && tested) ≡ true → IsReached (digest_range (root_digest id) ∷ []) (pending_keys p)
own_root_covers id p tested on =
    let ids = and_parts (is_root p) (same_id p.id id) (and_parts (is_root p && same_id p.id id) tested on).0 in
    digest_reached (root_digest id) (pending_keys p) (inr (inr (inl (ap (λ d. digest_key d) (sym (id_mixes 3 p.id id ids.1) ∙ id_mixes 3 p.id p.root ids.0)))))

pub lock_covers : (lock : ℕ) (p : PendingRow) → (p.posse == lock) ≡ true → IsReached (digest_range (lock_digest lock) ∷ []) (pending_keys p)
lock_covers lock p on =
    let same : p.posse ≡ lock = eqb-true p.posse lock on in digest_reached (lock_digest lock) (pending_keys p) (inr (inr (inr (inl (rw same refl)))))

pub locks_cover : (locks : List ℕ) (p : PendingRow) → is_of_one locks p ≡ true → IsReached (lock_ranges locks) (pending_keys p)
locks_cover locks p on = reached_lock p.posse (pending_keys p) (inr (inr (inr (inl refl)))) locks on

-- ---- upgrade rows

pub upgrade_covers : (lock : ℕ) (u : UpgradeRow) → (u.posse == lock) ≡ true → IsReached (digest_range (lock_digest lock) ∷ []) (upgrade_keys u)
upgrade_covers lock u on = let same : u.posse ≡ lock = eqb-true u.posse lock on in digest_reached (lock_digest lock) (upgrade_keys u) (inl (rw same refl))

pub taken_covers : (lock : ℕ) (span : Extent) (u : UpgradeRow) → is_taken_over lock span u ≡ true → IsReached (span_ranges (carry_digest lock) span) (upgrade_keys u)
taken_covers lock span u on =
    let parts = and_parts (overlap u.root.span span) (is_taken_up lock span u) on in
    let same : u.posse ≡ lock = eqb-true u.posse lock (and_parts (u.posse == lock) (covers span u.root.span) parts.1).0 in
    span_reached (carry_digest lock) u.root.span span parts.0 (upgrade_keys u) (inr (inl (rw same refl)))

-- the number of one of these locks, with a span that overlaps the one asked for, has a key in one of their ranges
reached_carried : (number : ℕ) (s asked : Extent) → overlap s asked ≡ true → (own : List (ℕ × ℤ)) → In (span_key (carry_digest number) s) own → (locks : List ℕ) → stands_in locks number ≡ true → IsReached (carry_ranges locks asked) own
reached_carried number s asked meets own there [] on = cc
reached_carried number s asked meets own there (m ∷ ms) on =
    elim (cases_Bool (m == number)) [
      | inl here ↦
          (let same : m ≡ number = eqb-true m number here in
          let there' : In (span_key (carry_digest m) s) own = rw same there in
          reached_front (span_ranges (carry_digest m) asked) (carry_ranges ms asked) own (span_reached (carry_digest m) s asked meets own there'))
      | inr apart ↦ reached_back (span_ranges (carry_digest m) asked) (carry_ranges ms asked) own (reached_carried number s asked meets own there ms (rw apart at on))
    ]

pub upgrade_across_covers : (locks : List ℕ) (spans : List Extent) (all : Extent) → MeetsAll all spans → (u : UpgradeRow) → is_upgrade_across locks spans u ≡ true → IsReached (carry_ranges locks all) (upgrade_keys u)
upgrade_across_covers locks spans all within u on =
    let parts = and_parts (stands_in locks u.posse) (straddles_one spans u.root.span) on in
    reached_carried u.posse u.root.span all (within u.root.span (straddles_meets spans u.root.span parts.1)) (upgrade_keys u) (inr (inl refl)) locks parts.0
