-- What stays of the stages of segments is what is shown.
use Rattle.std.proofs.Common.{Bool, List, [], ap, arith, cond, false, int_le, int_lt, not, refl, sym, true, ℕ, ℤ, ◌&&◌, ◌∙◌, ◌∷◌, ◌≡◌, ◌||◌}
use Rattle.std.specs.Prelude.{bytes_eq}
use Rattle.std.specs.Int.{int_max, int_min}
use Rattle.std.specs.List.{list_all}
use Rattle.std.proofs.lemmas.Int.{ints}
use Rattle.iv_span.specs.Extent.{has}
use Rattle.seg_names.specs.Ids.{same_id}
use Rattle.seg_names.specs.declared.seg_id.SegId.{SegId}
use Rattle.book_rows.specs.Lists.{count}
use Rattle.book_rows.specs.Visible.{is_used_at, is_visible, shown, stands_for, tops}
use Rattle.book_rows.specs.declared.rows.SegmentRow.{SegmentRow}
use Rattle.laws_chunks.proofs.Spans.{same_id_means}
use Rattle.shown_rules.specs.History.{all_row_stages, covers_below, puts_root, rank_of, row_stages}
use Rattle.shown_rules.specs.Stages.{Stage, gives, is_open_by, stays, within}
use Rattle.shown_rules.proofs.Gathered.{all_gathered, and_false, and_true, count_gathered}

pub rank_turned : (m n : ℤ) → int_le (rank_of m) (rank_of n) ≡ int_le n m
rank_turned m n = grind (arith, ints)

in_both : (a z b y t : ℤ) → (int_le (int_max a b) t && int_lt t (int_min z y)) ≡ ((int_le a t && int_lt t z) && (int_le b t && int_lt t y))
in_both a z b y t = grind (arith, ints)

module _ (rows : List SegmentRow) (source : List ℕ) (t : ℤ) where
  -- the row leaves open what has the version or more
  open_row : (version : ℤ) (r : SegmentRow) → list_all (is_open_by (rank_of version) (source, t)) (row_stages r) ≡ (not (is_used_at source t r) || int_le r.id.version version)
  open_row version r = by r.used r.tombstone where
    by : (used tombstone : Bool) → list_all (is_open_by (rank_of version) (source, t)) (cond used (cond tombstone (covers_below r ∷ []) (puts_root r ∷ covers_below r ∷ [])) [])
        ≡ (not (used && bytes_eq r.id.source source && has r.id.span t) || int_le r.id.version version)
    by true true = rw (rank_turned version r.id.version) (and_true (not (bytes_eq r.id.source source && has r.id.span t) || int_le r.id.version version))
    by true false = rw (rank_turned version r.id.version) (and_true (not (bytes_eq r.id.source source && has r.id.span t) || int_le r.id.version version))
    by false tombstone = refl

  open_rows : (version : ℤ) → list_all (is_open_by (rank_of version) (source, t)) (all_row_stages rows) ≡ list_all (λ q. not (is_used_at source t q) || int_le q.id.version version) rows
  open_rows version = all_gathered (is_open_by (rank_of version) (source, t)) row_stages (λ q. not (is_used_at source t q) || int_le q.id.version version) rows (open_row version)

  module _ (root : SegId) where
    abbrev is_kept : Stage → Bool
    is_kept x = gives root x.root && (within x (source, t) && list_all (is_open_by x.rank (source, t)) (all_row_stages rows))

    parts : (s b h z w : Bool) → (s && ((b && (h && z)) && w)) ≡ (((b && h) && w) && (z && s))
    parts true true true true w = sym (and_true w)
    parts true true true false w = sym (and_false w)
    parts true true false z w = refl
    parts true false h z w = refl
    parts false true true true w = sym (and_false w)
    parts false true true false w = sym (and_false w)
    parts false true false z w = refl
    parts false false h z w = refl

    put_here : (r : SegmentRow) → is_kept (puts_root r) ≡ (((bytes_eq r.id.source source && has r.id.span t) && tops rows source t r) && (has root.span t && same_id r.root root))
    put_here r =
        rw (open_rows r.id.version, in_both r.id.span.start r.id.span.end r.root.span.start r.root.span.end t)
        (parts (same_id r.root root) (bytes_eq r.id.source source) (has r.id.span t) (has r.root.span t) (tops rows source t r)
        ∙ ap (λ (b : Bool). ((bytes_eq r.id.source source && has r.id.span t) && tops rows source t r) && b) (own (same_id r.root root) refl)) where
          own : (s : Bool) → same_id r.root root ≡ s → (has r.root.span t && s) ≡ (has root.span t && s)
          own true e = ap (λ (a : SegId). has a.span t && true) (same_id_means r.root root e)
          own false e = and_false (has r.root.span t) ∙ sym (and_false (has root.span t))

    counted : (r : SegmentRow) → count is_kept (row_stages r) ≡ cond (is_visible rows source t r && stands_for root t r) 1 0
    counted r = by r.used r.tombstone where
      by : (used tombstone : Bool) → count is_kept (cond used (cond tombstone (covers_below r ∷ []) (puts_root r ∷ covers_below r ∷ [])) [])
          ≡ cond (((used && bytes_eq r.id.source source && has r.id.span t) && tops rows source t r) && (not tombstone && (has root.span t && same_id r.root root))) 1 0
      by true true = ap (λ (b : Bool). cond b 1 0) (sym (and_false ((bytes_eq r.id.source source && has r.id.span t) && tops rows source t r)))
      by true false = ap (λ (b : Bool). cond b 1 0) (put_here r)
      by false tombstone = refl

    -- the root stays as often as it is shown
    pub shown_stays : stays (all_row_stages rows) (source, t) root ≡ shown rows source t root
    shown_stays = count_gathered is_kept row_stages (λ r. is_visible rows source t r && stands_for root t r) rows counted
