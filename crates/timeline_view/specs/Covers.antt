-- What look-ups promise of the keys: a look that sees a row has one in the range.
use Rattle.std.specs.Prelude.{◌&&◌, ◌∷◌, ◌≡◌, ◌<ℤ◌, ◌≤ℤ◌, [], int_le, int_lt, true, unsigned_abs, ℤ}
use Rattle.std.specs.Int.{int_max, int_min}
use Rattle.std.specs.Ordering.{int_eq}
use Rattle.std.proofs.Common.{ap, arith, inl, refl}
use Rattle.std.proofs.lemmas.Bool.{and_parts}
use Rattle.std.proofs.lemmas.Int.{ints}
use Rattle.iv_span.specs.Extent.{has}
use Rattle.book_rows.specs.declared.rows.SegmentRow.{SegmentRow}
use Rattle.row_index.specs.Index.{IsReached}
use Rattle.timeline_view.specs.Looks.{look_keys, seen_range, sees}
use Rattle.timeline_view.specs.declared.looks.Look.{Look}

same_int : (x y : ℤ) → int_eq x y ≡ true → x ≡ y
same_int x y e = grind (arith, ints)

from_both : (s e z f t : ℤ) → (int_le s t && int_lt t e) ≡ true → (int_le z t && int_lt t f) ≡ true → (int_max s z ≤ℤ t) × (t <ℤ int_min e f)
from_both s e z f t a b = (grind (arith, ints), grind (arith, ints))

pub seen_covers : (r : SegmentRow) (l : Look) → sees r l ≡ true → IsReached (seen_range r ∷ []) (look_keys l)
seen_covers r l on =
    let all = and_parts (int_eq l.version r.id.version && has r.id.span l.at) (has r.root.span l.at) on in
    let two = and_parts (int_eq l.version r.id.version) (has r.id.span l.at) all.0 in
    let lies = from_both r.id.span.start r.id.span.end r.root.span.start r.root.span.end l.at two.1 all.1 in
    (seen_range r, (unsigned_abs l.version, l.at), inl refl, inl refl, (ap unsigned_abs (same_int l.version r.id.version two.0), lies.0, lies.1))
