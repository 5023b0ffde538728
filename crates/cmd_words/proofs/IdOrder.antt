-- Ids that are neither before nor after one another are one.
use Rattle.std.proofs.Common.{◌≡◌, false, refl}
use Rattle.std.proofs.lemmas.Cmp.{int_cmp_total, nat_cmp_total, nat_list_cmp_total, on_total, then_total}
use Rattle.std.proofs.lemmas.Map.Lookups.{CmpEqualImpliesEq, exact_bytes, exact_signed, exact_unsigned}
use Rattle.std.specs.Cmp.{IsTotalOrder}
use Rattle.std.specs.Cmp.Lexicographic.{slice_cmp}
use Rattle.std.specs.Ordering.{int_cmp, is_lt, nat_cmp, ordering_reverse, ordering_then}
use Rattle.std.specs.declared.cmp.Ordering.{Ordering}
use Rattle.std.specs.declared.cmp.Ordering.TheVariants as Orderings
use Rattle.command_forms.specs.Sorted.{IsExact, less_by}
use Rattle.seg_names.specs.Ids.{extent_cmp, id_cmp}
use Rattle.seg_names.specs.declared.seg_id.SegId.{SegId}

module _ {K : Type 0} (R : K → K → Ordering) (o : IsTotalOrder R) (exact : CmpEqualImpliesEq R) where
  not_less : (c : Ordering) → is_lt c ≡ false → c ≡ Orderings.Less → ⊥
  not_less Orderings.Less h e = cc
  not_less Orderings.Equal h e = cc
  not_less Orderings.Greater h e = cc

  by_order : (x y : K) (c d : Ordering) → R x y ≡ c → R y x ≡ d → d ≡ ordering_reverse c → is_lt c ≡ false → is_lt d ≡ false → x ≡ y
  by_order x y Orderings.Less d e f r h k = absurd (not_less Orderings.Less h refl)
  by_order x y Orderings.Equal d e f r h k = exact x y e
  by_order x y Orderings.Greater d e f r h k = absurd (not_less d k r)

  pub exact_order : IsExact (less_by R)
  exact_order x y h k = by_order x y (R x y) (R y x) refl refl (o.antisymm y x) h k

then_equal : (o p : Ordering) → ordering_then o p ≡ Orderings.Equal → (o ≡ Orderings.Equal) × (p ≡ Orderings.Equal)
then_equal Orderings.Less p h = cc
then_equal Orderings.Equal p h = (refl, h)
then_equal Orderings.Greater p h = cc

id_total : IsTotalOrder id_cmp
id_total =
    then_total (on_total (λ (a : SegId). a.source) nat_list_cmp_total)
    (then_total (then_total (on_total (λ (a : SegId). a.span.start) int_cmp_total) (on_total (λ (a : SegId). a.span.end) int_cmp_total))
    (then_total (on_total (λ (a : SegId). a.version) int_cmp_total) (on_total (λ (a : SegId). a.part) nat_cmp_total)))

equal_is : CmpEqualImpliesEq id_cmp
equal_is a b h =
    let one = then_equal (slice_cmp nat_cmp a.source b.source) (ordering_then (extent_cmp a.span b.span) (ordering_then (int_cmp a.version b.version) (nat_cmp a.part b.part))) h in
    let two = then_equal (extent_cmp a.span b.span) (ordering_then (int_cmp a.version b.version) (nat_cmp a.part b.part)) one.1 in
    let three = then_equal (int_cmp a.version b.version) (nat_cmp a.part b.part) two.1 in
    let ends = then_equal (int_cmp a.span.start b.span.start) (int_cmp a.span.end b.span.end) two.0 in
    rw (exact_bytes a.source b.source one.0, exact_signed a.span.start b.span.start ends.0, exact_signed a.span.end b.span.end ends.1, exact_signed a.version b.version three.0, exact_unsigned a.part b.part three.1) refl

pub exact_ids : IsExact (less_by id_cmp)
exact_ids = exact_order id_cmp id_total equal_is
