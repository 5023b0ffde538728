-- Orders in which rows are to ascend.
use Rattle.std.specs.Prelude.{◌≡◌, Bool, None, Option, Some, false, nat_le, not, true, ℕ}
use Rattle.std.specs.Cmp.{IsTotalOrder}
use Rattle.std.specs.Ordering.{is_gt, ordering_reverse}
use Rattle.std.specs.declared.cmp.Ordering.{Ordering}
use Rattle.std.specs.declared.cmp.Ordering.TheVariants.{Equal, Greater, Less}
use Rattle.std.proofs.Common.{arith, refl}
use Rattle.std.proofs.lemmas.Bool.Decides.{nat_tests}
use Rattle.std.proofs.lemmas.Cmp.{nat_list_cmp_total, on_total, then_total, upto}
use Rattle.std.specs.Cmp.{nat_cmp_total}
use Rattle.book_rows.specs.Ids.{is_less}
use Rattle.book_rows.specs.Offsets.{key_cmp}
use Rattle.book_rows.specs.declared.rows.OffsetRow.{OffsetRow}
use Rattle.book_rows.specs.declared.rows.PosseRow.{PosseRow}
use Rattle.laws_unsound.specs.ShapeRows.{are_reversed, are_unordered}

-- it doesn't come before the one, where there is one
abbrev pub is_behind : {X Y : Type 0} → (X → Y → Bool) → X → Option Y → Bool
is_behind behind x None = false
is_behind behind x (Some q) = behind x q

pub number_chains : (x r q : PosseRow) → are_reversed x r ≡ true → are_reversed r q ≡ true → are_reversed x q ≡ true
number_chains x r q a b = by x.number r.number q.number a b where
  by : (x r q : ℕ) → nat_le r x ≡ true → nat_le q r ≡ true → nat_le q x ≡ true
  by x r q a b = grind (arith, nat_tests)

pub number_falls : (x r q : PosseRow) → are_reversed r q ≡ false → are_reversed x q ≡ true → are_reversed x r ≡ true
number_falls x r q a b = by x.number r.number q.number a b where
  by : (x r q : ℕ) → nat_le q r ≡ false → nat_le q x ≡ true → nat_le r x ≡ true
  by x r q a b = grind (arith, nat_tests)

key_total : IsTotalOrder key_cmp
key_total = then_total (on_total (λ (r : OffsetRow). r.source) nat_list_cmp_total) (then_total (on_total (λ (r : OffsetRow). r.stream) nat_list_cmp_total) (on_total (λ (r : OffsetRow). r.partition) nat_cmp_total))

turned : (o : Ordering) → not (is_less o) ≡ true → is_gt (ordering_reverse o) ≡ false
turned Less on = cc
turned Equal on = refl
turned Greater on = refl

turned_back : (o : Ordering) → is_gt (ordering_reverse o) ≡ false → not (is_less o) ≡ true
turned_back Less off = cc
turned_back Equal off = refl
turned_back Greater off = refl

pub offset_chains : (x r q : OffsetRow) → are_unordered x r ≡ true → are_unordered r q ≡ true → are_unordered x q ≡ true
offset_chains x r q a b =
    let first : is_gt (key_cmp r x) ≡ false = rw (key_total.antisymm r x) (turned (key_cmp x r) a) in
    let second : is_gt (key_cmp q r) ≡ false = rw (key_total.antisymm q r) (turned (key_cmp r q) b) in
    turned_back (key_cmp x q) (rw (← key_total.antisymm q x) (upto key_total q r x second first))

pub offset_falls : (x r q : OffsetRow) → are_unordered r q ≡ false → are_unordered x q ≡ true → are_unordered x r ≡ true
offset_falls x r q a b = by (key_cmp x r) refl (key_cmp r q) refl a where
  by : (o : Ordering) → key_cmp x r ≡ o → (p : Ordering) → key_cmp r q ≡ p → not (is_less p) ≡ false → not (is_less o) ≡ true
  by Equal e p f off = refl
  by Greater e p f off = refl
  by Less e Less f off = let through : key_cmp x q ≡ Less = key_total.trans x r q e f in let clash : false ≡ true = rw through at b in cc
  by Less e Equal f off = cc
  by Less e Greater f off = cc
