-- The values of several fields read as they are written.
use Rattle.std.proofs.Common.{◌≡◌, ℤ, ◌<ℤ◌, true, refl, arith}
use Rattle.std.specs.Prelude.{int_lt}
use Rattle.std.proofs.lemmas.Int.{ints}
use Rattle.cmd_codec.specs.Fields.{span_field, id_field, want_field, offset_field, range_field}
use Rattle.snap_codec.specs.Fields.{ranges_field, span_since_field, report_field}
use Rattle.snap_codec.specs.Fits.{FitsInt, FitsSpan, FitsId, FitsWant, FitsOffset, FitsRange, FitsRanges, FitsSpanSince, FitsReport}
use Rattle.snap_codec.specs.Grammar.{span_at, id_at, want_at, offset_at, range_at, ranges_at, span_since_at, report_at}
use Rattle.snap_codec.proofs.Spells.{Spells, both, always, made, checked, row}
use Rattle.snap_codec.proofs.SingleFields.{number_32, number_64, a_long, an_int, a_name, a_task, a_lock_kind}
use Rattle.snap_codec.proofs.Combined.{a_list}

is_below : (a b : ℤ) → a <ℤ b → int_lt a b ≡ true
is_below a b h = grind (arith, ints)

below_is : (a b : ℤ) → int_lt a b ≡ true → a <ℤ b
below_is a b h = grind (arith, ints)

abbrev Ends : Type 0
Ends = ℤ × ℤ

abbrev FitsEnds : Ends → Type 0
FitsEnds v = (FitsInt v.0 × FitsInt v.1) × (int_lt v.0 v.1 ≡ true)

pub a_span : Spells span_field FitsSpan span_at
a_span =
    made FitsSpan (λ v. record { start = v.0; end = v.1 }) (λ e. (e.start, e.end))
    (λ e h. ((h.0, h.1.0), is_below e.start e.end h.1.1)) (λ v h. (h.0.0, (h.0.1, below_is v.0 v.1 h.1))) (λ e. refl) (λ v h. refl)
    (checked (λ (v : Ends). int_lt v.0 v.1) (both an_int an_int))

pub an_id : Spells id_field FitsId id_at
an_id = row _ (λ i. (i.source, (i.span, (i.version, i.part)))) (λ i. refl) (λ v. refl) (both a_name (both a_span (both an_int number_32)))

pub a_want : Spells want_field FitsWant want_at
a_want = row _ (λ x. (x.lock_kind, x.span)) (λ x. refl) (λ v. refl) (always a_lock_kind a_span)

pub an_offset : Spells offset_field FitsOffset offset_at
an_offset = row _ (λ o. (o.partition, o.offset)) (λ o. refl) (λ v. refl) (both number_32 number_64)

pub a_range : Spells range_field FitsRange range_at
a_range = row _ (λ r. (r.partition, (r.start, r.end))) (λ r. refl) (λ v. refl) (both number_32 (both number_64 number_64))

pub ranges : Spells ranges_field FitsRanges ranges_at
ranges = row _ (λ r. (r.stream, r.parts)) (λ r. refl) (λ v. refl) (both a_name (a_list a_range))

pub a_span_since : Spells span_since_field FitsSpanSince span_since_at
a_span_since = row _ (λ s. (s.span, s.since)) (λ s. refl) (λ v. refl) (both a_span a_long)

pub a_report : Spells report_field FitsReport report_at
a_report = row _ (λ r. (r.task, r.offsets)) (λ r. refl) (λ v. refl) (both a_task (a_list an_offset))
