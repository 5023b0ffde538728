-- Each command of a load keeps its form.
use Rattle.std.proofs.Common.{◌%◌, ◌*◌, ◌+◌, ◌<◌, ◌≡◌, ◌≤◌, Bool, arith, false, if◌then◌else◌, pos, refl, true, ℕ, ◌==◌}
use Rattle.std.specs.List.{list_all}
use Rattle.std.proofs.lemmas.Bool.{le-leb}
use Rattle.std.proofs.lemmas.Int.{ints}
use Rattle.std.proofs.lemmas.Bool.Decides.{nat_tests}
use Rattle.iv_time.specs.Range.{is_instant}
use Rattle.book_rows.specs.Form.{is_id, keeps_form}
use Rattle.book_rows.specs.Spans.{is_span}
use Rattle.load_gen.specs.Blocks.{appending, commands_of, id_of, replacing}
use Rattle.load_gen.specs.Draws.{hour_of, now_of, span_of}
use Rattle.load_gen.specs.Load.{IsHourOf}
use Rattle.load_gen.specs.declared.generator.Hour.{Hour}
use Rattle.load_gen.proofs.BlockNames.{load_is_name, named_name, named_submitted, named_task}

-- ---- instants

counted : (n : ℕ) → n ≤ 253402300799999 → is_instant (pos n) ≡ true
counted n most = grind (arith, ints, nat_tests)

pub now_is_instant : (block : ℕ) → block < 50000 → is_instant (now_of block) ≡ true
now_is_instant block few = counted (1735689600000 + 1000 * block) (omega arith)

start_is_instant : (hour : ℕ) → hour < 720 → is_instant (pos (1704067200000 + 3600000 * hour)) ≡ true
start_is_instant hour below = counted (1704067200000 + 3600000 * hour) (omega arith)

end_is_instant : (hour : ℕ) → hour < 720 → is_instant (pos (1704067200000 + 3600000 * hour + 3600000)) ≡ true
end_is_instant hour below = counted (1704067200000 + 3600000 * hour + 3600000) (omega arith)

span_is_span : (hour : ℕ) → hour < 720 → is_span (span_of hour) ≡ true
span_is_span hour below = rw (start_is_instant hour below, end_is_instant hour below) (grind (arith, ints, nat_tests))

pub hour_below : (x : ℕ) → hour_of x < 720
hour_below x = omega arith

-- ---- ids

id_is_id : (hour : ℕ) (known : Hour) → hour < 720 → is_instant known.version ≡ true → known.next ≤ 4294967295 → is_id (id_of (span_of hour) known) ≡ true
id_is_id hour known below version part = rw (load_is_name, span_is_span hour below, version, le-leb known.next 4294967295 part) refl

-- ---- commands

module _ (block : ℕ) (few : block < 50000) (hour : ℕ) (below : hour < 720) where
  appending_kept : (known : Hour) → is_instant known.version ≡ true → known.next ≤ 4294967295 → list_all keeps_form (appending block (span_of hour) known) ≡ true
  appending_kept known version part =
      rw (id_is_id hour known below version part, named_submitted block few, named_task block few, named_name block few, load_is_name, now_is_instant block few, start_is_instant hour below) refl

  replacing_kept : list_all keeps_form (replacing block (span_of hour)) ≡ true
  replacing_kept =
      rw (named_submitted block few, named_task block few, load_is_name, now_is_instant block few, span_is_span hour below) refl

  by : (test : Bool) (known : Hour) → is_instant known.version ≡ true → known.next ≤ 4294967295 → list_all keeps_form (if test then replacing block (span_of hour) else appending block (span_of hour) known) ≡ true
  by true known version part = replacing_kept
  by false known version part = appending_kept known version part

  pub block_kept : (known : Hour) → IsHourOf block known → list_all keeps_form (commands_of block hour known) ≡ true
  block_kept known is = by (block % 4 == 3) known is.instant (let most = is.few in omega (arith, most, few))
