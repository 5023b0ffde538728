-- What is known of the hours, from block to block.
use Rattle.std.proofs.Common.{◌%◌, ◌+◌, ◌<◌, ◌≡◌, Bool, List, arith, false, get_or, if◌then◌else◌, refl, replicate, set, true, ℕ, ◌==◌, ◌∙◌}
use Rattle.std.proofs.lemmas.List.{length-replicate}
use Rattle.std.proofs.lemmas.List.Elements.{All-get_or, All-replicate, All-set, All-weaker}
use Rattle.std.proofs.Math.ListN.{length-set}
use Rattle.load_gen.specs.Blocks.{hour_after}
use Rattle.load_gen.specs.Draws.{now_of}
use Rattle.load_gen.specs.Load.{IsHourOf, IsOnTheWay, no_hour}
use Rattle.load_gen.specs.declared.generator.Hour.{Hour}
use Rattle.load_gen.proofs.Forms.{now_is_instant}

none_is_hour : IsHourOf 0 no_hour
none_is_hour = record { instant = refl; few = omega arith }

pub at_first : (hours : List Hour) → hours ≡ replicate 720 no_hour → IsOnTheWay 0 hours
at_first hours is = rw is (record { all = length-replicate 720 no_hour; few = omega arith; each = All-replicate (IsHourOf 0) 720 no_hour none_is_hour })

later : (blocks : ℕ) (hour : Hour) → IsHourOf blocks hour → IsHourOf (blocks + 1) hour
later blocks hour is = record { instant = is.instant; few = let most = is.few in omega (arith, most) }

replaced : (blocks : ℕ) → blocks < 50000 → IsHourOf (blocks + 1) (record { version = now_of blocks; next = 1 })
replaced blocks few = record { instant = now_is_instant blocks few; few = omega arith }

appended : (blocks : ℕ) (hour : Hour) → IsHourOf blocks hour → IsHourOf (blocks + 1) (record { version = hour.version; next = hour.next + 1 })
appended blocks hour is = record { instant = is.instant; few = let most = is.few in omega (arith, most) }

after_by : (blocks : ℕ) → blocks < 50000 → (hour : Hour) → IsHourOf blocks hour → (test : Bool) → IsHourOf (blocks + 1) (if test then record { version = now_of blocks; next = 1 } else record { version = hour.version; next = hour.next + 1 })
after_by blocks few hour is true = replaced blocks few
after_by blocks few hour is false = appended blocks hour is

pub at_hour : (blocks number : ℕ) (hours : List Hour) → IsOnTheWay blocks hours → number < 720 → IsHourOf blocks (get_or hours number no_hour)
at_hour blocks number hours way below = All-get_or (IsHourOf blocks) hours number no_hour (let all = way.all in omega (arith, all, below)) way.each

pub gone_on : (blocks number : ℕ) (hours : List Hour) → IsOnTheWay blocks hours → blocks < 50000 → number < 720 → IsOnTheWay (blocks + 1) (set hours number (hour_after blocks (get_or hours number no_hour)))
gone_on blocks number hours way few below =
    let hour : Hour = get_or hours number no_hour in
    let next : Hour = hour_after blocks hour in
    record {
      all = length-set hours number next ∙ way.all;
      few = omega (arith, few);
      each = All-set (IsHourOf (blocks + 1)) hours number next (after_by blocks few hour (at_hour blocks number hours way below) (blocks % 4 == 3)) (All-weaker (IsHourOf blocks) (IsHourOf (blocks + 1)) (later blocks) hours way.each);
    }
