use Rattle.std.proofs.Common.{Option, Some, rules, ℤ, ◌<ℤ◌, ◌≡◌}
use Rattle.std.proofs.lemmas.Bool.{false≢true}
use Rattle.std.proofs.lemmas.Int.{to_z-of_z}
use mir.Val.{SFits}
use mir.Syntax.{w64}
use Rattle.iv_time.specs.Buckets.{bucket_of}
use Rattle.seg_alloc.proofs.Placed.{bucket_rises}
use Rattle.seg_alloc.proofs.places.free_of.Goals as goal

pub returns-in_default : goal.returns-in_default
returns-in_default c =
    let fits : SFits w64 c.args.at = c.ranges.at in
    let ends : ◌≡◌ {A = Option (ℤ × ℤ)} (Some (c.in_ok-start.start, c.in_ok-start.end)) (bucket_of c.args.granularity c.args.at) = simp to_z-of_z at c.in_ok-start.ensures in
    let rises : c.in_ok-start.start <ℤ c.in_ok-start.end = bucket_rises c.args.granularity c.args.at c.in_ok-start.start c.in_ok-start.end ends in
    absurd (false≢true (c.in_default.ensures.ok.1 (search rules)))
