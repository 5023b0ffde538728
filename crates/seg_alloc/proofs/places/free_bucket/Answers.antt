use Rattle.std.proofs.Common.{List, None, Option, Some, ap, subst, sym, ℕ, ℤ, ◌∙◌, ◌≡◌}
use Rattle.std.proofs.lemmas.Int.{to_z-of_z}
use mir.Val.{SFits}
use mir.Syntax.{w64}
use Rattle.iv_time.specs.Buckets.{and_finer, bucket_of}
use Rattle.iv_time.specs.declared.granularity.Granularity.{Granularity}
use Rattle.book_rows.specs.Allocation.{free_bucket, free_or}
use Rattle.book_rows.specs.declared.rows.PendingRow.{PendingRow}
use Rattle.book_rows.specs.declared.rows.SegmentRow.{SegmentRow}
use Rattle.seg_alloc.proofs.FinerOnes.{left_to_try, tried_free, tried_taken}
use Rattle.seg_alloc.proofs.places.free_bucket.Goals as goal

pub returns-in-Some-free_of : goal.returns-in-Some-free_of
returns-in-Some-free_of c =
    let fits : SFits w64 c.args.at = c.ranges.at in
    let rows : List SegmentRow = c.args.segments.now.segments in
    let ps : List PendingRow = c.args.pendings.now.pendings in
    let source : List ℕ = c.args.source.now in
    let free : Some c.in-Some-free_of.span ≡ free_or rows ps source (bucket_of c.in-Some.asked c.args.at) None = simp to_z-of_z at c.in-Some-free_of.ensures in
    let so_far =
    subst (λ (at : ℤ). free_bucket rows ps source at (left_to_try c.loop-next.next) ≡ free_bucket rows ps source at (and_finer c.args.granularity)) (to_z-of_z w64 c.args.at fits) c.loop-next.invariant in
    sym (tried_free rows ps source c.args.at c.loop-next.next c.in-Some.asked c.in-Some.is c.in-Some-free_of.span free) ∙ so_far

pub loop-next-preserved : goal.loop-next-preserved
loop-next-preserved c =
    let fits : SFits w64 c.args.at = c.ranges.at in
    let rows : List SegmentRow = c.args.segments.now.segments in
    let ps : List PendingRow = c.args.pendings.now.pendings in
    let source : List ℕ = c.args.source.now in
    let taken : None ≡ free_or rows ps source (bucket_of c.in-Some.asked c.args.at) None = simp to_z-of_z at c.in_default-free_of.ensures in
    let so_far =
    subst (λ (at : ℤ). free_bucket rows ps source at (left_to_try c.loop-next.next) ≡ free_bucket rows ps source at (and_finer c.args.granularity)) (to_z-of_z w64 c.args.at fits) c.loop-next.invariant in
    subst (λ (at : ℤ). free_bucket rows ps source at (left_to_try c.finer-next.result) ≡ free_bucket rows ps source at (and_finer c.args.granularity)) (sym (to_z-of_z w64 c.args.at fits))
    (
    ap (λ (o : Option Granularity). free_bucket rows ps source c.args.at (left_to_try o)) c.finer-next.ensures
    ∙ (sym (tried_taken rows ps source c.args.at c.loop-next.next c.in-Some.asked c.in-Some.is taken) ∙ so_far)
    )
