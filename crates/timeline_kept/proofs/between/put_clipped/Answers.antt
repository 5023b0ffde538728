use Rattle.std.proofs.Common.{arith, int_le, of_z, subst, sym, to_z, true, false, w64, ap, ◌∙◌, ◌≡◌}
use Rattle.std.specs.Int.{int_max, int_min}
use Rattle.std.proofs.lemmas.Int.{ints}
use Rattle.std.proofs.lemmas.Result.{on_ok_weaker}
use Rattle.iv_span.specs.Extent.{Extent}
use Rattle.book_rows.specs.Shown.{ChunkPart}
use Rattle.book_rows.specs.declared.replies.TimelinePart.{TimelinePart}
use Rattle.laws_parts.proofs.Unique.{some_same}
use Rattle.timeline_kept.specs.PartLists.{part_between, put_part, put_parts, with_chunk}
use Rattle.timeline_kept.proofs.Placing.{clip_none, clip_some}
use Rattle.timeline_kept.proofs.between.put_clipped.Goals as goal

pub returns-then-end-start : goal.returns-then-end-start
returns-then-end-start c =
    let a : to_z w64 (of_z w64 c.start.result) ≡ c.start.result = omega (arith, ints) in
    let b : to_z w64 (of_z w64 c.end.result) ≡ c.end.result = omega (arith, ints) in
    let f : to_z w64 (of_z w64 c.args.from) ≡ c.args.from = omega (arith, ints) in
    let t : to_z w64 (of_z w64 c.args.to) ≡ c.args.to = omega (arith, ints) in
    let x : to_z w64 (of_z w64 c.max-start.result) ≡ c.max-start.result = omega (arith, ints) in
    let y : to_z w64 (of_z w64 c.min-end.result) ≡ c.min-end.result = omega (arith, ints) in
    let low = rw (a, f, c.start.ensures.value) at c.max-start.ensures.value in
    let high = rw (b, t, c.end.ensures.value) at c.min-end.ensures.value in
    let q = with_chunk c.part-chunk.result.0.now c.part-chunk.result.1 in
    let short : int_le (int_min q.span.end c.args.to) (int_max q.span.start c.args.from) ≡ true = rw (x, y, low, high) at c.if-end-start.true in
    λ p h. subst (λ (z : ChunkPart). c.args.out.now ≡ put_parts c.args.out.now (part_between c.args.from c.args.to z)) (some_same q p (sym c.part-chunk.ensures ∙ h)) (clip_none q c.args.from c.args.to c.args.out.now short)

pub returns : goal.returns
returns c =
    let a : to_z w64 (of_z w64 c.start.result) ≡ c.start.result = omega (arith, ints) in
    let b : to_z w64 (of_z w64 c.end.result) ≡ c.end.result = omega (arith, ints) in
    let f : to_z w64 (of_z w64 c.args.from) ≡ c.args.from = omega (arith, ints) in
    let t : to_z w64 (of_z w64 c.args.to) ≡ c.args.to = omega (arith, ints) in
    let x : to_z w64 (of_z w64 c.max-start.result) ≡ c.max-start.result = omega (arith, ints) in
    let y : to_z w64 (of_z w64 c.min-end.result) ≡ c.min-end.result = omega (arith, ints) in
    let low = rw (a, f, c.start.ensures.value) at c.max-start.ensures.value in
    let high = rw (b, t, c.end.ensures.value) at c.min-end.ensures.value in
    let q = with_chunk c.part-chunk.result.0.now c.part-chunk.result.1 in
    let long : int_le (int_min q.span.end c.args.to) (int_max q.span.start c.args.from) ≡ false = rw (x, y, low, high) at c.if-end-start.false in
    let spanned = rw (x, y, low, high) at c.span_of.ensures in
    let is = ap (λ (z : TimelinePart). with_chunk z c.part-chunk.result.1) c.in_ok-clipped.ensures ∙ ap (λ (s : Extent). record q { span = s }) spanned in
    λ p h. on_ok_weaker c.put.result
    (λ e. e ∙ ap (put_part c.args.out.now) is ∙ clip_some q c.args.from c.args.to c.args.out.now long ∙ ap (λ (z : ChunkPart). put_parts c.args.out.now (part_between c.args.from c.args.to z)) (some_same q p (sym c.part-chunk.ensures ∙ h))) c.put.ensures
