use Rattle.std.proofs.Common.{take}
use Rattle.std.proofs.lemmas.List.{take_more}
use Rattle.apart_spans.proofs.Hulls.{one_more}
use Rattle.apart_spans.proofs.hull.Goals as goal

pub loop-span-preserved : goal.loop-span-preserved
loop-span-preserved c =
    rw (c.joined-all.ensures, take_more c.args.spans.now c.loop-span.span-index c.span-item.result c.loop-span-test.true, ← c.span-item.is)
    (one_more c.loop-span.all c.span-item.result (take c.loop-span.span-index c.args.spans.now) c.loop-span.invariant)
