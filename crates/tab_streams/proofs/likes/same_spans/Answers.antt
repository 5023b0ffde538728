use Rattle.std.proofs.Common.{◌∙◌}
use Rattle.tab_streams.proofs.Zips.{spans_apart, spans_zipped}
use Rattle.tab_streams.proofs.likes.same_spans.Goals as goal

pub returns-then-left-right : goal.returns-then-left-right
returns-then-left-right c = c.each_same_span.ensures ∙ spans_zipped c.args.left.now c.args.right.now c.if-left-right.true

pub returns-else-left-right : goal.returns-else-left-right
returns-else-left-right c = spans_apart c.args.left.now c.args.right.now c.if-left-right.false
