use Rattle.std.proofs.Common.{◌/◌, ◌%◌, arith}
use Rattle.tab_pending.proofs.RangePlaces.{count_over, get_over}
use Rattle.tab_pending.proofs.ranges.range_over.Goals as goal

pub span_at-span-requires : goal.span_at-span-requires
span_at-span-requires c = omega (arith, c.requires, count_over c.args.digest c.args.spans.now)

pub returns : goal.returns
returns c =
    get_over c.args.digest c.args.spans.now (c.args.at / 8) (c.args.at % 8) c.args.at c.span_at-span.result c.span_range.result (omega arith) c.span_at-span.ensures c.span_range.ensures
