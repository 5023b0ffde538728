use Rattle.std.proofs.Common.{arith, ◌%◌, ◌/◌}
use Rattle.chunk_rules.specs.Copies.{root_classes}
use Rattle.row_search.proofs.Ranges.{count_ranges, get_range}
use Rattle.chunk_rules.proofs.copied.class_range.Goals as goal

pub class_at-number-requires : goal.class_at-number-requires
class_at-number-requires c = omega (arith, c.requires, count_ranges c.args.source.now c.args.span (root_classes c.args.all))

pub returns : goal.returns
returns c =
    get_range c.args.source.now c.args.span (root_classes c.args.all) (c.args.at / 8) (c.args.at % 8) c.args.at c.class_at-number.result c.span_range.result (omega arith) c.class_at-number.ensures
    (rw c.class_digest.ensures at c.span_range.ensures)
