use Rattle.std.proofs.Common.{◌/◌, ◌%◌, arith}
use Rattle.lock_rules.specs.Conflicts.{rivals}
use Rattle.row_search.proofs.Ranges.{count_ranges, get_range}
use Rattle.lock_rules.proofs.conflicts.rival_range.Goals as goal

pub rival-number-requires : goal.rival-number-requires
rival-number-requires c = omega (arith, c.requires, count_ranges c.args.source.now c.args.span (rivals c.args.kind))

pub returns : goal.returns
returns c =
    get_range c.args.source.now c.args.span (rivals c.args.kind) (c.args.at / 8) (c.args.at % 8) c.args.at c.rival-number.result c.span_range.result (omega arith) c.rival-number.ensures (rw c.class_digest.ensures at c.span_range.ensures)
