use Rattle.std.proofs.Common.{option_map, ap}
use Rattle.std.specs.Borrow.{Bor}
use Rattle.book_rows.specs.declared.rows.Ranges.{Ranges}
use Rattle.cmd_codec.proofs.Limits.{ranges_parts}
use Rattle.cmd_codec.proofs.fields.put_ranges.Goals as goal

pub put_list-requires : goal.put_list-requires
put_list-requires c = rw c.as_slice.ensures (ranges_parts (option_map (λ (r : Bor Ranges). r.now) c.args.ranges) c.in-Some.ranges.now (ap (option_map (λ (r : Bor Ranges). r.now)) c.in-Some.is) c.requires)
