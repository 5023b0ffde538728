use Rattle.std.proofs.Common.{drop, length, ◌≡◌}
use Rattle.std.specs.List.{range_with_len}
use Rattle.book_rows.specs.Lists.{same_numbers}
use Rattle.publish_core.proofs.filled.counts_up.Given as goal

-- what is asked of all is asked of the parts still to be passed
abbrev pub invariant-loop-part : goal.invariant-loop-part
invariant-loop-part l = record {
  counted : l.next ≡ l.part-index;
  same : same_numbers (drop l.part-index l.parts) (range_with_len l.next (length (drop l.part-index l.parts))) ≡ same_numbers l.parts (range_with_len 0 (length l.parts));
}
