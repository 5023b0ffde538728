use Rattle.std.proofs.Common.{◌≡◌, ◌≤◌, ◌+◌, ◌-◌, IsTrue, true, length, []}
use Rattle.input_lines.specs.Reading.{work_left}
use Rattle.input_lines.specs.Buffers.{reading_of, IsBuffer, Looking}
use Rattle.input_lines.proofs.buffer.find_line.Given as goal

abbrev pub invariant-loop-taken : goal.invariant-loop-taken
invariant-loop-taken g l = record {
  buffer : IsBuffer l.buffer;
  limit : l.buffer.limit ≡ l.initial.buffer.limit;
  still : l.buffer.is_ended ≡ l.initial.buffer.is_ended;
  counts : g.S.Source.faults l.initial.source ≤ g.S.Source.faults l.source;
  ended : IsTrue g.S.Source.tells → l.buffer.is_ended ≡ true → g.S.Source.remaining l.source ≡ [];
  taken : IsTrue g.S.Source.tells → l.buffer.taken + length (g.S.Source.remaining l.source) ≡ l.initial.buffer.taken + length (g.S.Source.remaining l.initial.source);
  size : l.size + (length l.buffer.bytes.items - l.buffer.start) ≤ l.buffer.taken;
  looking : Looking (reading_of l.initial.buffer) (g.S.Source.remaining l.initial.source) (reading_of l.buffer) (g.S.Source.remaining l.source) l.line.items l.size g.S.Source.tells;
}

abbrev pub decreases-loop-taken : goal.decreases-loop-taken
decreases-loop-taken g l = work_left (reading_of l.buffer)
