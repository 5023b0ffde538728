-- A source in memory, as its contracts see it.
use Rattle.std.specs.Prelude.{◌≡◌, ◌+◌, min, ℕ, List, drop, Contains}
use Rattle.host_desk.specs.declared.source.MemSource.{MemSource}

-- The bytes that are left to read.
abbrev pub bytes_left : MemSource → List ℕ
bytes_left source = drop source.place source.bytes.items

-- How many reads have failed.
abbrev pub fault_count : MemSource → ℕ
fault_count source = source.faults

-- How many reads were made, up to the last value of a counter that can't wrap.
abbrev pub read_count : MemSource → ℕ
read_count source = source.reads

-- The read of this number was named to fail.
abbrev pub IsNamed : MemSource → ℕ → Type 0
IsNamed source read = Contains source.failing.items read

-- How many bytes one read gives at most.
abbrev pub most_per_read : MemSource → ℕ
most_per_read source = source.piece

-- Which reads are named to fail, and how much one of them gives, is as it was. One more read was made.
pub record KeepsPlan (old new : MemSource) : Type 0 where
  pub failing : new.failing.items ≡ old.failing.items
  pub piece : new.piece ≡ old.piece
  pub reads : new.reads ≡ min (old.reads + 1) 18446744073709551615
