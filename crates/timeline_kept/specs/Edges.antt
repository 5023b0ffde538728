-- Where the parts of a list that a change touches begin and end.
use Rattle.std.specs.Prelude.{◌≡◌, ◌≤◌, ◌⊎◌, Bool, List, drop, false, int_le, int_lt, length, take, true, ℕ, ℤ}
use Rattle.book_rows.specs.Lists.{In}
use Rattle.book_rows.specs.Shown.{ChunkPart, timeline_part}
use Rattle.book_rows.specs.declared.replies.TimelinePart.{TimelinePart}

-- a part that ends before the instant, and one that starts by it
abbrev pub ends_before : ℤ → TimelinePart → Bool
ends_before at p = int_lt p.span.end at

abbrev pub starts_by : ℤ → TimelinePart → Bool
starts_by at p = int_le p.span.start at

-- the parts before the place pass the test, and those from it on don't
pub record Splits (test : TimelinePart → Bool) (ps : List ChunkPart) (place : ℕ) : Type 0 where
  pub bound : place ≤ length ps
  pub before : (p : ChunkPart) → In p (take place ps) → test (timeline_part p) ≡ true
  pub after : (p : ChunkPart) → In p (drop place ps) → test (timeline_part p) ≡ false

-- those before the place end before the instant; those from it on start no earlier than `start`, which is the instant or the
-- start of one of them
pub record IsLeftEdge (ps : List ChunkPart) (at : ℤ) (place : ℕ) (start : ℤ) : Type 0 where
  pub bound : place ≤ length ps
  pub low : int_le start at ≡ true
  pub before : (p : ChunkPart) → In p (take place ps) → (int_lt p.span.end at ≡ true) × (int_le p.span.end start ≡ true)
  pub after : (p : ChunkPart) → In p (drop place ps) → int_le start p.span.start ≡ true
  pub own : (start ≡ at) ⊎ ((p : ChunkPart) × In p (drop place ps) × (p.span.start ≡ start))

-- those from the place on start behind the instant; those before it end no later than `end`, which is the instant or the end of
-- one of them
pub record IsRightEdge (ps : List ChunkPart) (at : ℤ) (place : ℕ) (end : ℤ) : Type 0 where
  pub bound : place ≤ length ps
  pub high : int_le at end ≡ true
  pub after : (p : ChunkPart) → In p (drop place ps) → (int_lt at p.span.start ≡ true) × (int_le end p.span.start ≡ true)
  pub before : (p : ChunkPart) → In p (take place ps) → int_le p.span.end end ≡ true
  pub own : (end ≡ at) ⊎ ((p : ChunkPart) × In p (take place ps) × (p.span.end ≡ end))
