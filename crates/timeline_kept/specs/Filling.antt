-- A window of a list that is filled from left to right, over the spans of a change.
use Rattle.std.specs.Prelude.{◌∷◌, ◌≡◌, List, Option, [], int_le, true, ℤ}
use Rattle.iv_span.specs.Condensed.{AreApart}
use Rattle.iv_span.specs.Extent.{Extent}
use Rattle.book_rows.specs.Shown.{ChunkPart, agree}
use Rattle.laws_parts.specs.Laws.{ChunkShown, chunk_body}
use Rattle.laws_parts.specs.Parts.{AreBuilt}
use Rattle.timeline_kept.specs.Shown.{given_from, given_over, shown_at, span_of}

-- the parts show what is given before an instant, and nothing from there on
abbrev pub Built : (ℤ → Option ChunkShown) → ℤ → List ChunkPart → Type 0
Built given c ps = AreBuilt span_of chunk_body agree given c ps

-- the first span, where there is one, doesn't start before the instant
abbrev pub NotBefore : ℤ → List Extent → Type 0
NotBefore at [] = Unit {0}
NotBefore at (s ∷ ss) = int_le at s.start ≡ true

-- this is the first of the spans
abbrev pub StartsWith : Extent → List Extent → Type 0
StartsWith first spans = (rest : List Extent) × (spans ≡ first ∷ rest)

-- the window is filled up to an instant. Of the spans these are left, and from there on what is given is what the new list shows
-- in them, and elsewhere what the old one does
pub record IsFilled (start : ℤ) (given : ℤ → Option ChunkShown) (old new : List ChunkPart) (left : List Extent) (at : ℤ) (out : List ChunkPart) : Type 0 where
  pub from : int_le start at ≡ true
  pub rest : (t : ℤ) → int_le at t ≡ true → given t ≡ given_over left (shown_at new) (shown_at old) t
  pub apart : AreApart left
  pub next : NotBefore at left
  pub built : Built (given_from start given) at out
