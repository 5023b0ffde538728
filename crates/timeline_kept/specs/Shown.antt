-- What a list of parts shows at each instant, and what is put in the place of it in some spans.
use Rattle.std.specs.Prelude.{◌∷◌, ◌≡◌, List, None, Option, Some, [], cond, int_lt, true, ℤ}
use Rattle.iv_span.specs.Condensed.{has_any}
use Rattle.iv_span.specs.Extent.{Extent, has}
use Rattle.book_rows.specs.Lists.{In, list_links}
use Rattle.book_rows.specs.Shown.{ChunkPart, agree}
use Rattle.laws_parts.specs.Laws.{ChunkShown, chunk_body}
use Rattle.laws_parts.specs.Parts.{AreParts, goes_on}

abbrev pub span_of : ChunkPart → Extent
span_of p = p.span

-- the parts show at each instant what is given there
abbrev pub AreShown : (ℤ → Option ChunkShown) → List ChunkPart → Type 0
AreShown given ps = AreParts span_of chunk_body agree given ps

-- the parts ascend, each has an instant, and no two touch and agree
pub record AreMaximal (ps : List ChunkPart) : Type 0 where
  pub linked : list_links (goes_on span_of agree) ps ≡ true
  pub proper : (p : ChunkPart) → In p ps → int_lt p.span.start p.span.end ≡ true

-- the chunk and the ids of the first part that has the instant
abbrev pub shown_at : List ChunkPart → ℤ → Option ChunkShown
shown_at [] t = None
shown_at (p ∷ ps) t = cond (has p.span t) (Some (chunk_body p)) (shown_at ps t)

-- what is given in the spans, and elsewhere
abbrev pub given_over : List Extent → (ℤ → Option ChunkShown) → (ℤ → Option ChunkShown) → ℤ → Option ChunkShown
given_over spans new old t = cond (has_any spans t) (new t) (old t)

-- what is given from an instant on
abbrev pub given_from : ℤ → (ℤ → Option ChunkShown) → ℤ → Option ChunkShown
given_from start given t = cond (int_lt t start) None (given t)
