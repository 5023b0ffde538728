-- The last publication, while it is being built: it begins empty and grows.
use Rattle.std.specs.Prelude.{◌++◌, ◌∷◌, ◌≡◌, List, [], false}
use Rattle.iv_span.specs.Extent.{Extent, overlap}
use Rattle.seg_names.specs.declared.seg_id.SegId.{SegId}
use Rattle.book_rows.specs.Lists.{In}
use Rattle.book_rows.specs.declared.rows.Book.{Book}
use Rattle.book_rows.specs.declared.rows.Publication.{Publication}
use Rattle.book_rows.specs.declared.rows.SpanSince.{SpanSince}
use Rattle.laws_chunks.specs.ChunksSound.{AreChunksSound}

-- the book whose publications are these and then the one that is being built
abbrev pub building : List Publication → Publication → Book → Book
building ms m b = record b { publications = ms ++ m ∷ [] }

-- a publication begins

abbrev pub pushed : Publication → Book → Book
pushed m b = record b { publications = b.publications ++ m ∷ [] }

-- one without ids, tombstones and spans, of any kind
abbrev pub PushKeeps : Type 0
PushKeeps = (m : Publication) (b : Book) → m.adds ≡ [] → m.empties ≡ [] → m.spans ≡ [] → AreChunksSound b → AreChunksSound (pushed m b)

-- and grows

-- it has more ids, spans and tombstones
abbrev pub grown : List SegId → List SpanSince → List SegId → Publication → Publication
grown ids spans empties m = record m { adds = m.adds ++ ids; spans = m.spans ++ spans; empties = m.empties ++ empties }

-- it adds one root more
abbrev pub appended : SegId → Publication → Publication
appended r m = record m { adds = m.adds ++ r ∷ [] }

-- what it has so far doesn't meet the span
pub record IsApart (s : Extent) (m : Publication) : Type 0 where
  pub ids : (a : SegId) → In a m.adds → overlap a.span s ≡ false
  pub spans : (x : SpanSince) → In x m.spans → overlap x.span s ≡ false
