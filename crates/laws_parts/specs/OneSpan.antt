-- Used segments of one version that share an instant.
use Rattle.std.specs.Prelude.{◌≡◌, List, true, ℕ, ℤ}
use Rattle.book_rows.specs.Lists.{In}
use Rattle.book_rows.specs.Sound.{Sound}
use Rattle.book_rows.specs.Visible.{is_used_at}
use Rattle.book_rows.specs.declared.rows.Book.{Book}
use Rattle.book_rows.specs.declared.rows.SegmentRow.{SegmentRow}

-- used rows of the source and of one version that share an instant have one span
abbrev pub ShareOneSpan : List SegmentRow → List ℕ → Type 0
ShareOneSpan rows source = (r q : SegmentRow) (t : ℤ) → In r rows → In q rows → is_used_at source t r ≡ true → is_used_at source t q ≡ true → r.id.version ≡ q.id.version → r.id.span ≡ q.id.span

-- those of a sound book do, for each source
abbrev pub SoundSharesOneSpan : Type 0
SoundSharesOneSpan = (b : Book) → Sound b → (source : List ℕ) → ShareOneSpan b.segments source
