-- The books of stores and runs are sound.
use Rattle.std.specs.Prelude.{◌≡◌, List, ℕ}
use Rattle.book_rows.specs.Sound.{Sound}
use Rattle.book_rows.specs.declared.rows.Book.{Book}
use Rattle.machine_run.specs.LineItems.{LineItem}
use Rattle.machine_run.specs.Rules.{state_after}
use Rattle.machine_run.specs.Stores.{is_state, store_of}
use Rattle.overlord_rules.specs.OverlordRules.{overlord_rules}
use Rattle.laws_runs.specs.ShownReplies.{ShowsWhatWasPut}

-- the book that the bytes of two files stand for
abbrev pub StoreBooksAreSound : Type 0
StoreBooksAreSound = (first second : List ℕ) (b : Book) → store_of overlord_rules first second ≡ is_state b → Sound b

-- the book behind lines, each a command or not, long or not
abbrev pub LinesKeepSound : Type 0
LinesKeepSound = (b : Book) (lines : List LineItem) → Sound b → Sound (state_after overlord_rules b lines)

-- what a book has behind any lines of a run over a store, whatever the bytes of the store's files
abbrev pub OfRuns : (Book → Type 0) → Type 0
OfRuns P = (first second : List ℕ) (b : Book) (lines : List LineItem) → store_of overlord_rules first second ≡ is_state b → P (state_after overlord_rules b lines)

abbrev pub RunsLeadToSound : Type 0
RunsLeadToSound = OfRuns Sound

-- ---- what such books show

-- a sound book, of any source
abbrev pub SoundShowWhatWasPut : Type 0
SoundShowWhatWasPut = (b : Book) → Sound b → (source : List ℕ) → ShowsWhatWasPut b source

abbrev pub RunsShowWhatWasPut : Type 0
RunsShowWhatWasPut = (source : List ℕ) → OfRuns (λ b. ShowsWhatWasPut b source)
