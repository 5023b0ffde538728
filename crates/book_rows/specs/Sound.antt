-- What holds of every book that the rules reach: the soundness rules, one field each.
use Rattle.book_rows.specs.Answer.{empty_book, next}
use Rattle.book_rows.specs.Form.{KeepsForm}
use Rattle.book_rows.specs.Rules.{AreBelowLocks, AreCompatible, AreRooted, AreUpgrades, CarriesUpgrades, HaveCopies, HaveCores, HaveOneSpan, ShowsContents}
use Rattle.book_rows.specs.SequenceRules.{AreSequencesSound}
use Rattle.book_rows.specs.Shape.{HasShape}
use Rattle.book_rows.specs.Tiles.{IsTiled}
use Rattle.book_rows.specs.declared.commands.Command.{Command}
use Rattle.book_rows.specs.declared.rows.Book.{Book}

pub record Sound (b : Book) : Type 0 where
  pub shape : HasShape b
  pub compatible_locks : AreCompatible b.posses
  pub one_span : HaveOneSpan b.segments b.pendings
  pub below_locks : AreBelowLocks b.posses b.segments b.pendings
  pub rooted : AreRooted b.posses b.pendings
  pub upgrades : AreUpgrades b.posses b.upgrades b.publications
  pub cores : HaveCores b.posses b.chunks b.segments b.pendings
  pub copies : HaveCopies b.chunks b.segments b.pendings
  pub carried : CarriesUpgrades b.posses b.chunks b.upgrades b.publications
  pub shown_contents : ShowsContents b.segments b.publications
  pub tiled : IsTiled b.publications b.offsets
  pub sequences : AreSequencesSound b

-- a command that keeps its form leads from a sound book to a sound one
abbrev pub KeepsSound : Command → Type 0
KeepsSound c = (b : Book) → KeepsForm c → Sound b → Sound (next b c)

-- the book without rows is sound
abbrev pub EmptyIsSound : Type 0
EmptyIsSound = Sound empty_book
