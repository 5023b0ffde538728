-- For each rule: its row is the least that breaks it, and there is none exactly where it holds.
use Rattle.std.specs.Prelude.{◌<◌, ◌≡◌, ◌≤◌, None, Some, true, ℕ}
use Rattle.std.specs.List.{AllByRecursion}
use Rattle.book_rows.specs.Lists.{In}
use Rattle.book_rows.specs.Outcome.{is_full, number_limit}
use Rattle.book_rows.specs.Rules.{AreBelowLocks, AreCompatible, AreRooted, AreUpgrades, CarriesUpgrades, HaveCopies, HaveCores, HaveOneSpan, ShowsContents}
use Rattle.book_rows.specs.SequenceRules.{AreSequencesSound}
use Rattle.book_rows.specs.Shape.{HasShape, HaveChunks}
use Rattle.book_rows.specs.Sound.{Sound}
use Rattle.book_rows.specs.Tiles.{IsTiled}
use Rattle.book_rows.specs.declared.kinds.Table.{Table}
use Rattle.book_rows.specs.declared.rows.Book.{Book}
use Rattle.laws_unsound.specs.Breaks.{Breaks}
use Rattle.laws_unsound.specs.Named.{IsRuleRow, Names, NoneWhere}
use Rattle.laws_unsound.specs.ShapeRows.{single_tables}
use Rattle.laws_unsound.specs.Unsound.{BelowLocks, Breach, Carried, Compatible, Copied, InSequence, OneSpan, Rooted, Rule, Shape, Shown, Tiled, Whole, first_unsound, number, row_of}

-- ---- each rule

-- the limit of locks' numbers: of a sound book it follows from the rules on keys, pendings and upgrade rows
pub record HasNumbers (b : Book) : Type 0 where
  pub locks : AllByRecursion (λ q. q.number < number_limit) b.posses
  pub pendings : AllByRecursion (λ p. p.posse < number_limit) b.pendings
  pub upgrades : AllByRecursion (λ u. u.posse < number_limit) b.upgrades

abbrev pub Holds : Rule → Book → Type 0
Holds Shape b = HasShape b × HasNumbers b
Holds Compatible b = AreCompatible b.posses
Holds OneSpan b = HaveOneSpan b.segments b.pendings
Holds BelowLocks b = AreBelowLocks b.posses b.segments b.pendings
Holds Rooted b = AreRooted b.posses b.pendings × AreUpgrades b.posses b.upgrades b.publications
Holds Whole b = HaveCores b.posses b.chunks b.segments b.pendings
Holds Copied b = HaveCopies b.chunks b.segments b.pendings
Holds Carried b = CarriesUpgrades b.posses b.chunks b.upgrades b.publications
Holds Shown b = ShowsContents b.segments b.publications
Holds Tiled b = IsTiled b.publications b.offsets
Holds InSequence b = AreSequencesSound b

-- the rule's row is the least that breaks it, and there is none exactly where it holds
abbrev pub IsRowOfRule : Rule → Type 0
IsRowOfRule rule = (b : Book) → IsRuleRow (row_of rule b) (Holds rule b) (Breaks rule b)

-- the same of a rule on live ids, which are named by their chunk rows: it is decided where each id has one, as the shape has it
pub record IsRowOfChunkRule (rule : Rule) : Type 0 where
  pub where_holds : (b : Book) → HaveChunks b → NoneWhere (row_of rule b) (Holds rule b)
  pub names : (b : Book) → Names (row_of rule b) (Breaks rule b)

-- ---- the whole

-- no rule is broken exactly where the book is sound
pub record UnsoundDecides (b : Book) : Type 0 where
  pub sound : first_unsound b ≡ None → Sound b
  pub complete : Sound b → first_unsound b ≡ None

abbrev pub FirstUnsoundDecides : Type 0
FirstUnsoundDecides = (b : Book) → UnsoundDecides b

-- the row breaks the rule, no lower one does, and no row breaks a rule before it
pub record IsFirstBreach (b : Book) (f : Breach) : Type 0 where
  pub breaks : Breaks f.rule b f.row
  pub least : (n : ℕ) → Breaks f.rule b n → f.row ≤ n
  pub first : (rule : Rule) (n : ℕ) → number rule < number f.rule → Breaks rule b n → ⊥

-- what is found is the first breach
abbrev pub FirstUnsoundIsFirst : Type 0
FirstUnsoundIsFirst = (b : Book) (f : Breach) → first_unsound b ≡ Some f → IsFirstBreach b f

-- the first breach is found
abbrev pub FirstIsFound : Type 0
FirstIsFound = (b : Book) (f : Breach) → IsFirstBreach b f → first_unsound b ≡ Some f

-- no row of a sound book breaks a rule
abbrev pub SoundIsUnbroken : Type 0
SoundIsUnbroken = (b : Book) → Sound b → (rule : Rule) (n : ℕ) → Breaks rule b n → ⊥

-- a table that is too long, or a number of the next lock that is too great, is found before all else, and has row 0
abbrev pub FullTableIsFound : Type 0
FullTableIsFound = (b : Book) (table : Table) → In table single_tables → is_full table b ≡ true → first_unsound b ≡ Some (record { rule = Shape; row = 0 })
