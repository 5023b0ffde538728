-- The two ways to fill spans.
use Rattle.book_rows.specs.Over.{Filling as TheFilling, Inserting, Replacing}
use Rattle.publish_core.specs.declared.kinds.Filling.{Filling}
use Rattle.publish_core.specs.declared.kinds.Filling.TheVariants as Fillings

-- as the rules name it
abbrev pub filling_of : Filling → TheFilling
filling_of Fillings.Inserting = Inserting
filling_of Fillings.Replacing = Replacing
