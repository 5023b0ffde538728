-- The part of a book's shape that is on stored offsets and published ranges.
use Rattle.std.specs.Prelude.{◌≡◌, Bool, List, cond, false, true}
use Rattle.std.specs.List.{list_all}
use Rattle.seg_names.specs.Names.{is_name}
use Rattle.book_rows.specs.Answer.{book_after, empty_book, next}
use Rattle.book_rows.specs.Form.{KeepsForm, keeps_form}
use Rattle.book_rows.specs.Ids.{is_less}
use Rattle.book_rows.specs.Lists.{Pairs}
use Rattle.book_rows.specs.Offsets.{key_cmp}
use Rattle.book_rows.specs.Outcome.{is_full}
use Rattle.book_rows.specs.Shape.{HasShape, are_points, are_row_ranges, is_offset_row}
use Rattle.book_rows.specs.Tiles.{is_reset}
use Rattle.book_rows.specs.declared.commands.Command.{Command}
use Rattle.book_rows.specs.declared.kinds.Table.TheVariants as Tables
use Rattle.book_rows.specs.declared.rows.Book.{Book}
use Rattle.book_rows.specs.declared.rows.OffsetRow.{OffsetRow}
use Rattle.book_rows.specs.declared.rows.Publication.{Publication}
use Rattle.book_rows.specs.declared.rows.SupervisorRow.{SupervisorRow}
use Rattle.book_rows.specs.declared.rows.TaskRow.{TaskRow}

-- rows within their limits, ascending by source, stream and partition, so no key stands there twice
pub record AreOffsetRows (rows : List OffsetRow) : Type 0 where
  pub limits : list_all is_offset_row rows ≡ true
  pub order : Pairs (λ r s. is_less (key_cmp r s) ≡ true) rows

-- the ranges of a reset end where they start
abbrev pub fits_reset : Publication → Bool
fits_reset m = cond (is_reset m.kind) (are_points m.ranges) true

-- ranges within their limits, of distinct partitions
pub record ArePublishedRanges (ms : List Publication) : Type 0 where
  pub limits : list_all (λ m. are_row_ranges m.ranges) ms ≡ true
  pub points : list_all fits_reset ms ≡ true

pub record HasOffsetShape (b : Book) : Type 0 where
  pub rows : AreOffsetRows b.offsets
  pub room : is_full Tables.Offsets b ≡ false
  pub ranges : ArePublishedRanges b.publications

-- it is part of the shape of a whole book
abbrev pub ShapeHasOffsetShape : Type 0
ShapeHasOffsetShape = (b : Book) → HasShape b → HasOffsetShape b

-- each task's source is a name
abbrev pub HaveNamedSources : List TaskRow → Type 0
HaveNamedSources ts = list_all (λ t. is_name t.source) ts ≡ true

-- of any command, in a book whose tasks have names as sources
abbrev pub OffsetShapeStays : Type 0
OffsetShapeStays = (b : Book) (c : Command) → KeepsForm c → HaveNamedSources b.tasks → HasOffsetShape b → HasOffsetShape (next b c)

-- ---- lists of commands

-- each supervisor's source is a name
abbrev pub HaveNamedSupervisors : List SupervisorRow → Type 0
HaveNamedSupervisors ss = list_all (λ s. is_name s.source) ss ≡ true

pub record HasNames (b : Book) : Type 0 where
  pub tasks : HaveNamedSources b.tasks
  pub supervisors : HaveNamedSupervisors b.supervisors

-- of any command
abbrev pub NamesStay : Type 0
NamesStay = (b : Book) (c : Command) → KeepsForm c → HasNames b → HasNames (next b c)

-- the book that any commands that keep their form lead to from the empty one
abbrev pub ReachedHaveOffsetShape : Type 0
ReachedHaveOffsetShape = (cs : List Command) → list_all keeps_form cs ≡ true → HasOffsetShape (book_after empty_book cs)
