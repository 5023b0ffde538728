-- A pending waits as long as its lock is valid and its root isn't appended.
use Rattle.std.specs.Prelude.{◌∷◌, ◌≡◌, ◌⊎◌, List, [], ℕ}
use Rattle.book_rows.specs.Answer.{book_after, next}
use Rattle.book_rows.specs.Lists.{In}
use Rattle.book_rows.specs.Live.{IsValid}
use Rattle.book_rows.specs.Shape.{all_adds}
use Rattle.book_rows.specs.Sound.{Sound}
use Rattle.book_rows.specs.declared.commands.Command.{Command}
use Rattle.book_rows.specs.declared.rows.Book.{Book}
use Rattle.book_rows.specs.declared.rows.PendingRow.{PendingRow}
use Rattle.book_rows.specs.declared.rows.PosseRow.{PosseRow}

-- no valid lock has the number
abbrev pub IsLost : List PosseRow → ℕ → Type 0
IsLost qs number = (q : PosseRow) → IsValid qs q → q.number ≡ number → ⊥

-- it is still there, or a publication added its root, or its lock isn't valid any more
abbrev pub WaitsOrEnded : Book → PendingRow → Type 0
WaitsOrEnded b p = In p b.pendings ⊎ (In p.root (all_adds b.publications) ⊎ IsLost b.posses p.posse)

-- after any command
abbrev pub PendingsWait : Type 0
PendingsWait = (b : Book) (c : Command) (p : PendingRow) → Sound b → In p b.pendings → WaitsOrEnded (next b c) p

-- ---- over any list of commands

-- the book is sound, has a valid lock of the pending's number, and no publication of it added the pending's root
pub record IsHeldIn (b : Book) (p : PendingRow) : Type 0 where
  pub sound : Sound b
  pub lock : PosseRow
  pub is_valid : IsValid b.posses lock
  pub number_is : lock.number ≡ p.posse
  pub not_added : In p.root (all_adds b.publications) → ⊥

-- that holds of each book on the way
abbrev pub IsHeldOn : Book → List Command → PendingRow → Type 0
IsHeldOn b [] p = IsHeldIn b p
IsHeldOn b (c ∷ cs) p = IsHeldIn b p × IsHeldOn (next b c) cs p

abbrev pub PendingsStay : Type 0
PendingsStay = (b : Book) (cs : List Command) (p : PendingRow) → In p b.pendings → IsHeldOn b cs p → In p (book_after b cs).pendings
