-- What the program promises of a call.
use Rattle.std.specs.Prelude.{◌≡◌, ℕ, ◌+◌, ◌≤◌, ◌⊎◌, IsTrue, List, length, Some}
use Rattle.host_desk.specs.Since.{Since}
use Rattle.book_rows.specs.Sound.{Sound}
use Rattle.book_rows.specs.declared.rows.Book.{Book}
use Rattle.machine_run.specs.Runs.{Opens, Left}
use Rattle.machine_run.specs.Opening.{IsUntouched, StoreIs}
use Rattle.machine_run.specs.Ends.{opened_as}
use Rattle.machine_run.specs.Stores.{is_bad, is_state, store_of}
use Rattle.overlord_rules.specs.OverlordRules.{overlord_rules}
use Rattle.laws_runs.specs.ShownReplies.{ShowsWhatWasPut}
use Rattle.overlord_run.specs.Ends.{Call, told, lines_in, Ends, Completes}
use Rattle.overlord_run.specs.declared.status.Status.{Status}
use Rattle.overlord_run.specs.declared.status.Status.TheVariants.{Usage, StoreFault, NoMemory}

-- the files stand for a book before the call
abbrev pub Begins : Call → Book → Type 0
Begins c book = Opens overlord_rules c.before.host book

-- a stop left this: a store that opens as the book after a prefix of the lines, with each line of whose reply a byte is out
abbrev pub IsPrefix : Call → Book → List ℕ → (ℕ → List ℕ) → Type 0
IsPrefix c book said files = Left overlord_rules book (lines_in c) c.before.host.said said files

-- The files are a store that opens as a sound book. Of each source, at each instant, the replies of this book to `show timeline` and to
-- `show contents` show what its publications put there and none after took away, each root once. What was said is an observation's, and
-- nothing here.
pub record IsSoundStore (said : List ℕ) (files : ℕ → List ℕ) : Type 0 where
  pub book : Book
  pub opens : store_of overlord_rules (files 0) (files 1) ≡ is_state book
  pub sound : Sound book
  pub shows : (source : List ℕ) → ShowsWhatWasPut book source

-- Pair 0 was opened under this name, and no other pair; or none was, and the files failed or memory lacked.
abbrev pub OpensStore : Call → List ℕ → Status → Type 0
OpensStore c store status = (c.after.host.opened ≡ opened_as store c.before.host.opened)
    ⊎ ((c.after.host.opened ≡ c.before.host.opened) × ((status ≡ StoreFault) ⊎ (status ≡ NoMemory)))

pub record Promise (c : Call) (status : Status) : Type 0 where
  -- At every moment a stop leaves a store that opens as the book after a prefix of the run's commands, which holds every
  -- command of whose reply a byte was put out.
  pub any_moment : told c → (book : Book) → Begins c book → Since (IsPrefix c book) c.before.host c.after.host
  -- What was said and what the files read as at the end is such a prefix, whatever the status.
  pub now : told c → (book : Book) → Begins c book → IsPrefix c book c.after.host.said c.after.host.seen
  -- In each of these, at every moment and at the end, the book that the store opens as is sound, and shows what was put.
  pub shown : told c → (book : Book) → Begins c book → Since IsSoundStore c.before.host c.after.host
  pub shown_now : told c → (book : Book) → Begins c book → IsSoundStore c.after.host.said c.after.host.seen
  -- Files that are no store are left alone at every moment, and nothing is said, whatever the status.
  pub foreign : IsTrue c.host_tells → (file at : ℕ) → StoreIs overlord_rules c.before.host ≡ is_bad file at → IsUntouched c.before.host c.after.host
  -- The store that is opened is the one that the words name.
  pub opened : (store : List ℕ) → c.store ≡ Some store → OpensStore c store status
  -- Each status by its cause.
  pub ends : Ends overlord_rules c status
  -- Nothing else than a cause ends a run: with no fault, a store that opens and room, it is done or lacked memory.
  pub complete : told c → (status ≡ Usage → ⊥) → (book : Book) → Begins c book → Completes overlord_rules book c status
  -- No more than the limit of the input is read, whatever the source has.
  pub within : IsTrue c.source_tells → length c.before.left ≤ c.input + length c.after.left
