-- What the program promises of a load.
use Rattle.std.specs.Prelude.{◌++◌, ◌≡◌, ◌≤◌, ◌⊎◌, Bool, IsTrue, List, length, take, ℕ}
use Rattle.host_desk.specs.Desk.{Desk, Rose}
use Rattle.host_desk.specs.Since.{Since}
use Rattle.book_rows.specs.declared.commands.Command.{Command}
use Rattle.book_rows.specs.declared.rows.Book.{Book}
use Rattle.load_run.specs.Loads.{HasLoaded, LoadStop, line_of}
use Rattle.machine_run.specs.Ends.{opened_as}
use Rattle.machine_run.specs.Opening.{IsUntouched, StoreIs}
use Rattle.machine_run.specs.Rules.{state_after}
use Rattle.machine_run.specs.Runs.{Opens}
use Rattle.machine_run.specs.Stores.{is_bad, is_state, store_of}
use Rattle.machine_run.specs.declared.stop.Stop.{Stop}
use Rattle.machine_run.specs.declared.stop.Stop.TheVariants as stop
use Rattle.overlord_rules.specs.CommandRules.{command_rules}
use Rattle.overlord_rules.specs.OverlordRules.{overlord_rules}
use Rattle.overlord_run.specs.CommandLoad.{command_load}
use Rattle.overlord_run.specs.Ends.{HasRoom}
use Rattle.overlord_run.specs.Promise.{IsSoundStore}
use Rattle.overlord_run.specs.declared.status.Status.{Status}
use Rattle.overlord_run.specs.declared.status.Status.TheVariants.{Done, Usage, StoreFault, StoreCorrupt, InputFault, OutputFault, NoMemory, StoreFull, InputTooLong}

-- What a load is given, and the host before and after it.
pub record LoadCall : Type 1 where
  -- whether the host tells its bytes
  pub tells : Bool
  pub commands : List Command
  -- the store that the words name
  pub store : List ℕ
  -- the limit of a log in bytes
  pub log : ℕ
  pub before : Desk
  pub after : Desk

abbrev pub load_call : (tells : Bool) → List Command → (store : List ℕ) → (log : ℕ) → (before after : Desk) → LoadCall
load_call tells commands store log before after = record { tells = tells; commands = commands; store = store; log = log; before = before; after = after }

-- A stop left this: for some i a store that opens as the book after the first i commands. What was said is a part of the one line
-- about all of them, and of that no byte is out where commands are left.
pub record IsLoadPrefix (c : LoadCall) (book : Book) (said : List ℕ) (files : ℕ → List ℕ) : Type 0 where
  pub i : ℕ
  pub within : i ≤ length c.commands
  pub opens : store_of overlord_rules (files 0) (files 1) ≡ is_state (state_after command_rules book (take i c.commands))
  pub out : ℕ
  pub said_is : said ≡ c.before.said ++ take out (line_of command_load book c.commands)
  pub last : (i ≡ length c.commands) ⊎ (out ≡ 0)

-- Pair 0 was opened under this name, and no other pair; or none was, and the files failed or memory lacked.
abbrev pub LoadOpensStore : LoadCall → Status → Type 0
LoadOpensStore c status = (c.after.opened ≡ opened_as c.store c.before.opened)
    ⊎ ((c.after.opened ≡ c.before.opened) × ((status ≡ StoreFault) ⊎ (status ≡ NoMemory)))

-- a stop of the load
abbrev pub LoadStops : LoadCall → Stop → Type 0
LoadStops c s = LoadStop command_load c.log c.commands c.tells c.before c.after s

-- What a status says, by its cause. A load reads no input, so those of an input don't come; nor does that of the words.
abbrev pub LoadEnds : LoadCall → Status → Type 0
LoadEnds c Done = IsTrue c.tells → HasLoaded command_load c.log c.commands c.before c.after
LoadEnds c Usage = ⊥
LoadEnds c StoreFault = LoadStops c stop.StoreFault
LoadEnds c (StoreCorrupt file at) = LoadStops c (stop.StoreCorrupt file at)
LoadEnds c InputFault = ⊥
LoadEnds c OutputFault = LoadStops c stop.OutputFault
LoadEnds c NoMemory = LoadStops c stop.NoMemory
LoadEnds c (StoreFull length_now) = LoadStops c (stop.StoreFull length_now)
LoadEnds c InputTooLong = ⊥

-- no count of faults rose
pub record HostHeld (before after : Desk) : Type 0 where
  pub store : Rose before.store_faults after.store_faults → ⊥
  pub say : Rose before.say_faults after.say_faults → ⊥

-- Where no call failed and every record has room, all commands are stored and the line is out, or memory lacked.
abbrev pub LoadCompletes : Book → LoadCall → Status → Type 0
LoadCompletes book c status = HostHeld c.before c.after → HasRoom command_rules book c.commands c.log c.before → (status ≡ Done) ⊎ (status ≡ NoMemory)

pub record PromiseOfLoad (c : LoadCall) (status : Status) : Type 0 where
  -- At every moment a stop leaves a store that opens as the book after a prefix of the commands, which is all of them once a byte of
  -- the line was put out.
  pub any_moment : IsTrue c.tells → (book : Book) → Opens overlord_rules c.before book → Since (IsLoadPrefix c book) c.before c.after
  -- What was said and what the files read as at the end is such a prefix, whatever the status.
  pub now : IsTrue c.tells → (book : Book) → Opens overlord_rules c.before book → IsLoadPrefix c book c.after.said c.after.seen
  -- In each of these, at every moment and at the end, the book that the store opens as is sound, and shows what was put.
  pub shown : IsTrue c.tells → (book : Book) → Opens overlord_rules c.before book → Since IsSoundStore c.before c.after
  pub shown_now : IsTrue c.tells → (book : Book) → Opens overlord_rules c.before book → IsSoundStore c.after.said c.after.seen
  -- Files that are no store are left alone at every moment, and nothing is said, whatever the status.
  pub foreign : IsTrue c.tells → (file at : ℕ) → StoreIs overlord_rules c.before ≡ is_bad file at → IsUntouched c.before c.after
  -- The store that is opened is the one that the words name.
  pub opened : LoadOpensStore c status
  -- Each status by its cause.
  pub ends : LoadEnds c status
  -- Nothing else than a cause ends a load: with no fault, a store that opens and room, it is done or lacked memory.
  pub complete : IsTrue c.tells → (book : Book) → Opens overlord_rules c.before book → LoadCompletes book c status
