-- What a load says, and what it leaves.
use Rattle.std.specs.Prelude.{◌+◌, ◌++◌, ◌∷◌, ◌≡◌, ◌≤◌, ◌⊎◌, Bool, IsTrue, List, [], false, length, take, true, ℕ}
use Rattle.host_desk.specs.Desk.{Desk, Rose}
use Rattle.host_desk.specs.Since.{Since}
use Rattle.machine_run.specs.Ends.{HasOpened, RunStop, run_plan}
use Rattle.machine_run.specs.Rules.{Rules, state_after}
use Rattle.machine_run.specs.Runs.{Holds, ItemsStop, Opens, Plan}
use Rattle.machine_run.specs.Stores.{is_state, store_of}
use Rattle.machine_run.specs.declared.stop.Stop.{Stop}
use Rattle.machine_run.specs.declared.stop.Stop.TheVariants.{StoreFault, StoreCorrupt, InputFault, OutputFault, NoMemory, StoreFull, InputTooLong}
use Rattle.load_run.specs.declared.tally.Tally.{Tally}

-- ---- how items are counted

abbrev pub no_items : Tally
no_items = record { done = 0; refused = 0 }

-- with one more, which was refused or done
abbrev pub counted : Tally → Bool → Tally
counted t true = record { done = t.done; refused = t.refused + 1 }
counted t false = record { done = t.done + 1; refused = t.refused }

-- what is loaded with: the rules of the items, which of them are refused, and the line about all of them
pub record Loading (State Item : Type 0) : Type 1 where
  pub rules : Rules State Item
  pub refuses : State → Item → Bool
  pub text : State → Tally → List ℕ

abbrev pub loading : {State Item : Type 0} → Rules State Item → (State → Item → Bool) → (State → Tally → List ℕ) → Loading State Item
loading rules refuses text = record { rules = rules; refuses = refuses; text = text }

-- these counts and those of these items, each decided on the state behind the ones before it
abbrev pub tallied : {State Item : Type 0} → Loading State Item → Tally → State → List Item → Tally
tallied l t s [] = t
tallied l t s (item ∷ items) = tallied l (counted t (l.refuses s item)) (l.rules.next s item) items

-- the one line that a load puts out
abbrev pub line_of : {State Item : Type 0} → Loading State Item → State → List Item → List ℕ
line_of l s items = l.text (state_after l.rules s items) (tallied l no_items s items)

-- ---- what a stop leaves

-- Left by a stop: for some i the store stands for the state after the first i items, and what was said since is a part of the
-- line; it is none where items are left.
pub record LoadLeft {State Item : Type 0} (l : Loading State Item) (state : State) (items : List Item) (before said : List ℕ) (files : ℕ → List ℕ) : Type 0 where
  pub i : ℕ
  pub within : i ≤ length items
  pub opens : store_of l.rules (files 0) (files 1) ≡ is_state (state_after l.rules state (take i items))
  pub out : ℕ
  pub said_is : said ≡ before ++ take out (line_of l state items)
  pub last : (i ≡ length items) ⊎ (out ≡ 0)

-- the same at any moment since, from whatever state the store stood for
abbrev pub LoadLeftSince : {State Item : Type 0} → Loading State Item → List Item → Desk → Desk → Type 0
LoadLeftSince {State} l items old new = (state : State) → Opens l.rules old state → Since (LoadLeft l state items old.said) old new

-- and now
abbrev pub LoadLeftNow : {State Item : Type 0} → Loading State Item → List Item → Desk → Desk → Type 0
LoadLeftNow {State} l items old new = (state : State) → Opens l.rules old state → LoadLeft l state items old.said new.said new.seen

-- ---- how a load ends

-- no item comes for want of memory alone
abbrev pub lacks_alone : Stop → Type 0
lacks_alone StoreFault = ⊥
lacks_alone (StoreCorrupt file at) = ⊥
lacks_alone InputFault = ⊥
lacks_alone OutputFault = ⊥
lacks_alone NoMemory = Unit {0}
lacks_alone (StoreFull n) = ⊥
lacks_alone InputTooLong = ⊥

-- and the items don't break off
abbrev pub nowhere : {Item : Type 0} → List Item → Type 0
nowhere items = ⊥

-- All items of a plan are in the store, which holds what the fold says.
pub record AreStored {State Item : Type 0} (p : Plan State Item) (desk : Desk) : Type 0 where
  pub opens : Opens p.rules desk (state_after p.rules p.first p.items)
  pub holds : Holds p p.items desk

-- And the line is out.
pub record AreLoaded {State Item : Type 0} (p : Plan State Item) (line : List ℕ) (desk : Desk) : Type 0 where
  pub stored : AreStored p desk
  pub said_is : desk.said ≡ p.before ++ line

-- Or the line broke off.
pub record IsLineCut {State Item : Type 0} (p : Plan State Item) (line : List ℕ) (desk : Desk) : Type 0 where
  pub stored : AreStored p desk
  pub out : ℕ
  pub said_is : desk.said ≡ p.before ++ take out line

-- a fault of the output, or another stop
abbrev pub CutOr : Stop → (cut other : Type 0) → Type 0
CutOr StoreFault cut other = other
CutOr (StoreCorrupt file at) cut other = other
CutOr InputFault cut other = other
CutOr OutputFault cut other = cut
CutOr NoMemory cut other = other
CutOr (StoreFull n) cut other = other
CutOr InputTooLong cut other = other

-- The items aren't all stored, or the line isn't out: each stop with its cause. The output fails behind the last item alone.
abbrev pub LoadingStop : {State Item : Type 0} → Plan State Item → (line : List ℕ) (told : Type 0) → Desk → Desk → Stop → Type 0
LoadingStop p line told old new stop = CutOr stop (Rose old.say_faults new.say_faults × (told → IsLineCut p line new)) (ItemsStop p told lacks_alone nowhere old new stop)

-- All items are stored, each by its own record, from the state that the store stood for, and the line is out.
pub record HasLoaded {State Item : Type 0} (l : Loading State Item) (limit : ℕ) (items : List Item) (old new : Desk) : Type 0 where
  pub opened : HasOpened l.rules limit old
  pub loaded : AreLoaded (run_plan l.rules 1 limit opened.state items old) (line_of l opened.state items) new

-- A load ended with a stop: its cause, and what stands then, as of a run. Where the output failed all items are stored, from
-- whatever state the store stood for.
abbrev pub LoadStop : {State Item : Type 0} → Loading State Item → (limit : ℕ) → List Item → (tells : Bool) → Desk → Desk → Stop → Type 0
LoadStop {State} l limit items tells old new stop =
    CutOr stop
    (Rose old.say_faults new.say_faults × (IsTrue tells → HasOpened l.rules limit old) × (IsTrue tells → (state : State) → Opens l.rules old state → IsLineCut (run_plan l.rules 1 limit state items old) (line_of l state items) new))
    (RunStop l.rules 1 limit items tells (IsTrue tells) lacks_alone nowhere old new stop)
