-- A whole load: the pair is opened, then the store, and then the items are loaded.
use Rattle.std.proofs.Common.{◌≡◌, ◌≤◌, Bool, Err, IfErr, IsTrue, List, Ok, Result, [], subst, sym, ℕ}
use Rattle.host_desk.specs.Desk.{Desk, IsNow, KeepsCounts, Stays}
use Rattle.host_desk.specs.Since.{Since}
use Rattle.host_desk.proofs.Moments.{rose_before, since_then}
use Rattle.gate_log.specs.Log.{Mark}
use Rattle.machine_run.specs.Ends.{HasOpened, LogIsFull, RunStop, run_plan}
use Rattle.machine_run.specs.Opening.{IsOpened, Means, OpenStop, StoreIs}
use Rattle.machine_run.specs.Rules.{HasGoodStates}
use Rattle.machine_run.specs.Runs.{HasNoRoomFor, Left, Opens, Plan, Stands, plan_of}
use Rattle.machine_run.specs.Stores.{AreKept}
use Rattle.machine_run.specs.declared.stop.Stop.{Stop}
use Rattle.machine_run.specs.declared.stop.Stop.TheVariants.{StoreFault, StoreCorrupt, InputFault, OutputFault, NoMemory, StoreFull, InputTooLong}
use Rattle.machine_run.proofs.Replying.{since_weaken}
use Rattle.machine_run.proofs.WholeRun.{means_left, one_state, open_since, run_opened, run_stop, said_same, to_all}
use Rattle.load_run.specs.Loads.{AreLoaded, HasLoaded, IsLineCut, LoadLeft, LoadStop, Loading, LoadingStop, lacks_alone, line_of, nowhere}
use Rattle.load_run.proofs.Silence.{left_of_load}

-- what holds of an error, and what follows
pub if_err : {T E : Type 0} (P Q : E → Type 0) (r : Result T E) → ((e : E) → P e → Q e) → IfErr r P → IfErr r Q
if_err P Q (Ok x) f is = tt
if_err P Q (Err e) f is = f e is

module _ {State Item : Type 0} (l : Loading State Item) (silent : (s : State) (item : Item) → l.rules.reply s item ≡ []) (items : List Item) (old a b : Desk) (opening : Stays old a) where
  -- a store that is being opened stands for what it stood for, and nothing is said
  pub means_load : (state : State) → Opens l.rules old state → (said : List ℕ) (files : ℕ → List ℕ) → Means l.rules (StoreIs l.rules a) a.said said files → LoadLeft l state items old.said said files
  means_load state opens said files is = left_of_load l silent state items old.said said files (means_left l.rules items old a b opening state opens said files is)

  pub open_load : (state : State) → Opens l.rules old state → ((t : ℕ) (s : List ℕ) (f : ℕ → List ℕ) → t ≤ old.moment → IsNow old s f → old.observed t s f) → Since (Means l.rules (StoreIs l.rules a) a.said) a b → Since (LoadLeft l state items old.said) old b
  open_load state opens counts run = since_weaken (Left l.rules state items old.said) (LoadLeft l state items old.said) old b (open_since l.rules items old a b opening state opens counts run) (left_of_load l silent state items old.said)

  module _ (state : State) (log : Mark) (is : IsOpened l.rules a b state log) where
    same_left : (other : State) → Opens l.rules old other → (said : List ℕ) (files : ℕ → List ℕ) → LoadLeft l state items b.said said files → LoadLeft l other items old.said said files
    same_left other opens said files left =
        subst (λ (s : State). LoadLeft l s items old.said said files) (sym (one_state l.rules items old a b opening state log is other opens)) (subst (λ (s : List ℕ). LoadLeft l state items s said files) (said_same l.rules items old a b opening state log is) left)

    -- then the items are loaded
    pub load_since : (c : Desk) (other : State) → Opens l.rules old other → Since (LoadLeft l other items old.said) old b → Since (LoadLeft l state items b.said) b c → Since (LoadLeft l other items old.said) old c
    load_since c other opens first then = since_then (LoadLeft l other items old.said) old b c first (since_weaken (LoadLeft l state items b.said) (LoadLeft l other items old.said) b c then (same_left other opens))

    pub load_left : (said : List ℕ) (files : ℕ → List ℕ) (other : State) → Opens l.rules old other → LoadLeft l state items b.said said files → LoadLeft l other items old.said said files
    load_left said files other opens left = same_left other opens said files left

    pub load_done : HasGoodStates l.rules → (limit limit' : ℕ) → limit ≡ limit' → log.limit ≡ limit' → (c : Desk) → AreLoaded (plan_of l.rules AreKept 1 limit state items b) (line_of l state items) c → HasLoaded l limit' items old c
    load_done good limit limit' same mark c loaded =
        let opened : HasOpened l.rules limit' old = run_opened l.rules items old a b opening state log is good limit' mark in
        record {
          opened = opened;
          loaded = to_all l.rules items old a b opening state log is 1 limit limit' same (λ (p : Plan State Item). AreLoaded p (line_of l p.first items) c) loaded opened.state opened.opens;
        }

-- the stops of loading are stops of the load
pub load_stop : {State Item : Type 0} (l : Loading State Item) (items : List Item) (limit limit' : ℕ) (tells : Bool) (old b c : Desk) (state : State) → KeepsCounts old b → (IsTrue tells → HasOpened l.rules limit' old)
    → (IsTrue tells → (P : Plan State Item → Type 0) → P (plan_of l.rules AreKept 1 limit state items b) → (other : State) → Opens l.rules old other → P (run_plan l.rules 1 limit' other items old))
    → ((n : ℕ) → IsTrue tells → (stands : Stands (plan_of l.rules AreKept 1 limit state items b) c) × HasNoRoomFor (plan_of l.rules AreKept 1 limit state items b) stands.done stands.rest stands.holds.content n → LogIsFull l.rules 1 limit' items old c n)
    → (stop : Stop) → LoadingStop (plan_of l.rules AreKept 1 limit state items b) (line_of l state items) (IsTrue tells) b c stop → LoadStop l limit' items tells old c stop
load_stop l items limit limit' tells old b c state counts opened over full StoreFault is = run_stop l.rules items 1 limit limit' tells (IsTrue tells) lacks_alone nowhere old b c state counts opened over full StoreFault is
load_stop l items limit limit' tells old b c state counts opened over full (StoreCorrupt file at) is = run_stop l.rules items 1 limit limit' tells (IsTrue tells) lacks_alone nowhere old b c state counts opened over full (StoreCorrupt file at) is
load_stop l items limit limit' tells old b c state counts opened over full InputFault is = run_stop l.rules items 1 limit limit' tells (IsTrue tells) lacks_alone nowhere old b c state counts opened over full InputFault is
load_stop l items limit limit' tells old b c state counts opened over full OutputFault is = (rose_before old.say_faults b.say_faults c.say_faults counts.say is.0, opened, λ t other opens. over t (λ p. IsLineCut p (line_of l p.first items) c) (is.1 t) other opens)
load_stop l items limit limit' tells old b c state counts opened over full NoMemory is = run_stop l.rules items 1 limit limit' tells (IsTrue tells) lacks_alone nowhere old b c state counts opened over full NoMemory is
load_stop l items limit limit' tells old b c state counts opened over full (StoreFull n) is = run_stop l.rules items 1 limit limit' tells (IsTrue tells) lacks_alone nowhere old b c state counts opened over full (StoreFull n) is
load_stop l items limit limit' tells old b c state counts opened over full InputTooLong is = run_stop l.rules items 1 limit limit' tells (IsTrue tells) lacks_alone nowhere old b c state counts opened over full InputTooLong is

-- a store that can't be opened stops the load
pub opening_stop : {State Item : Type 0} (l : Loading State Item) (items : List Item) (limit : ℕ) (tells : Bool) (old a c : Desk) (stop : Stop) → OpenStop l.rules tells limit a c stop → RunStop l.rules 1 limit items tells (IsTrue tells) lacks_alone nowhere old c stop → LoadStop l limit items tells old c stop
opening_stop l items limit tells old a c StoreFault opened is = is
opening_stop l items limit tells old a c (StoreCorrupt file at) opened is = is
opening_stop l items limit tells old a c InputFault opened is = is
opening_stop l items limit tells old a c OutputFault opened is = absurd opened
opening_stop l items limit tells old a c NoMemory opened is = is
opening_stop l items limit tells old a c (StoreFull n) opened is = is
opening_stop l items limit tells old a c InputTooLong opened is = is
