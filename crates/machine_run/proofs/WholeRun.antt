-- A whole run: the pair is opened, then the store, and then the items are answered.
use Rattle.std.proofs.Common.{◌≡◌, inl, inr, ℕ, ◌≤◌, Bool, IsTrue, List, Option, Some, None, sym, ◌∙◌, ap, subst, arith}
use Rattle.std.proofs.lemmas.List.{append-nil}
use Rattle.host_desk.specs.Desk.{Desk, Stays, KeepsCounts, IsNow}
use Rattle.host_desk.specs.Since.{Since}
use Rattle.host_desk.proofs.Moments.{since_then, since_stays, rose_before}
use Rattle.gate_log.specs.Format.{opening_of}
use Rattle.gate_log.specs.Log.{Mark}
use Rattle.machine_run.specs.Rules.{Rules, HasGoodStates}
use Rattle.machine_run.specs.Good.{store_good}
use Rattle.machine_run.specs.Stores.{Content, is_state, store_of, content_of, opened_files, AreKept}
use Rattle.machine_run.specs.OneLogs.{IsStore}
use Rattle.machine_run.specs.OneLogLaws.{holds}
use Rattle.machine_run.specs.Runs.{Plan, plan_of, Opens, Left, Stored, Stands, IsDone, BreaksOff, HasNoRoomFor, LacksMemory, ItemsStop}
use Rattle.machine_run.specs.Opening.{Means, IsOpened, StoreIs, OpenStop}
use Rattle.machine_run.specs.Ends.{run_plan, HasOpened, HasRun, LogIsFull, RunStop}
use Rattle.machine_run.specs.declared.stop.Stop.{Stop}
use Rattle.machine_run.specs.declared.stop.Stop.TheVariants.{StoreFault, StoreCorrupt, InputFault, OutputFault, NoMemory, StoreFull, InputTooLong}
use Rattle.machine_run.proofs.Replying.{since_weaken}

-- a store that was opened is stored
pub opened_stored : {State Item J : Type 0} (m : Rules State Item) {keeps : J → Content → Desk → Type 0} (a b : Desk) (state : State) (log : Mark) → IsOpened m a b state log → (journal : J) → ((c : Content) → IsStore log c b → keeps journal c b) → Stored m keeps state journal b
opened_stored m a b state log is journal stays = record { content = is.content; store = stays is.content is.store; seen = holds log is.content b is.store; stands = is.stands }

module _ {State Item : Type 0} (m : Rules State Item) (items : List Item) (old a b : Desk) (opening : Stays old a) where
  same_store : StoreIs m a ≡ StoreIs m old
  same_store = ap (λ (s : ℕ → List ℕ). store_of m (s 0) (s 1)) opening.seen

  -- a store that is being opened stands for what it stood for, and nothing is said
  pub means_left : (state : State) → Opens m old state → (said : List ℕ) (files : ℕ → List ℕ) → Means m (StoreIs m a) a.said said files → Left m state items old.said said files
  means_left state opens said files is = record {
    i = 0;
    within = omega arith;
    opens = is.store ∙ same_store ∙ opens;
    out = 0;
    said_is = is.said_is ∙ opening.said ∙ sym (append-nil old.said);
  }

  pub open_since : (state : State) → Opens m old state → ((t : ℕ) (s : List ℕ) (f : ℕ → List ℕ) → t ≤ old.moment → IsNow old s f → old.observed t s f) → Since (Means m (StoreIs m a) a.said) a b → Since (Left m state items old.said) old b
  open_since state opens counts run = since_then (Left m state items old.said) old a b (since_stays (Left m state items old.said) old a counts opening) (since_weaken (Means m (StoreIs m a) a.said) (Left m state items old.said) a b run (means_left state opens))

  module _ (state : State) (log : Mark) (is : IsOpened m a b state log) where
    pub opens_old : Opens m old state
    opens_old = sym same_store ∙ is.stood

    -- a store stands for one state
    pub one_state : (other : State) → Opens m old other → other ≡ state
    one_state other opens = let both : is_state other ≡ is_state state = sym opens ∙ opens_old in cc

    pub said_same : b.said ≡ old.said
    said_same = is.said ∙ opening.said

    files_are : b.seen ≡ opened_files old.seen
    files_are = is.files ∙ ap (λ (s : ℕ → List ℕ). opened_files s) opening.seen

    held_old : content_of (old.seen 0) (old.seen 1) ≡ Some is.content
    held_old = ap (λ (s : ℕ → List ℕ). content_of (s 0) (s 1)) (sym opening.seen) ∙ is.held

    held_same : content_of (b.seen 0) (b.seen 1) ≡ content_of (old.seen 0) (old.seen 1)
    held_same = holds log is.content b is.store ∙ sym held_old

    -- then the items are answered
    pub run_since : (c : Desk) (other : State) → Opens m old other → Since (Left m other items old.said) old b → Since (Left m state items b.said) b c → Since (Left m other items old.said) old c
    run_since c other opens first then = since_then (Left m other items old.said) old b c first (subst (λ (s : State). Since (Left m s items old.said) b c) (sym (one_state other opens)) (subst (λ (s : List ℕ). Since (Left m state items s) b c) said_same then))

    pub run_left : (said : List ℕ) (files : ℕ → List ℕ) (other : State) → Opens m old other → Left m state items b.said said files → Left m other items old.said said files
    run_left said files other opens left = subst (λ (s : State). Left m s items old.said said files) (sym (one_state other opens)) (subst (λ (s : List ℕ). Left m state items s said files) said_same left)

    module _ (batch limit limit' : ℕ) (same : limit ≡ limit') where
      -- the plan of answering is that of the run
      pub to_run : (P : Plan State Item → Type 0) → P (plan_of m AreKept batch limit state items b) → P (run_plan m batch limit' state items old)
      to_run P is_so =
          let one = subst (λ (n : ℕ). P (record { rules = m; kept = AreKept; batch = batch; turn = None; limit = n; first = state; items = items; held = content_of (b.seen 0) (b.seen 1); before = b.said; files = b.seen })) same is_so in
          let two = subst (λ (h : Option Content). P (record { rules = m; kept = AreKept; batch = batch; turn = None; limit = limit'; first = state; items = items; held = h; before = b.said; files = b.seen })) held_same one in
          let three = subst (λ (s : List ℕ). P (record { rules = m; kept = AreKept; batch = batch; turn = None; limit = limit'; first = state; items = items; held = content_of (old.seen 0) (old.seen 1); before = s; files = b.seen })) said_same two in
          subst (λ (f : ℕ → List ℕ). P (record { rules = m; kept = AreKept; batch = batch; turn = None; limit = limit'; first = state; items = items; held = content_of (old.seen 0) (old.seen 1); before = old.said; files = f })) files_are three

      -- from whatever state the store stood for
      pub to_all : (P : Plan State Item → Type 0) → P (plan_of m AreKept batch limit state items b) → (other : State) → Opens m old other → P (run_plan m batch limit' other items old)
      to_all P is_so other opens = subst (λ (s : State). P (run_plan m batch limit' s items old)) (sym (one_state other opens)) (to_run P is_so)

    -- and where it was made, it has room
    pub run_opened : HasGoodStates m → (limit : ℕ) → log.limit ≡ limit → HasOpened m limit old
    run_opened good limit same = record {
      state = state;
      opens = opens_old;
      good = store_good m good (old.seen 0) (old.seen 1) state opens_old;
      content = is.content;
      held = held_old;
      stands = is.stands;
      made = λ none. let room : 27 ≤ log.limit = is.made (ap (λ (s : ℕ → List ℕ). opening_of (s 0)) opening.seen ∙ none) in omega (arith, room, same);
    }

    pub run_done : HasGoodStates m → (batch limit limit' : ℕ) → limit ≡ limit' → log.limit ≡ limit' → (c : Desk) → IsDone (plan_of m AreKept batch limit state items b) c → HasRun m batch limit' items old c
    unfolding run_opened
    run_done good batch limit limit' same mark c done = record { opened = run_opened good limit' mark; done = to_run batch limit limit' same (λ (p : Plan State Item). IsDone p c) done }

    pub run_full : HasGoodStates m → (batch limit limit' n : ℕ) → limit ≡ limit' → log.limit ≡ limit' → (c : Desk) → (stands : Stands (plan_of m AreKept batch limit state items b) c) × HasNoRoomFor (plan_of m AreKept batch limit state items b) stands.done stands.rest stands.holds.content n → LogIsFull m batch limit' items old c n
    unfolding run_opened
    run_full good batch limit limit' n same mark c full = let over = to_run batch limit limit' same (λ (p : Plan State Item). (stands : Stands p c) × HasNoRoomFor p stands.done stands.rest stands.holds.content n) full in record { opened = run_opened good limit' mark; stands = over.0; no_room = over.1 }

-- a store that can't be opened stops the run
module _ {State Item : Type 0} (m : Rules State Item) (items : List Item) (old a c : Desk) (tells : Bool) (opening : IsTrue tells → Stays old a) (means : IsTrue tells → Means m (StoreIs m a) a.said c.said c.seen) where
  was_store : IsTrue tells → StoreIs m old ≡ StoreIs m a
  was_store t = sym (same_store m items old a a (opening t))

  said_still : IsTrue tells → c.said ≡ old.said
  said_still t = (means t).said_is ∙ (opening t).said

  pub open_stop : (batch : ℕ) (told : Type 0) (fails : Stop → Type 0) (broken : List Item → Type 0) (limit : ℕ) → KeepsCounts old a → (told → IsTrue tells) → (stop : Stop) → OpenStop m tells limit a c stop → RunStop m batch limit items tells told fails broken old c stop
  open_stop batch told fails broken limit counts knows StoreFault rose = rose_before old.store_faults a.store_faults c.store_faults counts.store rose
  open_stop batch told fails broken limit counts knows (StoreCorrupt file at) bad = λ t. (was_store t ∙ (bad t).0, ((bad t).1 ∙ (opening t).seen, said_still t))
  open_stop batch told fails broken limit counts knows InputFault never = absurd never
  open_stop batch told fails broken limit counts knows OutputFault never = absurd never
  open_stop batch told fails broken limit counts knows NoMemory same = (λ t. inl (same t ∙ (opening t).seen, said_still t), λ t. inl (same (knows t) ∙ (opening (knows t)).seen, said_still (knows t)))
  open_stop batch told fails broken limit counts knows (StoreFull n) full = (
    λ t. (m.first, was_store t ∙ (full.2 t).1),
    λ t. inl (record {
      length_is = full.0;
      above = full.1;
      absent_is = ap (λ (s : ℕ → List ℕ). opening_of (s 0)) (sym (opening (knows t)).seen) ∙ (full.2 (knows t)).0;
      opens = was_store (knows t) ∙ (full.2 (knows t)).1;
      seen = (full.2 (knows t)).2 ∙ (opening (knows t)).seen;
      said = said_still (knows t);
    }),
  )
  open_stop batch told fails broken limit counts knows InputTooLong never = absurd never

-- the stops of answering are stops of the run
pub run_stop : {State Item : Type 0} (m : Rules State Item) (items : List Item) (batch limit limit' : ℕ) (tells : Bool) (told : Type 0) (fails : Stop → Type 0) (broken : List Item → Type 0) (old b c : Desk) (state : State) → KeepsCounts old b → (IsTrue tells → HasOpened m limit' old)
    → (told → (P : Plan State Item → Type 0) → P (plan_of m AreKept batch limit state items b) → (other : State) → Opens m old other → P (run_plan m batch limit' other items old))
    → ((n : ℕ) → told → (stands : Stands (plan_of m AreKept batch limit state items b) c) × HasNoRoomFor (plan_of m AreKept batch limit state items b) stands.done stands.rest stands.holds.content n → LogIsFull m batch limit' items old c n)
    → (stop : Stop) → ItemsStop (plan_of m AreKept batch limit state items b) told fails broken b c stop → RunStop m batch limit' items tells told fails broken old c stop
run_stop m items batch limit limit' tells told fails broken old b c state counts opened over full StoreFault rose = rose_before old.store_faults b.store_faults c.store_faults counts.store rose
run_stop m items batch limit limit' tells told fails broken old b c state counts opened over full (StoreCorrupt file at) never = absurd never
run_stop m items batch limit limit' tells told fails broken old b c state counts opened over full InputFault is = (is.0, opened, λ t. over t (λ p. (stands : Stands p c) × broken stands.done) (is.1 t))
run_stop m items batch limit limit' tells told fails broken old b c state counts opened over full OutputFault is = (rose_before old.say_faults b.say_faults c.say_faults counts.say is.0, opened, λ t. over t (λ p. BreaksOff p c) (is.1 t))
run_stop m items batch limit limit' tells told fails broken old b c state counts opened over full NoMemory is = (λ t. inr (opened t), λ t. inr (over t (λ p. LacksMemory p (fails NoMemory) c) (is t)))
run_stop m items batch limit limit' tells told fails broken old b c state counts opened over full (StoreFull n) is = (λ t. (let o = opened t in (o.state, o.opens)), λ t. inr (full n t (is t)))
run_stop m items batch limit limit' tells told fails broken old b c state counts opened over full InputTooLong is = (is.0, opened, λ t. over t (λ p. (stands : Stands p c) × broken stands.done) (is.1 t))
