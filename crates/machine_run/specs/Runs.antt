-- What a run over items says and leaves.
use Rattle.std.specs.Prelude.{◌≡◌, ℕ, ◌+◌, ◌<◌, ◌≤◌, ◌⊎◌, List, [], ◌++◌, length, take, Option, Some, None}
use Rattle.host_desk.specs.Desk.{Desk, Rose}
use Rattle.host_desk.specs.Since.{Since}
use Rattle.machine_run.specs.Rules.{Rules, body_of, changes_of, state_after, said_of}
use Rattle.machine_run.specs.Stores.{Content, is_state, store_of, content_of, state_in, length_of}
use Rattle.machine_run.specs.Fold.{Turn, start, filled, fold_to, store_run, HaveRoom, IsBatch}
use Rattle.machine_run.specs.declared.stop.Stop.{Stop}
use Rattle.machine_run.specs.declared.stop.Stop.TheVariants.{StoreFault, StoreCorrupt, InputFault, OutputFault, NoMemory, StoreFull, InputTooLong}
use Rattle.machine_run.specs.declared.filling.End.{End}
use Rattle.machine_run.specs.declared.filling.End.TheVariants.{Done}

-- a state that the files of a host stand for, as they read
abbrev pub Opens : {State Item : Type 0} → Rules State Item → Desk → State → Type 0
Opens m desk state = store_of m (desk.seen 0) (desk.seen 1) ≡ is_state state

-- Left by a stop: for some i the store stands for the state after the first i items, and what was said since is a part
-- of their replies. So each item of whose reply a byte is out is among them.
pub record Left {State Item : Type 0} (m : Rules State Item) (state : State) (items : List Item) (before said : List ℕ) (files : ℕ → List ℕ) : Type 0 where
  pub i : ℕ
  pub within : i ≤ length items
  pub opens : store_of m (files 0) (files 1) ≡ is_state (state_after m state (take i items))
  pub out : ℕ
  pub said_is : said ≡ before ++ take out (said_of m state (take i items))

-- the same at any moment since, from whatever state the store stood for
abbrev pub LeftSince : {State Item : Type 0} → Rules State Item → List Item → Desk → Desk → Type 0
LeftSince {State} m items old new = (state : State) → Opens m old state → Since (Left m state items old.said) old new

-- and now
abbrev pub LeftNow : {State Item : Type 0} → Rules State Item → List Item → Desk → Desk → Type 0
LeftNow {State} m items old new = (state : State) → Opens m old state → Left m state items old.said new.said new.seen

-- What a run is to do, and from where: the rules, how many items a batch has and when a store turns, the limit of a log,
-- the state and the items; and how it began: what the store held, what was said, how the files read. `kept` says which
-- bytes a store leaves.
pub record Plan (State Item : Type 0) : Type 1 where
  pub rules : Rules State Item
  pub kept : Content → Content → (ℕ → List ℕ) → (ℕ → List ℕ) → Type 0
  pub batch : ℕ
  pub turn : Option (Turn State)
  pub limit : ℕ
  pub first : State
  pub items : List Item
  pub held : Option Content
  pub before : List ℕ
  pub files : ℕ → List ℕ

-- a plan from where a host stands; no store turns yet
abbrev pub plan_of : {State Item : Type 0} → Rules State Item → (Content → Content → (ℕ → List ℕ) → (ℕ → List ℕ) → Type 0) → (batch limit : ℕ) → State → List Item → Desk → Plan State Item
plan_of m kept batch limit first items desk = record {
  rules = m;
  kept = kept;
  batch = batch;
  turn = None;
  limit = limit;
  first = first;
  items = items;
  held = content_of (desk.seen 0) (desk.seen 1);
  before = desk.said;
  files = desk.seen;
}

-- each record of the first items of a plan had room
abbrev pub HadRoom : {State Item : Type 0} → Plan State Item → Content → List Item → Type 0
HadRoom p c items = HaveRoom p.rules p.batch p.turn p.limit (start c p.first) items

-- The files hold this, which is what the fold over these items says, if the store held something before; each record
-- had room; and no byte of a file is another than these say.
pub record Holds {State Item : Type 0} (p : Plan State Item) (items : List Item) (desk : Desk) : Type 0 where
  pub content : Content
  pub holds : content_of (desk.seen 0) (desk.seen 1) ≡ Some content
  pub fold : (c : Content) → p.held ≡ Some c → content ≡ store_run p.rules p.batch p.turn c p.first items
  pub had_room : (c : Content) → p.held ≡ Some c → HadRoom p c items
  pub kept : (c : Content) → p.held ≡ Some c → p.kept c content p.files desk.seen

-- These first items end with a batch: the fold has none open behind them.
abbrev pub IsBetween : {State Item : Type 0} → Plan State Item → List Item → Type 0
IsBetween p done = (c : Content) → p.held ≡ Some c → (content : Content) × (filled p.rules p.batch p.turn (start c p.first) done ≡ start content (state_after p.rules p.first done))

-- The state after the first items, the last of which may be those of a batch that ended before it was full: the store stands
-- for it, it holds what the fold over them says, and exactly their replies are out.
pub record Stands {State Item : Type 0} (p : Plan State Item) (desk : Desk) : Type 0 where
  pub done : List Item
  pub rest : List Item
  pub split : p.items ≡ done ++ rest
  pub opens : Opens p.rules desk (state_after p.rules p.first done)
  pub holds : Holds p done desk
  pub said_is : desk.said ≡ p.before ++ said_of p.rules p.first done

-- All items are answered: the store stands for the state after them, it holds what the fold says, and their replies are
-- out.
pub record IsDone {State Item : Type 0} (p : Plan State Item) (desk : Desk) : Type 0 where
  pub opens : Opens p.rules desk (state_after p.rules p.first p.items)
  pub holds : Holds p p.items desk
  pub said_is : desk.said ≡ p.before ++ said_of p.rules p.first p.items

-- The replies to a batch broke off, which has some: the items before it end with a batch and are answered, those of this one
-- batch are stored, too, and what was said behind the replies before is a first part of the replies to it.
pub record BreaksOff {State Item : Type 0} (p : Plan State Item) (desk : Desk) : Type 0 where
  pub done : List Item
  pub now : List Item
  pub rest : List Item
  pub split : p.items ≡ done ++ now ++ rest
  pub between : IsBetween p done
  pub end : End
  pub whole : IsBatch p.rules p.batch now end
  pub last : end ≡ Done → rest ≡ []
  pub some : 0 < length (said_of p.rules (state_after p.rules p.first done) now)
  pub opens : Opens p.rules desk (state_after p.rules p.first (done ++ now))
  pub holds : Holds p (done ++ now) desk
  pub out : ℕ
  pub said_is : desk.said ≡ p.before ++ said_of p.rules p.first done ++ take out (said_of p.rules (state_after p.rules p.first done) now)

-- The log of this length has no room for the record of the next batch, behind those that are done, which end with one.
pub record HasNoRoomFor {State Item : Type 0} (p : Plan State Item) (done rest : List Item) (content : Content) (n : ℕ) : Type 0 where
  pub now : List Item
  pub later : List Item
  pub split : rest ≡ now ++ later
  pub between : IsBetween p done
  -- the batch is these items: as many as fill it, or fewer
  pub end : End
  pub whole : IsBatch p.rules p.batch now end
  pub last : end ≡ Done → later ≡ []
  pub state : State
  pub count : ℕ
  pub bytes : ℕ
  pub fold : filled p.rules p.batch p.turn (start content (state_after p.rules p.first done)) now
      ≡ fold_to p.turn end (record { content = content; state = state; changes = changes_of p.rules (state_after p.rules p.first done) now; count = count; bytes = bytes })
  pub body : List ℕ
  pub is : body_of (changes_of p.rules (state_after p.rules p.first done) now) ≡ Some body
  pub length_is : n ≡ length_of content
  pub above : p.limit < n + 5 + length body
  -- so not each record of the fold has room
  pub none : (c : Content) → p.held ≡ Some c → HadRoom p c (done ++ now) → ⊥

-- Memory lacked: for an item, behind a whole batch; or for the feed, as it says itself.
pub record LacksMemory {State Item : Type 0} (p : Plan State Item) (own : Type 0) (desk : Desk) : Type 0 where
  pub stands : Stands p desk
  pub cause : (IsBetween p stands.done × (stands.rest ≡ [] → ⊥)) ⊎ own

-- The items are not all answered: each stop with its cause, and what stands then, where both tell. `fails` is what the
-- feed says of the stop, and `broken`, where the items broke off.
abbrev pub ItemsStop : {State Item : Type 0} → Plan State Item → (told : Type 0) (fails : Stop → Type 0) (broken : List Item → Type 0) → Desk → Desk → Stop → Type 0
ItemsStop p told fails broken old new StoreFault = Rose old.store_faults new.store_faults
ItemsStop p told fails broken old new (StoreCorrupt file at) = ⊥
ItemsStop p told fails broken old new InputFault = fails InputFault × (told → (stands : Stands p new) × broken stands.done)
ItemsStop p told fails broken old new OutputFault = Rose old.say_faults new.say_faults × (told → BreaksOff p new)
ItemsStop p told fails broken old new NoMemory = told → LacksMemory p (fails NoMemory) new
ItemsStop p told fails broken old new (StoreFull n) = told → (stands : Stands p new) × HasNoRoomFor p stands.done stands.rest stands.holds.content n
ItemsStop p told fails broken old new InputTooLong = fails InputTooLong × (told → (stands : Stands p new) × broken stands.done)

-- A store that is open and stands for the state.
pub record Stored {State Item J : Type 0} (m : Rules State Item) (holds : J → Content → Desk → Type 0) (state : State) (journal : J) (desk : Desk) : Type 0 where
  pub content : Content
  pub store : holds journal content desk
  pub seen : content_of (desk.seen 0) (desk.seen 1) ≡ Some content
  pub stands : state_in m content ≡ Some state

-- Between two batches of a run: these items are done.
pub record Running {State Item J Place : Type 0} (p : Plan State Item) (holds : J → Content → Desk → Type 0) (was now : Place → List Item → Type 0)
    (old desk : Desk) (journal : J) (left : List Item) (state : State) : Type 0 where
  pub done : List Item
  pub split : p.items ≡ done ++ left
  pub read : (place : Place) (more : List Item) → now place more → was place (done ++ more)
  pub state_is : state ≡ state_after p.rules p.first done
  pub stored : Stored p.rules holds state journal desk
  pub fold : (c : Content) → p.held ≡ Some c → filled p.rules p.batch p.turn (start c p.first) done ≡ start stored.content state
  pub had_room : (c : Content) → p.held ≡ Some c → HadRoom p c done
  pub kept : (c : Content) → p.held ≡ Some c → p.kept c stored.content p.files desk.seen
  pub said_is : desk.said ≡ p.before ++ said_of p.rules p.first done
  pub since : Since (Left p.rules p.first p.items p.before) old desk
