-- What the steps of a run do to a store.
use Rattle.std.specs.Prelude.{◌≡◌, ℕ, ◌<◌, ◌≤◌, ◌⊎◌, Bool, IsTrue, List, [], ◌∷◌, ◌++◌, length, take, Option, Some}
use Rattle.host_desk.specs.Desk.{Desk, Rose, Says}
use Rattle.host_desk.specs.Since.{Since}
use Rattle.machine_run.specs.Stores.{Content, with_record, content_of, HasRoom, HasNoRoom}
use Rattle.machine_run.specs.declared.stop.Stop.{Stop}
use Rattle.machine_run.specs.declared.stop.Stop.TheVariants.{StoreFault, StoreCorrupt, InputFault, OutputFault, NoMemory, StoreFull, InputTooLong}

-- A stop within a batch: the store without its record and no byte of the replies, or with it and a part of them.
pub record Between (c : Content) (body : Option (List ℕ)) (replies : List ℕ) (old : Desk) (said : List ℕ) (files : ℕ → List ℕ) : Type 0 where
  pub others : (i : ℕ) → i < 4 → 2 ≤ i → old.left i (files i)
  pub stage : ((content_of (files 0) (files 1) ≡ Some c) × (said ≡ old.said)) ⊎ ((k : ℕ) × (content_of (files 0) (files 1) ≡ Some (with_record c body)) × (said ≡ old.said ++ take k replies))

-- whatever the store held, a stop at any moment since left it so
abbrev pub BetweenSince : (Content → Desk → Type 0) → Option (List ℕ) → List ℕ → Desk → Desk → Type 0
BetweenSince holds body replies old new = (c : Content) → holds c old → Since (Between c body replies old) old new

-- a store without the record or with it, and nothing was said
abbrev pub Storing : Content → Option (List ℕ) → Desk → List ℕ → (ℕ → List ℕ) → Type 0
Storing c body old = Between c body [] old

-- The laws of a store as a value: what it holds is what its files say, and what a stop leaves of them; replies leave it;
-- and what it keeps of the files adds up.
pub record IsJournal {J H : Type 0} (desk : H → Desk) (tells : Bool) (holds : J → Content → Desk → Type 0) (kept : Content → Content → (ℕ → List ℕ) → (ℕ → List ℕ) → Type 0) : Type 0 where
  pub says : (store : J) (c : Content) (host : H) → holds store c (desk host) → content_of ((desk host).seen 0) ((desk host).seen 1) ≡ Some c
  pub leaves : (store : J) (c : Content) (host : H) (files : ℕ → List ℕ) → holds store c (desk host) → ((i : ℕ) → i < 4 → (desk host).left i (files i)) → content_of (files 0) (files 1) ≡ Some c
  pub stays : (store : J) (c : Content) (a b : H) (bytes : List ℕ) (n : ℕ) → holds store c (desk a) → Says bytes n (desk a) (desk b) → holds store c (desk b)
  pub begins : (c : Content) (files : ℕ → List ℕ) → kept c c files files
  pub goes_on : (a b c : Content) (f g h : ℕ → List ℕ) → kept a b f g → kept b c g h → kept a c f h

-- The replies to a batch broke off, which has some: its record, if it has one, had room and is in the store, and a first
-- part of the replies is out.
pub record IsCutShort (kept : Content → Content → (ℕ → List ℕ) → (ℕ → List ℕ) → Type 0) (limit : ℕ) (c : Content) (body : Option (List ℕ)) (replies : List ℕ) (old new : Desk) : Type 0 where
  pub holds : content_of (new.seen 0) (new.seen 1) ≡ Some (with_record c body)
  pub room : HasRoom limit c body
  pub keeps : kept c (with_record c body) old.seen new.seen
  pub some : 0 < length replies
  pub out : ℕ
  pub said_is : new.said ≡ old.said ++ take out replies

-- on a host that tells, the log of whatever the store held has no room for the record, and so many bytes
abbrev pub LacksRoom : Bool → (Content → Desk → Type 0) → ℕ → Option (List ℕ) → Desk → ℕ → Type 0
LacksRoom tells holds limit body old n = IsTrue tells → (c : Content) → holds c old → HasNoRoom limit c body n

-- on a host that tells, the replies broke off behind the record, whatever the store held
abbrev pub CutsShort : Bool → (Content → Desk → Type 0) → (Content → Content → (ℕ → List ℕ) → (ℕ → List ℕ) → Type 0) → ℕ → Option (List ℕ) → List ℕ → Desk → Desk → Type 0
CutsShort tells holds kept limit body replies old new = IsTrue tells → (c : Content) → holds c old → IsCutShort kept limit c body replies old new

-- a batch isn't stored, or its replies aren't put out; what is said of a full store, and of replies that broke off, is
-- left open
abbrev pub BatchStop : (room : ℕ → Type 0) (cut : Type 0) → Desk → Desk → Stop → Type 0
BatchStop room cut old new StoreFault = Rose old.store_faults new.store_faults
BatchStop room cut old new (StoreCorrupt file at) = ⊥
BatchStop room cut old new InputFault = ⊥
BatchStop room cut old new OutputFault = Rose old.say_faults new.say_faults × cut
BatchStop room cut old new NoMemory = Unit {0}
BatchStop room cut old new (StoreFull n) = room n
BatchStop room cut old new InputTooLong = ⊥

-- where the items break off behind this one
abbrev pub BreaksBehind : {Item Place : Type 0} → (was : Place → List Item → Type 0) → Item → (now : Place → List Item → Type 0) → Type 0
BreaksBehind {Item} {Place} was item now = (place : Place) (later : List Item) → now place later → was place (item ∷ later)

-- no item comes, for a cause of the feed's
abbrev pub FeedStop : (Stop → Type 0) → Stop → Type 0
FeedStop fails StoreFault = ⊥
FeedStop fails (StoreCorrupt file at) = ⊥
FeedStop fails InputFault = fails InputFault
FeedStop fails OutputFault = ⊥
FeedStop fails NoMemory = fails NoMemory
FeedStop fails (StoreFull n) = ⊥
FeedStop fails InputTooLong = fails InputTooLong

-- The laws of a feed: what is known of its calls adds up, and a cause that a later call had is one of all.
pub record IsFeed {F S : Type 0} (goes : F → S → F → S → Type 0) (fails : F → S → F → S → Stop → Type 0) : Type 0 where
  pub begins : (f : F) (s : S) → goes f s f s
  pub goes_on : (f : F) (s : S) (g : F) (t : S) (h : F) (u : S) → goes f s g t → goes g t h u → goes f s h u
  pub fails_then : (f : F) (s : S) (g : F) (t : S) (h : F) (u : S) (stop : Stop) → goes f s g t → fails g t h u stop → fails f s h u stop
