-- The rules of a machine that answers items, and whose changes are kept as records.
use Rattle.std.specs.Prelude.{◌≡◌, ◌<◌, ℕ, ◌+◌, List, [], ◌∷◌, ◌++◌, length, Option, Some, None}

pub record Rules (State Item : Type 0) : Type 1 where
  -- what holds of each state that a store stands for
  pub good : State → Type 0
  -- the state that a new store stands for
  pub first : State
  -- the reply to an item
  pub reply : State → Item → List ℕ
  -- the state after an item
  pub next : State → Item → State
  -- the bytes that tell the change of an item; none where it changes nothing
  pub body : State → Item → Option (List ℕ)
  -- the state after the bytes of some changes; none where the bytes are no changes in this state
  pub restore : State → List ℕ → Option State
  -- the state that the bytes of a snapshot stand for; none where they are no snapshot
  pub load : List ℕ → Option State
  -- the most bytes of a snapshot
  pub longest : ℕ
  -- how much an item counts in a batch
  pub weigh : Item → ℕ

-- The bytes of a body tell the changes of its items, and items without bytes change nothing.
pub record IsKeptByRecords {State Item : Type 0} (m : Rules State Item) : Type 0 where
  -- no bytes are the snapshot of the first state
  pub loads : m.load [] ≡ Some m.first
  -- more bytes than the most are no snapshot
  pub too_long : (bytes : List ℕ) → m.longest < length bytes → m.load bytes ≡ None
  pub unchanged : (s : State) (item : Item) → m.body s item ≡ None → m.next s item ≡ s
  pub some : (s : State) (item : Item) → m.body s item ≡ Some [] → ⊥
  pub restores : (s : State) (item : Item) (body : List ℕ) → m.body s item ≡ Some body → m.restore s body ≡ Some (m.next s item)
  -- a body may hold several
  pub joins : (s : State) (item : Item) (body more : List ℕ) (t : State) → m.body s item ≡ Some body → m.restore (m.next s item) more ≡ Some t → m.restore s (body ++ more) ≡ Some t

-- The states that a store comes to stand for are good: the first one, that of a snapshot, and those that good ones lead to.
pub record HasGoodStates {State Item : Type 0} (m : Rules State Item) : Type 0 where
  pub first_good : m.good m.first
  pub next_good : (s : State) (item : Item) → m.good s → m.good (m.next s item)
  pub load_good : (bytes : List ℕ) (s : State) → m.load bytes ≡ Some s → m.good s
  pub restore_good : (s : State) (body : List ℕ) (t : State) → m.good s → m.restore s body ≡ Some t → m.good t

-- the bytes of a change, if there is one
abbrev pub bytes_of : Option (List ℕ) → List ℕ
bytes_of None = []
bytes_of (Some body) = body

-- the bytes as a body, if there are some
abbrev pub body_of : List ℕ → Option (List ℕ)
body_of [] = None
body_of (byte ∷ bytes) = Some (byte ∷ bytes)

-- the state after these items
abbrev pub state_after : {State Item : Type 0} → Rules State Item → State → List Item → State
state_after m s [] = s
state_after m s (item ∷ items) = state_after m (m.next s item) items

-- the replies to these items, one after another
abbrev pub said_of : {State Item : Type 0} → Rules State Item → State → List Item → List ℕ
said_of m s [] = []
said_of m s (item ∷ items) = m.reply s item ++ said_of m (m.next s item) items

-- the bytes that tell the changes of these items, one after another
abbrev pub changes_of : {State Item : Type 0} → Rules State Item → State → List Item → List ℕ
changes_of m s [] = []
changes_of m s (item ∷ items) = bytes_of (m.body s item) ++ changes_of m (m.next s item) items

-- by how much records make a log longer: each by its bytes, its length and one gate
abbrev pub weight : List (List ℕ) → ℕ
weight [] = 0
weight (body ∷ bodies) = (5 + length body) + weight bodies
