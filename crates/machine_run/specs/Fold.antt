-- What a run's store holds, as a fold over its items.
use Rattle.std.specs.Prelude.{◌≡◌, ℕ, ◌+◌, ◌↔◌, ◌⊎◌, Bool, true, false, ◌&&◌, ◌||◌, nat_le, nat_lt, List, [], ◌∷◌, ◌++◌, Option, Some, None, if◌then◌else◌, IsTrue}
use Rattle.machine_run.specs.Rules.{Rules, bytes_of, body_of, weight, changes_of, said_of, state_after}
use Rattle.machine_run.specs.Stores.{Content, with_record, HasRoom}
use Rattle.machine_run.specs.declared.stop.Stop.{Stop}
use Rattle.machine_run.specs.declared.stop.Stop.TheVariants.{StoreFault, StoreCorrupt, InputFault, OutputFault, NoMemory, StoreFull, InputTooLong}
use Rattle.machine_run.specs.declared.filling.End.{End}
use Rattle.machine_run.specs.declared.filling.End.TheVariants.{Full, Done, Failed}
use Rattle.machine_run.specs.declared.filling.TheConstants.{BATCH_BYTES}

-- What the store holds, the state after all items so far, and of the batch that is open: what tells its changes, how
-- many items it has, how much they count.
pub record Filling (State : Type 0) : Type 0 where
  pub content : Content
  pub state : State
  pub changes : List ℕ
  pub count : ℕ
  pub bytes : ℕ

-- before the first item
abbrev pub start : {State : Type 0} → Content → State → Filling State
start c s = record { content = c; state = s; changes = []; count = 0; bytes = 0 }

-- When a store turns to its next generation: with more bytes of records than this. It keeps these bytes of the state.
pub record Turn (State : Type 0) : Type 0 where
  pub above : ℕ
  pub snapshot : State → List ℕ

-- a turn is due, and a next generation is left
abbrev pub is_due : {State : Type 0} → Turn State → Content → Bool
is_due turn c = nat_lt turn.above (weight c.bodies) && nat_lt c.generation 18446744073709551615

-- a store whose batch has added this, as it is or turned; where there are no turns, as it is
abbrev pub turned : {State : Type 0} → Option (Turn State) → State → Content → Content
turned None s c = c
turned (Some turn) s c = if is_due turn c then record { generation = c.generation + 1; snapshot = turn.snapshot s; bodies = [] } else c

-- a batch's changes are added, and the store is turned where that is due; without changes nothing is
abbrev pub stored : {State : Type 0} → Option (Turn State) → State → Content → Option (List ℕ) → Content
stored turn s c None = c
stored turn s c (Some body) = turned turn s (with_record c (Some body))

-- the batch is closed
abbrev pub closed : {State : Type 0} → Option (Turn State) → Filling State → Filling State
closed turn f = record { content = stored turn f.state f.content (body_of f.changes); state = f.state; changes = []; count = 0; bytes = 0 }

-- the bytes of items that fill a batch
abbrev pub batch_bytes : ℕ
batch_bytes = BATCH_BYTES

-- a batch ends after so many items, or with so many bytes
abbrev pub is_full : ℕ → ℕ → ℕ → Bool
is_full batch count bytes = nat_le batch count || nat_le batch_bytes bytes

-- one item more in the open batch
abbrev pub added : {State Item : Type 0} → Rules State Item → Filling State → Item → Filling State
added m f item = record { content = f.content; state = m.next f.state item; changes = f.changes ++ bytes_of (m.body f.state item); count = f.count + 1; bytes = f.bytes + m.weigh item }

abbrev pub closed_if : {State : Type 0} → Option (Turn State) → Bool → Filling State → Filling State
closed_if turn full f = if full then closed turn f else f

abbrev pub step : {State Item : Type 0} → Rules State Item → ℕ → Option (Turn State) → Filling State → Item → Filling State
step m batch turn f item = closed_if turn (is_full batch (f.count + 1) (f.bytes + m.weigh item)) (added m f item)

abbrev pub filled : {State Item : Type 0} → Rules State Item → ℕ → Option (Turn State) → Filling State → List Item → Filling State
filled m batch turn f [] = f
filled m batch turn f (item ∷ items) = filled m batch turn (step m batch turn f item) items

-- what the store holds after all items
abbrev pub store_run : {State Item : Type 0} → Rules State Item → ℕ → Option (Turn State) → Content → State → List Item → Content
store_run m batch turn c s items = (closed turn (filled m batch turn (start c s) items)).content

-- At each of the items, the log has room for the record of what its batch has changed so far.
abbrev pub HaveRoom : {State Item : Type 0} → Rules State Item → ℕ → Option (Turn State) → ℕ → Filling State → List Item → Type 0
HaveRoom m batch turn limit f [] = Unit {0}
HaveRoom m batch turn limit f (item ∷ items) = HasRoom limit f.content (body_of (added m f item).changes) × HaveRoom m batch turn limit (step m batch turn f item) items

-- From where a batch has so many items of so many bytes, none of these items fills it.
abbrev pub NoneFills : {State Item : Type 0} → Rules State Item → (batch count bytes : ℕ) → List Item → Type 0
NoneFills m batch count bytes [] = Unit {0}
NoneFills m batch count bytes (item ∷ items) = (is_full batch (count + 1) (bytes + m.weigh item) ≡ false) × NoneFills m batch (count + 1) (bytes + m.weigh item) items

-- The same, but the last of these items, of which there is one, fills it.
abbrev pub LastFills : {State Item : Type 0} → Rules State Item → (batch count bytes : ℕ) → List Item → Type 0
LastFills m batch count bytes [] = ⊥
LastFills m batch count bytes (item ∷ items) = ((is_full batch (count + 1) (bytes + m.weigh item) ≡ true) × (items ≡ []))
    ⊎ ((is_full batch (count + 1) (bytes + m.weigh item) ≡ false) × LastFills m batch (count + 1) (bytes + m.weigh item) items)

-- These items are one batch: the last of them fills it, or it ends before it is full.
abbrev pub IsBatch : {State Item : Type 0} → Rules State Item → ℕ → List Item → End → Type 0
IsBatch m batch items Full = LastFills m batch 0 0 items
IsBatch m batch items Done = NoneFills m batch 0 0 items
IsBatch m batch items (Failed stop) = NoneFills m batch 0 0 items

-- how a batch that ends so stands in the fold: closed, or open still
abbrev pub fold_to : {State : Type 0} → Option (Turn State) → End → Filling State → Filling State
fold_to turn Full f = closed turn f
fold_to turn Done f = f
fold_to turn (Failed stop) f = f

-- where the items ended by this stop, if it is one of the items
abbrev pub EndedBy : Stop → Type 0 → Type 0
EndedBy StoreFault broken = Unit {0}
EndedBy (StoreCorrupt file at) broken = Unit {0}
EndedBy InputFault broken = broken
EndedBy OutputFault broken = Unit {0}
EndedBy NoMemory broken = Unit {0}
EndedBy (StoreFull length_now) broken = Unit {0}
EndedBy InputTooLong broken = broken

-- These items were taken for a batch, which is one, and decided; where the feed tells, they are the first of what was left.
-- However the fold stood, it goes on with them. `was` and `now` tell, of the feed before and after, where its items break
-- off.
pub record IsFilled {State Item Place : Type 0} (m : Rules State Item) (batch : ℕ) (s : State) (tells : Bool) (before after : List Item)
    (was now : Place → List Item → Type 0) (here : Place) (changes replies : List ℕ) (t : State) (end : End) : Type 0 where
  pub items : List Item
  pub rest : List Item
  pub whole : IsBatch m batch items end
  pub taken : IsTrue tells → before ≡ items ++ rest
  pub rest_is : end ≡ Full → rest ≡ after
  pub done : IsTrue tells → end ≡ Done → rest ≡ []
  pub read : IsTrue tells → end ≡ Full → (place : Place) (more : List Item) → now place more → was place (items ++ more)
  pub broken : IsTrue tells → (stop : Stop) → end ≡ Failed stop → EndedBy stop (was here items)
  pub changes_is : changes ≡ changes_of m s items
  pub replies_is : replies ≡ said_of m s items
  pub state_is : t ≡ state_after m s items
  pub count : ℕ
  pub bytes : ℕ
  pub fold : (turn : Option (Turn State)) (c : Content) → filled m batch turn (start c s) items ≡ fold_to turn end (record { content = c; state = t; changes = changes; count = count; bytes = bytes })
  pub room : (turn : Option (Turn State)) (limit : ℕ) (c : Content) → HaveRoom m batch turn limit (start c s) items ↔ HasRoom limit c (body_of changes)

-- The same, between two items of an open batch.
pub record IsFilling {State Item Place : Type 0} (m : Rules State Item) (batch : ℕ) (s : State) (tells : Bool) (before after : List Item)
    (was now : Place → List Item → Type 0) (changes replies : List ℕ) (t : State) (count bytes : ℕ) : Type 0 where
  pub items : List Item
  -- none of them fills the batch; so it is for those that follow to do
  pub none_fills : (rest : List Item) → NoneFills m batch count bytes rest → NoneFills m batch 0 0 (items ++ rest)
  pub last_fills : (rest : List Item) → LastFills m batch count bytes rest → LastFills m batch 0 0 (items ++ rest)
  pub taken : IsTrue tells → before ≡ items ++ after
  pub read : IsTrue tells → (place : Place) (more : List Item) → now place more → was place (items ++ more)
  pub changes_is : changes ≡ changes_of m s items
  pub replies_is : replies ≡ said_of m s items
  pub state_is : t ≡ state_after m s items
  pub fold : (turn : Option (Turn State)) (c : Content) → filled m batch turn (start c s) items ≡ record { content = c; state = t; changes = changes; count = count; bytes = bytes }
  pub room : (turn : Option (Turn State)) (limit : ℕ) (c : Content) → HaveRoom m batch turn limit (start c s) items ↔ HasRoom limit c (body_of changes)
