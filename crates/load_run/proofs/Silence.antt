-- Where nothing is replied, nothing is said of items.
use Rattle.std.proofs.Common.{◌+◌, ◌++◌, ◌∙◌, ◌∷◌, ◌≡◌, List, [], ap, arith, inr, length, refl, take, ℕ}
use Rattle.std.proofs.lemmas.List.{append-nil}
use Rattle.std.proofs.Math.Seq.{take-nil}
use Rattle.host_desk.specs.Desk.{Desk}
use Rattle.machine_run.specs.Rules.{Rules, said_of, state_after}
use Rattle.machine_run.specs.Runs.{BreaksOff, ItemsStop, Left, Plan}
use Rattle.machine_run.specs.declared.stop.Stop.{Stop}
use Rattle.machine_run.specs.declared.stop.Stop.TheVariants.{StoreFault, StoreCorrupt, InputFault, OutputFault, NoMemory, StoreFull, InputTooLong}
use Rattle.load_run.specs.Loads.{LoadLeft, Loading, LoadingStop, lacks_alone, nowhere}

module _ {State Item : Type 0} (m : Rules State Item) (silent : (s : State) (item : Item) → m.reply s item ≡ []) where
  pub nothing_said : (s : State) (items : List Item) → said_of m s items ≡ []
  nothing_said s [] = refl
  nothing_said s (item ∷ items) = ap (λ (r : List ℕ). r ++ said_of m (m.next s item) items) (silent s item) ∙ nothing_said (m.next s item) items

  pub none_said : (before : List ℕ) (s : State) (items : List Item) → before ++ said_of m s items ≡ before
  none_said before s items = ap (λ (r : List ℕ). before ++ r) (nothing_said s items) ∙ append-nil before

module _ {State Item : Type 0} (l : Loading State Item) (silent : (s : State) (item : Item) → l.rules.reply s item ≡ []) where
  -- a stop behind some items leaves nothing of the line
  pub left_of_load : (state : State) (items : List Item) (before said : List ℕ) (files : ℕ → List ℕ) → Left l.rules state items before said files → LoadLeft l state items before said files
  left_of_load state items before said files left = record {
    i = left.i;
    within = left.within;
    opens = left.opens;
    out = 0;
    said_is = left.said_is ∙ ap (λ (r : List ℕ). before ++ take left.out r) (nothing_said l.rules silent state (take left.i items)) ∙ ap (λ (r : List ℕ). before ++ r) (take-nil left.out);
    last = inr refl;
  }

-- the stops of storing the items are stops of the load
module _ {State Item : Type 0} (p : Plan State Item) (silent : (s : State) (item : Item) → p.rules.reply s item ≡ []) where
  -- no reply breaks off
  never_cut : (desk : Desk) → BreaksOff p desk → ⊥
  never_cut desk off = absurd (let none = ap length (nothing_said p.rules silent (state_after p.rules p.first off.done) off.now) in omega (arith, off.some, none))

  pub items_stop : (line : List ℕ) (told : Type 0) (old new : Desk) (stop : Stop) → ItemsStop p told lacks_alone nowhere old new stop → LoadingStop p line told old new stop
  items_stop line told old new StoreFault is = is
  items_stop line told old new (StoreCorrupt file at) is = is
  items_stop line told old new InputFault is = is
  items_stop line told old new OutputFault is = (is.0, λ t. absurd (never_cut new (is.1 t)))
  items_stop line told old new NoMemory is = is
  items_stop line told old new (StoreFull n) is = is
  items_stop line told old new InputTooLong is = is
