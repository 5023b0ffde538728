-- The steps of a load.
use Rattle.std.specs.Prelude.{◌∷◌, ◌≡◌, List, [], ℕ}
use Rattle.machine_run.specs.Rules.{bytes_of}
use Rattle.load_run.specs.Loads.{Loading, counted}
use Rattle.load_run.specs.declared.tally.Tally.{Tally}

-- The first item was taken and decided: these bytes tell its change, and it is counted.
pub record IsStep {State Item : Type 0} (l : Loading State Item) (before after : List Item) (s t : State) (changes : List ℕ) (was now : Tally) : Type 0 where
  pub item : Item
  pub taken : before ≡ item ∷ after
  pub changes_is : changes ≡ bytes_of (l.rules.body s item)
  pub state_is : t ≡ l.rules.next s item
  pub tally_is : now ≡ counted was (l.refuses s item)

-- no item is left, and nothing was done
pub record IsEnd {State Item : Type 0} (before : List Item) (s t : State) (was now : Tally) : Type 0 where
  pub none : before ≡ []
  pub state_is : t ≡ s
  pub tally_is : now ≡ was
