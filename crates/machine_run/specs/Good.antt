-- What a store stands for is good.
use Rattle.std.proofs.Common.{◌≡◌, ℕ, ◌+◌, Bool, true, false, List, [], ◌∷◌, length, take, drop, Option, Some, None, refl, subst}
use Rattle.gate_log.specs.Format.{Opening, absent, corrupt, opened, opening_of, Records, records_at}
use Rattle.machine_run.specs.Rules.{Rules, HasGoodStates, state_after}
use Rattle.machine_run.specs.Stores.{is_state, is_bad, behind, no_log, restored, restored_by, store_alone, store_by, store_of}

module _ {State Item : Type 0} (m : Rules State Item) (good : HasGoodStates m) where
  same_state : (s t : State) → is_state s ≡ is_state t → s ≡ t
  same_state s t e = cc

  no_state : (file at : ℕ) (t : State) → is_bad file at ≡ is_state t → ⊥
  no_state file at t e = cc

  restored_good : (at : ℕ) (s : State) (bodies : List (List ℕ)) (whole : Bool) (place : ℕ) (t : State) → m.good s → restored m at s bodies whole place ≡ is_state t → m.good t
  restored_good at s [] true place t is_good e = subst m.good (same_state s t e) is_good
  restored_good at s [] false place t is_good e = absurd (no_state 0 place t e)
  restored_good at s (body ∷ bodies) whole place t is_good e = by (m.restore s body) refl e (λ next later rest. restored_good (at + 5 + length body) next bodies whole place t later rest)
    where
      by : (o : Option State) → m.restore s body ≡ o → behind o (λ next. restored m (at + 5 + length body) next bodies whole place) at ≡ is_state t
          → ((next : State) → m.good next → restored m (at + 5 + length body) next bodies whole place ≡ is_state t → m.good t) → m.good t
      by None is e rest = absurd (no_state 0 at t e)
      by (Some next) is e rest = rest next (good.restore_good s body next is_good is) e

  records_good : (at : ℕ) (s : State) (records : Records) (t : State) → m.good s → restored_by m at s records ≡ is_state t → m.good t
  records_good at s records t is_good e = restored_good at s records.bodies records.is_whole records.place t is_good e

  alone_good : (alone : Bool) (at : ℕ) (s : State) (first : List ℕ) (t : State) → m.good s → store_alone m alone at s first ≡ is_state t → m.good t
  alone_good true at s first t is_good e = records_good at s (records_at first at) t is_good e
  alone_good false at s first t is_good e = absurd (no_state 1 0 t e)

  opening_good : (header : Opening) (alone : Bool) (first : List ℕ) (t : State) → store_by m header alone first ≡ is_state t → m.good t
  opening_good absent true first t e = subst m.good (same_state m.first t e) good.first_good
  opening_good absent false first t e = absurd (no_state 1 0 t e)
  opening_good (corrupt at) alone first t e = absurd (no_state 0 at t e)
  opening_good (opened generation size) alone first t e = by (m.load (take size (drop 26 first))) refl e
    where
      by : (o : Option State) → m.load (take size (drop 26 first)) ≡ o → behind o (λ s. store_alone m alone (26 + size) s first) 18 ≡ is_state t → m.good t
      by None is e = absurd (no_state 0 18 t e)
      by (Some s) is e = alone_good alone (26 + size) s first t (good.load_good (take size (drop 26 first)) s is) e

  -- whatever bytes two files have, a state that they stand for is good
  pub store_good : (first second : List ℕ) (s : State) → store_of m first second ≡ is_state s → m.good s
  unfolding store_of
  store_good first second s e = opening_good (opening_of first) (no_log (opening_of second)) first s e

  -- and so is each one that items lead to from there
  pub good_after : (s : State) (items : List Item) → m.good s → m.good (state_after m s items)
  good_after s [] is_good = is_good
  good_after s (item ∷ items) is_good = good_after (m.next s item) items (good.next_good s item is_good)
