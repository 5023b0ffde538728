-- The records of a log are read one after another.
use Rattle.std.proofs.Common.{◌≡◌, ℕ, ◌+◌, List, [], ◌∷◌, ◌++◌, Option, Some, None, refl, sym, ◌∙◌, ap, arith}
use Rattle.gate_log.specs.Format.{Records, records_at}
use Rattle.gate_log.specs.Log.{Mark, ReadUpTo, HasNext, HasEnded, IsTorn}
use Rattle.machine_run.specs.Rules.{Rules, weight}
use Rattle.machine_run.specs.Stores.{is_bad, behind, restored_by}
use Rattle.machine_run.specs.Adding.{weight-append}
use Rattle.machine_run.specs.Opening.{IsRestored, IsRestoring}
use Rattle.machine_run.proofs.Laws.{replayed-push}

module _ {State Item : Type 0} (m : Rules State Item) (bytes : List ℕ) (first : State) (start : ℕ) where
  -- before the first record
  pub restoring-start : (log : Mark) → log.place ≡ start → ReadUpTo bytes log [] → IsRestoring m bytes first start first log
  restoring-start log place read = record {
    bodies = [];
    read = read;
    place_is = omega (arith, place);
    state_is = refl;
    rest = ap (λ (k : ℕ). restored_by m k first (records_at bytes k)) (sym place);
  }

  module _ (state : State) (log : Mark) (so_far : IsRestoring m bytes first start state log) where
    -- the first of the records that are left, and the others
    split : (body : List ℕ) (next : Mark) → HasNext bytes log next body → restored_by m start first (records_at bytes start) ≡ behind (m.restore state body) (λ s. restored_by m next.place s (records_at bytes next.place)) log.place
    split body next has = so_far.rest ∙ ap (λ (r : Records). restored_by m log.place state r) has.here ∙ ap (λ (k : ℕ). behind (m.restore state body) (λ s. restored_by m k s (records_at bytes next.place)) log.place) (sym has.place_is)

    -- a record more
    pub restoring-next : (body : List ℕ) (next : Mark) (after : State) → HasNext bytes log next body → m.restore state body ≡ Some after → IsRestoring m bytes first start after next
    restoring-next body next after has on = record {
      bodies = so_far.bodies ++ body ∷ [];
      read = has.read so_far.bodies so_far.read;
      place_is = let all : weight (so_far.bodies ++ body ∷ []) ≡ weight so_far.bodies + weight (body ∷ []) = weight-append so_far.bodies (body ∷ []) in omega (arith, all, has.place_is, so_far.place_is);
      state_is = replayed-push m first so_far.bodies state body after so_far.state_is on;
      rest = split body next has ∙ ap (λ (o : Option State). behind o (λ s. restored_by m next.place s (records_at bytes next.place)) log.place) on;
    }

    -- one that is none in this state
    pub restoring-bad : (body : List ℕ) (next : Mark) → HasNext bytes log next body → m.restore state body ≡ None → restored_by m start first (records_at bytes start) ≡ is_bad 0 log.place
    restoring-bad body next has off = split body next has ∙ ap (λ (o : Option State). behind o (λ s. restored_by m next.place s (records_at bytes next.place)) log.place) off

    -- the last was read
    pub restoring-end : start ≡ 26 + log.snapshot_length → HasEnded bytes log → IsRestored m bytes first state log
    restoring-end from ended = record { bodies = so_far.bodies; describes = so_far.read.describes; says_is = ended.read so_far.bodies so_far.read; place_is = omega (arith, from, so_far.place_is); state_is = so_far.state_is }

    -- one that isn't whole
    pub restoring-torn : IsTorn bytes log → restored_by m start first (records_at bytes start) ≡ is_bad 0 log.place
    restoring-torn torn = so_far.rest ∙ ap (λ (r : Records). restored_by m log.place state r) torn.here
