-- Files that are no store are left alone.
use Rattle.std.proofs.Common.{◌≡◌, ℕ, ◌≤◌, List, sym, ◌∙◌, ap}
use Rattle.host_desk.specs.Desk.{Desk, Stays, IsNow}
use Rattle.host_desk.proofs.Moments.{since_then, since_stays}
use Rattle.machine_run.specs.Rules.{Rules}
use Rattle.machine_run.specs.Stores.{is_state, is_bad, store_of}
use Rattle.machine_run.specs.Opening.{Nothing, IsUntouched, StoreIs}

-- by calls that change nothing
pub untouched_stays : (a b : Desk) → ((t : ℕ) (s : List ℕ) (f : ℕ → List ℕ) → t ≤ a.moment → IsNow a s f → a.observed t s f) → Stays a b → IsUntouched a b
untouched_stays a b counts stays = record { since = since_stays Nothing a b counts stays; seen = stays.seen; said = stays.said }

-- one after another
pub untouched_then : (a b c : Desk) → IsUntouched a b → IsUntouched b c → IsUntouched a c
untouched_then a b c first then = record { since = since_then Nothing a b c first.since then.since; seen = then.seen ∙ first.seen; said = then.said ∙ first.said }

-- they are no store, where they stand for a state
pub no_store : {State Item : Type 0} (m : Rules State Item) (a b c : Desk) (state : State) (file at : ℕ) → StoreIs m a ≡ is_state state → StoreIs m a ≡ is_bad file at → IsUntouched b c
no_store m a b c state file at is bad = absurd (let both : is_state state ≡ is_bad file at = sym is ∙ bad in cc)

-- they still are none, where they read as they did
pub still_bad : {State Item : Type 0} (m : Rules State Item) (a b : Desk) (file at : ℕ) → b.seen ≡ a.seen → StoreIs m a ≡ is_bad file at → StoreIs m b ≡ is_bad file at
still_bad m a b file at same bad = ap (λ (s : ℕ → List ℕ). store_of m (s 0) (s 1)) same ∙ bad
