-- A file that is open stays so.
use Rattle.std.proofs.Common.{◌≡◌, ◌/◌, ℕ, sym, subst}
use Rattle.std.specs.Prelude.{Option, List}
use Rattle.std.specs.Option.{IsSome}
use Rattle.host_desk.specs.Desk.{Desk, IsOpen}

-- where the same pairs are opened as before
pub open_later : (old new : Desk) (file : ℕ) → new.opened ≡ old.opened → IsOpen old file → IsOpen new file
open_later old new file same is = record { number = is.number; pair = subst (λ (opened : ℕ → Option (List ℕ)). IsSome (opened (file / 2))) (sym same) is.pair }
