-- The file of a store that was opened in the first pair is open.
use Rattle.std.proofs.Common.{◌≡◌, ◌/◌, ℕ, List, Option, sym, subst}
use Rattle.std.specs.Option.{IsSome}
use Rattle.host_desk.specs.Desk.{Desk, IsOpen}
use Rattle.gate_log.specs.Log.{Mark}
use Rattle.twin_store.specs.Stores.{IsOpened}

pub file_open : (a b : Desk) (limit : ℕ) (log : Mark) → b.opened ≡ a.opened → IsOpen a 0 → IsOpened 0 limit log → IsOpen b log.file
file_open a b limit log same is_open is_opened = record {
  number = is_opened.number;
  pair = subst (λ (o : ℕ → Option (List ℕ)). IsSome (o (log.file / 2))) (sym same) (subst (λ (pair : ℕ). IsSome (a.opened pair)) (sym is_opened.pair_is) is_open.pair);
}
