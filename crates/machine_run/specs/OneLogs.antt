-- A store that is one log, in the first file of its pair.
use Rattle.std.specs.Prelude.{◌≡◌, ℕ, ◌+◌, ◌<◌, true}
use Rattle.host_desk.specs.Desk.{Desk}
use Rattle.host_desk.specs.Since.{IsSettled}
use Rattle.gate_log.specs.Format.{opening_of, says, is_log}
use Rattle.gate_log.specs.Log.{Mark, Describes}
use Rattle.machine_run.specs.Stores.{Content, no_log, length_of}

-- It is open: its log was read to the end, and this is what it holds.
pub record IsStore (log : Mark) (c : Content) (desk : Desk) : Type 0 where
  pub file : log.file ≡ 0
  pub settled : (file : ℕ) → file < 2 → IsSettled desk file
  pub second : no_log (opening_of (desk.seen 1)) ≡ true
  pub describes : Describes log (desk.seen 0)
  pub says_is : says (desk.seen 0) ≡ is_log c.generation c.snapshot c.bodies log.place
  pub length_is : log.place + 1 ≡ length_of c
