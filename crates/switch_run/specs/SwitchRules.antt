-- The rules of a switch.
use Rattle.std.specs.Prelude.{ℕ, Bool, true, false, not, ◌==◌, List, [], ◌∷◌, Option, Some, None, if◌then◌else◌}
use Rattle.machine_run.specs.Rules.{Rules}

-- the byte of an order
abbrev pub byte_of : Bool → ℕ
byte_of order = if order then 49 else 48

-- an order that turns the switch is stored
abbrev pub body_of : Bool → Bool → Option (List ℕ)
body_of true true = None
body_of true false = Some (48 ∷ [])
body_of false true = Some (49 ∷ [])
body_of false false = None

-- each byte of a record turns the switch
abbrev pub restore_of : Bool → List ℕ → Option Bool
restore_of is_on [] = Some is_on
restore_of is_on (byte ∷ bytes) = if byte == byte_of (not is_on) then restore_of (not is_on) bytes else None

abbrev pub load_of : List ℕ → Option Bool
load_of [] = Some false
load_of (byte ∷ bytes) = None

-- the reply to an order is its byte; on and off are both good
abbrev pub switch_rules : Rules Bool Bool
switch_rules = record { good = λ is_on. Unit {0}; first = false; reply = λ is_on order. byte_of order ∷ []; next = λ is_on order. order; body = body_of; restore = restore_of; load = load_of; longest = 0; weigh = λ order. 1 }
