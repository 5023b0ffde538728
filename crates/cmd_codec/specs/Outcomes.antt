-- What a reader over a cursor answers.
use Rattle.std.specs.Prelude.{◌≡◌, ℕ, List, Option, Some, None, Result, Ok, Err}
use Rattle.wire_fields.specs.Fields.{Left, Passes}
use Rattle.cmd_codec.specs.declared.fault.ReadFault.{ReadFault}
use Rattle.cmd_codec.specs.declared.fault.ReadFault.TheVariants.{Bad, OutOfMemory}

-- a fault stands for nothing to read, unless memory ran out
abbrev pub Fails : {Y : Type 0} → ReadFault → Option Y → Type 0
Fails Bad read = read ≡ None
Fails OutOfMemory read = Unit {0}

-- what a reader answered, seen by a view, is what reading gives, and the cursor stands after it
abbrev pub GivesBy : {X Y : Type 0} → (X → Y) → Option (Y × List ℕ) → Result X ReadFault → Left → Left → Type 0
GivesBy view read (Ok x) old new = (read ≡ Some (view x, new.rest)) × Passes old new
GivesBy view read (Err e) old new = Fails e read

abbrev pub Gives : {X : Type 0} → Option (X × List ℕ) → Result X ReadFault → Left → Left → Type 0
Gives = GivesBy (λ x. x)
