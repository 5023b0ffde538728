-- What a reader over a cursor answers.
use Rattle.std.specs.Prelude.{◌≡◌, ⊤, ℕ, List, Result, Ok, Err}
use Rattle.wire_fields.specs.Fields.{Left}
use Rattle.snap_codec.specs.declared.fault.ReadFault.{ReadFault}
use Rattle.snap_codec.specs.declared.fault.ReadFault.TheVariants.{Bad, OutOfMemory}

-- a fault says how many bytes are left from the field on that doesn't read, unless memory ran out
abbrev pub Fails : {Y : Type 0} → ReadFault → Result Y ℕ → Type 0
Fails (Bad left) read = read ≡ Err left
Fails OutOfMemory read = ⊤

-- what a reader answered, seen by a view, is what reading gives, and the cursor stands after it
abbrev pub GivesBy : {X Y : Type 0} → (X → Y) → Result (Y × List ℕ) ℕ → Result X ReadFault → Left → Type 0
GivesBy view read (Ok x) new = read ≡ Ok (view x, new.rest)
GivesBy view read (Err e) new = Fails e read

abbrev pub Gives : {X : Type 0} → Result (X × List ℕ) ℕ → Result X ReadFault → Left → Type 0
Gives = GivesBy (λ x. x)
