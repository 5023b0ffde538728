-- What a reader of a part of a line answers, and what it means.
use Rattle.std.specs.Prelude.{◌≡◌, Option, Some, None, Result, Ok, Err}
use Rattle.cmd_words.specs.declared.fault.LineFault.{LineFault}
use Rattle.cmd_words.specs.declared.fault.LineFault.TheVariants.{BadCommand, OutOfMemory}

-- a fault stands for nothing to read, unless memory ran out
abbrev pub Fails : {Y : Type 0} → LineFault → Option Y → Type 0
Fails BadCommand read = read ≡ None
Fails OutOfMemory read = Unit {0}

-- What a reader answered, seen by a view, is what there is to read, unless memory ran out.
abbrev pub GivesBy : {X Y : Type 0} → (X → Y) → Result X LineFault → Option Y → Type 0
GivesBy view (Ok x) read = read ≡ Some (view x)
GivesBy view (Err e) read = Fails e read

abbrev pub Gives : {X : Type 0} → Result X LineFault → Option X → Type 0
Gives = GivesBy (λ x. x)
