-- The commands of a record.
use Rattle.std.specs.Prelude.{◌≡◌, ℕ, zero, suc, ◌<◌, List, [], ◌∷◌, ◌++◌, length, true, Option, Some, None, Result, Ok, Err, ◌⊎◌}
use Rattle.std.specs.Global.{Vec}
use Rattle.std.specs.List.{AllByRecursion, flat_map}
use Rattle.wire_fields.specs.Fields.{◌>>=◌}
use Rattle.book_rows.specs.Form.{keeps_form}
use Rattle.book_rows.specs.declared.commands.Command.{Command}
use Rattle.cmd_codec.specs.Spelling.{spelling, has_tag}
use Rattle.cmd_codec.specs.Reading.{Reader, command_at}
use Rattle.cmd_codec.specs.declared.fault.CodecFault.{CodecFault}
use Rattle.cmd_codec.specs.declared.fault.CodecFault.TheVariants.{BadRecord, OutOfMemory}

-- The command can be spelled: it keeps its form and has a tag.
abbrev pub IsSpelled : Command → Type 0
IsSpelled c = (keeps_form c ≡ true) × (has_tag c ≡ true)

abbrev pub AreSpelled : List Command → Type 0
AreSpelled = AllByRecursion IsSpelled

-- the bytes of commands, one after another
abbrev pub record_of : List Command → List ℕ
record_of = flat_map spelling

-- all commands to the end of the bytes, of which there are at most as many as the number says
unfoldable pub each_to_end : Reader Command → ℕ → List ℕ → Option (List Command)
each_to_end read most [] = Some []
each_to_end read zero (x ∷ bytes) = None
each_to_end read (suc most) (x ∷ bytes) = do
  first ← read (x ∷ bytes)
  others ← each_to_end read most first.1
  Some (first.0 ∷ others)

-- one command or more, each of a byte at least, to the end of the body
unfoldable pub body_of : Reader Command → List ℕ → Option (List Command)
body_of read [] = None
body_of read (x ∷ bytes) = each_to_end read (length (x ∷ bytes)) (x ∷ bytes)

-- The commands of a record's body: one or more, to its end.
abbrev pub commands_of : List ℕ → Option (List Command)
commands_of = body_of command_at

-- no command begins the bytes
abbrev pub IsNoCommand : List ℕ → Type 0
IsNoCommand rest = (c : Command) (more : List ℕ) → IsSpelled c → rest ≡ spelling c ++ more → ⊥

-- the place of the first command that doesn't read: where the commands before it end, which is the start of an empty body
abbrev pub IsFirstFault : List ℕ → ℕ → Type 0
IsFirstFault body at = (before : List Command) × (rest : List ℕ) × (body ≡ record_of before ++ rest) × AreSpelled before × (at ≡ length (record_of before)) × IsNoCommand rest × ((0 < length rest) ⊎ (body ≡ []))

-- What a body reads as: its commands, of which it is the spelling, or the place of its first fault.
abbrev pub ReadsRecord : List ℕ → Result (Vec Command) CodecFault → Type 0
ReadsRecord body (Ok v) = (commands_of body ≡ Some v.items) × (body ≡ record_of v.items) × AreSpelled v.items × (0 < length v.items)
ReadsRecord body (Err (BadRecord at)) = (commands_of body ≡ None) × IsFirstFault body at
ReadsRecord body (Err OutOfMemory) = Unit {0}
