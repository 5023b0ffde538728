-- What was read of a file.
use Rattle.std.specs.Prelude.{◌≡◌, ℕ, ◌+◌, ◌-◌, ◌<◌, ◌≤◌, ◌⊎◌, List, [], ◌∷◌, ◌++◌, length, take, drop, get_or}
use Rattle.gate_log.specs.Numbers.{number_32}
use Rattle.gate_log.specs.Format.{records_at, ends_here, is_torn_here, joined}
use Rattle.gate_log.specs.declared.reading.Head.{Head}
use Rattle.gate_log.specs.declared.reading.Head.TheVariants.{Missing, Closed, Torn, Body}

-- the piece has n bytes of the file from this place on: all of the piece, or all there are
pub record FillsAll (bytes : List ℕ) (at : ℕ) (old new : List ℕ) (n : ℕ) : Type 0 where
  pub filled : new ≡ take n (drop at bytes) ++ drop n old
  pub within : n ≤ length bytes - at
  pub all : (length old ≤ n) ⊎ (length bytes - at ≤ n)

-- an open gate over a whole frame with so many bytes of body
pub record HasFrame (bytes : List ℕ) (place size : ℕ) : Type 0 where
  pub is_open : get_or bytes place 0 ≡ 1
  pub size_is : number_32 (take 4 (drop (place + 1) bytes)) ≡ size
  pub some : 0 < size
  pub fits : place + 5 + size < length bytes

-- what was read of a record's head
abbrev pub HeadSays : List ℕ → ℕ → Head → Type 0
HeadSays bytes place Missing = ⊥
HeadSays bytes place Closed = records_at bytes place ≡ ends_here place
HeadSays bytes place Torn = records_at bytes place ≡ is_torn_here place
HeadSays bytes place (Body size) = HasFrame bytes place size

-- a body and one gate more lie within a file of this length
abbrev pub HeadFits : ℕ → ℕ → Head → Type 0
HeadFits place file_length Missing = Unit {0}
HeadFits place file_length Closed = Unit {0}
HeadFits place file_length Torn = Unit {0}
HeadFits place file_length (Body size) = place + 5 + size < file_length

-- the body at a place comes first there, and the rest stands behind it
pub record HasBody (bytes : List ℕ) (place size : ℕ) (body : List ℕ) : Type 0 where
  pub here : records_at bytes place ≡ joined (body ∷ []) (records_at bytes (place + 5 + size))
  pub inside : place + 5 + size < length bytes
  pub size_is : length body ≡ size
