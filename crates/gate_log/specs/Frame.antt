-- A record as its bytes are written.
use Rattle.std.specs.Prelude.{◌≡◌, ℕ, ◌-◌, ◌<◌, ◌^◌, List, length, take, drop}
use Rattle.gate_log.specs.Format.{frame_of}

-- the body in a frame's bytes
abbrev pub body_of : List ℕ → List ℕ
body_of bytes = take (length bytes - 5) (drop 4 bytes)

-- the bytes are the frame of a body that a record may have
pub record IsFrame (bytes : List ℕ) : Type 0 where
  pub framed : bytes ≡ frame_of (body_of bytes)
  pub some : 0 < length (body_of bytes)
  pub fits : length (body_of bytes) < 2 ^ 32
