-- What a stop left of a host in memory.
use Rattle.std.specs.Prelude.{◌≡◌, ℕ, List, length}
use Rattle.host_desk.specs.declared.call.Call.{Call}
use Rattle.host_desk.specs.declared.stop.Pick.{Pick}
use Rattle.host_desk.specs.declared.stop.Image.{Image}
use Rattle.host_desk.specs.Picked.{picked_files, picked_said}
use Rattle.host_desk.specs.Replay.{items_of, file_of}

-- How many bytes were said.
abbrev pub said_count : Image → ℕ
said_count image = image.said

-- The bytes of a file, none for a number that is no file's.
abbrev pub file_in : Image → ℕ → List ℕ
file_in image file = file_of (items_of image.files.items) file

-- The image has the files that the pick says, and counts the bytes said by then.
pub record IsPicked (pick : Pick) (first : List (List ℕ)) (calls : List Call) (number : ℕ) (image : Image) : Type 0 where
  pub files : items_of image.files.items ≡ picked_files pick first calls number
  pub said : image.said ≡ length (picked_said pick first calls number)
