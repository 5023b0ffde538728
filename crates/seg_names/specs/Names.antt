-- The texts of names and of task ids.
use Rattle.std.specs.Prelude.{ℕ, List, Bool, ◌&&◌, ◌||◌, ◌==◌, length, nat_le}
use Rattle.std.specs.List.{list_all}
use Rattle.std.specs.Str.{is_utf8}

abbrev pub is_between : ℕ → ℕ → ℕ → Bool
is_between low high x = nat_le low x && nat_le x high

-- an ASCII letter or digit, or one of `_`, `-` and `.`
abbrev pub is_name_byte : ℕ → Bool
is_name_byte x = is_between 97 122 x || is_between 65 90 x || is_between 48 57 x || (x == 95) || (x == 45) || (x == 46)

-- 1 to 200 bytes that a name may hold
abbrev pub is_name : List ℕ → Bool
is_name text = nat_le 1 (length text) && nat_le (length text) 200 && list_all is_name_byte text

-- 1 to 255 bytes of UTF-8
abbrev pub is_task_id : List ℕ → Bool
is_task_id text = nat_le 1 (length text) && nat_le (length text) 255 && is_utf8 text
