-- A line and what it reads as.
use Rattle.std.proofs.Common.{◌≡◌, ℕ, List, Bool, true, false, Some, None, refl, cond}
use Rattle.std.specs.Str.{is_utf8, IsUtf8}
use Rattle.std.proofs.lemmas.Str.{IsUtf8-from_is_utf8, is_utf8-from_IsUtf8}
use Rattle.serde_json.specs.Data.{Data}
use Rattle.serde_json.specs.Read.{read}
use Rattle.iv_time.specs.Texts.{◌>>=◌}
use Rattle.cmd_words.specs.Lines.{CommandOf, command_of}

pub line_of_value : (line : List ℕ) (d : Data) → IsUtf8 line → read line ≡ Some d → CommandOf line ≡ command_of d
unfolding CommandOf
line_of_value line d u e = rw (is_utf8-from_IsUtf8 line u, e) refl

none_by : (line : List ℕ) (b : Bool) → (b ≡ true → read line ≡ None) → (cond b (read line >>= command_of) None) ≡ None
none_by line true h = rw (h refl) refl
none_by line false h = refl

pub line_of_none : (line : List ℕ) → (IsUtf8 line → read line ≡ None) → CommandOf line ≡ None
unfolding CommandOf
line_of_none line h = none_by line (is_utf8 line) (λ e. h (IsUtf8-from_is_utf8 line e))
