-- Short names for cases at bounds: the first and the last instants, spans, texts of a length, and commands that keep no form.
use Rattle.book_rows.specs.Form.{keeps_form}
use Rattle.book_rows.specs.declared.commands.Command.{Command}
use Rattle.iv_span.specs.Extent.{Extent}
use Rattle.std.specs.List.{list_all}
use Rattle.std.specs.Prelude.{List, neg_ℤ, not, pos, replicate, true, ℕ, ℤ, ◌≡◌}

-- the first and the last instant there are, and those beside them that there aren't
abbrev pub first_moment : ℤ
first_moment = neg_ℤ (pos 62167219200000)

abbrev pub before_first : ℤ
before_first = neg_ℤ (pos 62167219200001)

abbrev pub last_moment : ℤ
last_moment = pos 253402300799999

abbrev pub after_last : ℤ
after_last = pos 253402300800000

abbrev pub between : ℤ → ℤ → Extent
between low high = record { start = low; end = high }

-- a text of so many letters
abbrev pub letters : ℕ → List ℕ
letters n = replicate n 97

-- none of them keeps the form
abbrev pub AreIllFormed : List Command → Type 0
AreIllFormed commands = list_all (λ command. not (keeps_form command)) commands ≡ true
